use Rattle.std.proofs.Common.{◌≡◌, ◌<◌, ◌∙◌, sym, length, arith}
use Rattle.std.specs.Int.{int_min, int_max}
use Rattle.pl_stl.specs.Spans.{part_of}
use Rattle.pl_stl.specs.Coordinates.{coordinates}
use Rattle.pl_stl.proofs.Extremes.{chosen_none, chosen_next, chosen_all, least_is, greatest_is, IsChoice-int_min, IsChoice-int_max}
use Rattle.pl_stl.proofs.span.span_of.Goals as goal

pub loop-facet-init : goal.loop-facet-init
loop-facet-init c = (chosen_none int_min (part_of c.args.which) _ c.args.facets.now c.part_of-first.ensures.near, chosen_none int_max (part_of c.args.which) _ c.args.facets.now c.part_of-first.ensures.near)

pub loop-facet-preserved : goal.loop-facet-preserved
loop-facet-preserved c =
    let less : c.loop-facet.facet-index < length c.args.facets.now = omega arith in
    (chosen_next int_min (part_of c.args.which) _ c.args.facets.now c.loop-facet.facet-index _ c.loop-facet.span.least.0 c.widened-span.result.least.0 IsChoice-int_min c.loop-facet.invariant.0 less c.widened-span.ensures.least c.widened-span.ensures.near.low, chosen_next int_max (part_of c.args.which) _ c.args.facets.now c.loop-facet.facet-index _ c.loop-facet.span.greatest.0 c.widened-span.result.greatest.0 IsChoice-int_max c.loop-facet.invariant.1 less c.widened-span.ensures.greatest c.widened-span.ensures.near.high)

pub returns : goal.returns
returns c =
    let all : c.loop-facet.facet-index ≡ length c.args.facets.now = omega arith in
    record {
      least = chosen_all int_min (part_of c.args.which) _ c.args.facets.now c.loop-facet.facet-index _ c.loop-facet.span.least.0 IsChoice-int_min c.loop-facet.invariant.0 all c.requires.some c.part_of-first.ensures.value ∙ sym (least_is (coordinates (part_of c.args.which) c.args.facets.now));
      greatest = chosen_all int_max (part_of c.args.which) _ c.args.facets.now c.loop-facet.facet-index _ c.loop-facet.span.greatest.0 IsChoice-int_max c.loop-facet.invariant.1 all c.requires.some c.part_of-first.ensures.value ∙ sym (greatest_is (coordinates (part_of c.args.which) c.args.facets.now));
      near = record { low = c.loop-facet.invariant.0.near; high = c.loop-facet.invariant.1.near };
    }
