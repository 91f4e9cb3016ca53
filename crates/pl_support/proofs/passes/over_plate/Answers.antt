use Rattle.std.proofs.Common.{◌≡◌, true, false, length, ap, arith}
use Rattle.std.proofs.lemmas.List.FromFn.{length-map-range_with_len}
use Rattle.pl_support.specs.Support.{support_at, support_of}
use Rattle.pl_support.proofs.SupportLemmas.{support_there, layers_more}
use Rattle.pl_support.proofs.passes.over_plate.Goals as goal

pub bounds-cells-k : goal.bounds-cells-k
bounds-cells-k c =
    let all : length c.args.cells.now ≡ length (support_of true false c.args.slices.now) = ap length c.requires.cells in
    omega (arith, all, length-map-range_with_len (support_at true false c.args.slices.now) 0 (length c.args.slices.now))

pub cells_over_plate-requires-clause-cells : goal.cells_over_plate-requires-clause-cells
cells_over_plate-requires-clause-cells c = support_there c.args.slices.now c.args.cells.now c.loop-k.k c.index-cells-k.result c.requires.cells (omega arith) c.index-cells-k.is

pub loop-k-preserved : goal.loop-k-preserved
loop-k-preserved c = record {
  done = layers_more (support_at true true c.args.slices.now) c.loop-k.k c.loop-k.kept.items _ c.in_ok-cells_over_plate.field-0 c.loop-k.invariant.done c.in_ok-cells_over_plate.ensures c.in_ok-push.ensures.items;
  lower = c.in_ok-covered-2.ensures;
}
