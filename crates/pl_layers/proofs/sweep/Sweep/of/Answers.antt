use Rattle.std.proofs.Common.{rules, ◌∙◌, ap, sym, arith, refl}
use Rattle.pl_layers.specs.Turned.{turned_mesh, box_of}
use Rattle.pl_layers.specs.Sweeps.{base_of}
use Rattle.pl_layers.proofs.Points.{base_is, box_is}
use Rattle.pl_layers.proofs.sweep.Sweep.of.Goals as goal

pub invariant_of-result : goal.invariant_of-result
invariant_of-result c =
    let same = sym c.facets-facets.ensures.facets in
    record {
      mesh = search rules;
      quarter = c.requires.quarter;
      heights = c.requires.heights;
      bounds = c.box_over.ensures ∙ box_is c.span_x-x.result c.span_y-y.result c.args.quarter c.args.mesh.now c.span_x-x.ensures c.span_y-y.ensures ∙ ap (box_of c.args.quarter) same;
      base = base_is c.args.quarter c.args.mesh.now c.span_x-x.result c.span_y-y.result c.span-z.result _ c.span_x-x.ensures c.span_y-y.ensures c.span-z.ensures c.sum.ensures c.sum-2.ensures refl ∙ ap (λ fs. base_of (turned_mesh c.args.quarter fs)) same;
      starts = c.in_ok-order.ensures.starts;
      rising = c.in_ok-order.ensures.rising;
      next = omega arith;
      close = search rules;
      left = search rules;
    }
