use Rattle.std.proofs.Common.{◌≡◌, ◌≤◌, ◌∙◌, ap, sym, arith, pos}
use Rattle.pl_grid.specs.Extent.{Extent}
use Rattle.pl_layers.proofs.Flipping.{rows_none, rows_step, rows_all, inside_of_box}
use Rattle.pl_layers.proofs.rows.flip_facet.Goals as goal

pub loop-row-init : goal.loop-row-init
loop-row-init c =
    let origin : c.args.plane.now.bounds.y0 ≡ pos 0 = ap (λ (e : Extent). e.y0) c.requires.bounds ∙ c.requires.origin_y in
    rows_none c.args.corner.now c.args.facet.now c.args.plane.now c.rows_across-rows.result.from c.requires.full origin (λ j inside below. c.rows_across-rows.ensures.before j (inside_of_box c.args.plane.now.bounds _ j (c.requires.bounds ∙ sym c.bounds.view_is) inside) below)

pub loop-row-preserved : goal.loop-row-preserved
loop-row-preserved c =
    let origin : c.args.plane.now.bounds.y0 ≡ pos 0 = ap (λ (e : Extent). e.y0) c.requires.bounds ∙ c.requires.origin_y in
    rows_step c.args.corner.now c.args.facet.now c.args.plane.now c.loop-row.plane c.flip_row.new.plane c.loop-row.row origin c.loop-row.invariant c.flip_row.ensures

pub returns : goal.returns
returns c =
    let origin : c.args.plane.now.bounds.y0 ≡ pos 0 = ap (λ (e : Extent). e.y0) c.requires.bounds ∙ c.requires.origin_y in
    let last : c.rows_across-rows.result.to ≤ c.loop-row.row = omega arith in
    c.loop-row.invariant ∙ rows_all c.args.corner.now c.args.facet.now c.args.plane.now c.loop-row.row origin (λ j inside from. c.rows_across-rows.ensures.after j (inside_of_box c.args.plane.now.bounds _ j (c.requires.bounds ∙ sym c.bounds.view_is) inside) (omega (arith, last, from)))
