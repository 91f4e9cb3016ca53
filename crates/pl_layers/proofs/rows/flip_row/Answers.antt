use Rattle.std.proofs.Common.{◌≤◌, ◌∙◌, ap, min, arith}
use Rattle.pl_grid.specs.Extent.{Extent}
use Rattle.pl_layers.specs.Rows.{columns_hit}
use Rattle.pl_layers.proofs.Flipping.{row_there, row_flipped}
use Rattle.pl_layers.proofs.rows.flip_row.Goals as goal

pub toggle_row-requires-clause-row : goal.toggle_row-requires-clause-row
toggle_row-requires-clause-row c =
    let small : c.args.row ≤ 8192 = omega (arith, c.requires.row, c.bounds.invariant.high, ap (λ (e : Extent). e.rows) c.bounds.view_is) in
    row_there c.args.plane.now.bounds c.args.bounds c.args.row c.requires.bounds c.requires.origin_y c.requires.row small

pub returns : goal.returns
returns c =
    let small : c.args.row ≤ 8192 = omega (arith, c.requires.row, c.bounds.invariant.high, ap (λ (e : Extent). e.rows) c.bounds.view_is) in
    let few : c.columns_hit-count.result ≤ 8192 = omega (arith, c.columns_hit-count.ensures, c.bounds.invariant.wide, ap (λ (e : Extent). e.cols) c.bounds.view_is) in
    row_flipped c.args.plane.now c.toggle_row.new.self c.args.bounds c.args.corner.now c.first_point-first.result c.args.facet.now c.args.row c.columns_hit-count.result c.requires.bounds c.requires.origin_x c.first_point-first.ensures (c.columns_hit-count.ensures ∙ ap (λ (e : Extent). min e.cols (columns_hit 400000 c.first_point-first.result c.args.facet.now)) c.bounds.view_is) few small c.toggle_row.ensures
