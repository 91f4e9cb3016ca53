use Rattle.std.proofs.Common.{◌≡◌, ℕ, ℤ, ◌<◌, ◌+◌, ◌∙◌, ap, subst, to_z, of_z, w32}
use Rattle.pl_grid.specs.Planes.{Cells, filled}
use Rattle.pl_rings.proofs.LoopSearch.{alike_starts, column_x, row_y}
use Rattle.pl_rings.proofs.RunEnds.{plain}
use Rattle.pl_rings.proofs.loop_search.next_column.Goals as goal

pub returns-clause-none : goal.returns-clause-none
returns-clause-none c =
    let p : Cells = c.args.plane.now in
    let row : ℕ = c.args.row in
    let column : ℕ = c.args.column in
    let n : ℕ = c.alike_in_row.result in
    let y : ℤ = to_z w32 (of_z w32 c.row_y.result) in
    let y_is : y ≡ row_y p.bounds row = plain c.row_y.result c.row_y.ensures.low c.row_y.ensures.high ∙ c.row_y.ensures.value ∙ ap (λ z. row_y z row) c.bounds-bounds.ensures.value in
    let Alike : ℤ → Type 0 = λ z. (k : ℕ) → k < n → filled p (column_x p.bounds (column + k)) z ≡ filled p (column_x p.bounds column) z in
    alike_starts p row column n (subst Alike y_is c.alike_in_row.ensures.alike)
