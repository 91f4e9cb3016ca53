use Rattle.std.proofs.Common.{◌≡◌, ℕ, ◌+◌, ◌-◌, ap, subst, sym, ◌∙◌, arith}
use Rattle.pl_grid.specs.Extent.{Extent}
use Rattle.pl_grid.specs.Planes.{Cells}
use Rattle.pl_rings.specs.Starts.{HasNoStarts}
use Rattle.pl_rings.specs.Traces.{LoopsBefore}
use Rattle.pl_rings.proofs.LoopSearch.{place_in, row_skipped}
use Rattle.pl_rings.proofs.loop_search.add_row.Goals as goal

pub loop-column-preserved : goal.loop-column-preserved
loop-column-preserved c =
    let p : Cells = c.args.plane.now in
    let row : ℕ = c.args.row in
    let column : ℕ = c.loop-column.column in
    let next : ℕ = c.next_column-column.result in
    let n : ℕ = next - (column + 1) in
    let later = c.next_column-column.ensures.later in
    let within = c.next_column-column.ensures.within in
    let cols : c.points.inside.cols ≡ p.bounds.cols = ap (λ (b : Extent). b.cols) (c.points.view_is ∙ c.bounds.ensures.value) in
    let to : column + 1 + n ≡ next = omega (arith, later) in
    let P : ℕ → Type 0 = λ k. LoopsBefore p (place_in p.bounds row k) c.add_point.new.found.items c.add_point.new.marks.items in
    let none : HasNoStarts p row (column + 1) (column + 1 + n) = subst (HasNoStarts p row (column + 1)) (sym to) c.next_column-column.ensures.none in (
      omega (arith, within, cols),
      ap (λ k. k + 1) cols,
      subst P to (row_skipped p row (column + 1) n c.add_point.new.found.items c.add_point.new.marks.items c.requires.row (omega (arith, to, within)) none c.in_ok-add_point.ensures),
    )
