use Rattle.std.proofs.Common.{◌+ℤ◌, ◌%◌, ◌/◌, pos, ◌∙◌, ap, arith, FitsSigned, w32, rules}
use Rattle.std.proofs.lemmas.Int.{to_z-of_z}
use Rattle.pl_adhesion.proofs.Stretches.{stretch_alike, stretch_within}
use Rattle.pl_adhesion.proofs.cells.alike_from.Goals as goal

pub returns-clause-alike : goal.returns-clause-alike
returns-clause-alike c =
    let fits : FitsSigned w32 c.cell_at-cell.result.y = search rules in
    stretch_alike c.args.plane.now c.args.place c.alike_in_row.result _ _ (ap (λ b. c.args.place % b.cols) (c.bounds.view_is ∙ c.bounds-bounds.ensures.value))
    (to_z-of_z w32 c.cell_at-cell.result.y fits ∙ c.cell_at-cell.ensures.row ∙ ap (λ b. b.y0 +ℤ pos (c.args.place / b.cols)) c.bounds-bounds.ensures.value) c.alike_in_row.ensures.within c.alike_in_row.ensures.alike

pub returns-clause-within : goal.returns-clause-within
returns-clause-within c =
    stretch_within c.args.place c.alike_in_row.result _ c.args.plane.now.bounds.cols c.args.plane.now.bounds.rows (ap (λ b. c.args.place % b.cols) (c.bounds.view_is ∙ c.bounds-bounds.ensures.value)) c.alike_in_row.ensures.within c.requires (omega (arith, c.alike_in_row.ensures.within, c.alike_in_row.ensures.some))
