use Rattle.std.proofs.Common.{sym, ◌∙◌, ap, ◌+ℤ◌, pos, FitsSigned, w32, rules}
use Rattle.std.proofs.lemmas.Int.{to_z-of_z}
use Rattle.pl_grid.specs.Lines.{filled_on, first_place}
use Rattle.pl_grid.proofs.RunLemmas.{get_or-line_cells}
use Rattle.pl_grid.proofs.runs.Line.is_filled.Goals as goal

pub returns : goal.returns
returns c =
    let fits : FitsSigned w32 c.place_on.result = search rules in
    let read = simp to_z-of_z at c.is_filled_on.ensures in
    read
    ∙ ap (λ place. filled_on c.args.self.now.along c.args.self.now.plane.now c.args.self.now.line place) (c.place_on.ensures ∙ ap (λ b. first_place c.args.self.now.along b +ℤ pos c.args.number) c.bounds.ensures.value)
    ∙ sym (get_or-line_cells c.args.self.now.along c.args.self.now.plane.now c.args.self.now.line c.args.number c.requires)
