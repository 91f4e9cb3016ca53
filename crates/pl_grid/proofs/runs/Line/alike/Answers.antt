use Rattle.std.proofs.Common.{FitsSigned, w32, rules}
use Rattle.std.proofs.lemmas.Int.{to_z-of_z}
use Rattle.pl_grid.proofs.RunLemmas.{alike_line}
use Rattle.pl_grid.proofs.runs.Line.alike.Goals as goal

pub returns-in-Rows-clause-alike : goal.returns-in-Rows-clause-alike
returns-in-Rows-clause-alike c =
    let fits : FitsSigned w32 c.args.self.now.line = search rules in
    alike_line c.args.self.now.along c.args.self.now.plane.now c.args.self.now.line c.args.number c.alike_in_row.result c.in-Rows.is c.alike_in_row.ensures.within c.alike_in_row.ensures.some (λ k less. simp to_z-of_z at (c.alike_in_row.ensures.alike k less))
