use Rattle.std.proofs.Common.{◌≡◌, ◌∙◌, sym, ap, subst, ◌+ℤ◌, pos, List, FitsSigned, w32, rules}
use Rattle.std.specs.List.{All}
use Rattle.std.proofs.lemmas.Int.{to_z-of_z}
use Rattle.std.proofs.lemmas.Result.{IfOk-weaker}
use Rattle.pl_grid.specs.Lines.{first_line, line_runs}
use Rattle.pl_grid.specs.declared.stroke.Run.{Run}
use Rattle.pl_fill.specs.Turns.{used_runs, IsNearRun}
use Rattle.pl_fill.proofs.LineLemmas.{used_multiple, used_not_multiple, near_line_runs}
use Rattle.pl_fill.proofs.lines.runs_used.Goals as goal

pub returns-then-not-is_multiple-clause-runs : goal.returns-then-not-is_multiple-clause-runs
returns-then-not-is_multiple-clause-runs c =
    let fits : FitsSigned w32 c.line-line.result = search rules in
    let test = simp to_z-of_z at c.is_multiple.ensures in
    let here : c.line-line.result ≡ first_line c.args.along c.args.plane.now.bounds +ℤ pos c.args.number = c.line-line.ensures ∙ ap (λ b. first_line c.args.along b +ℤ pos c.args.number) c.bounds-bounds.ensures.value in
    c.new.ensures.items
    ∙ used_not_multiple c.args.along c.args.plane.now c.args.step c.line-line.result (sym test ∙ c.if-not-is_multiple.true)
    ∙ ap (λ line. used_runs c.args.step (line_runs c.args.along c.args.plane.now line)) here

pub returns-clause-runs : goal.returns-clause-runs
returns-clause-runs c =
    let fits : FitsSigned w32 c.line-line.result = search rules in
    let test = simp to_z-of_z at c.is_multiple.ensures in
    let here : c.line-line.result ≡ first_line c.args.along c.args.plane.now.bounds +ℤ pos c.args.number = c.line-line.ensures ∙ ap (λ b. first_line c.args.along b +ℤ pos c.args.number) c.bounds-bounds.ensures.value in
    let runs = simp to_z-of_z at c.runs_in.ensures in
    IfOk-weaker c.runs_in.result _ _ (λ v e.
    e
    ∙ c.requires.rows c.line-line.result
    ∙ used_multiple c.args.along c.args.plane.now c.args.step c.line-line.result (sym test ∙ c.if-not-is_multiple.false)
    ∙ ap (λ line. used_runs c.args.step (line_runs c.args.along c.args.plane.now line)) here) runs

pub returns-clause-near : goal.returns-clause-near
returns-clause-near c =
    let fits : FitsSigned w32 c.line-line.result = search rules in
    let here : c.line-line.result ≡ first_line c.args.along c.args.plane.now.bounds +ℤ pos c.args.number = c.line-line.ensures ∙ ap (λ b. first_line c.args.along b +ℤ pos c.args.number) c.bounds-bounds.ensures.value in
    let P : List Run → Type 0 = All IsNearRun in
    let runs = simp to_z-of_z at c.runs_in.ensures in
    IfOk-weaker c.runs_in.result _ _ (λ v e. subst P (sym (e ∙ c.requires.rows c.line-line.result)) (near_line_runs c.args.along c.args.plane.now c.line-line.result c.args.number c.bounds-bounds.ensures.extent here c.requires.number)) runs
