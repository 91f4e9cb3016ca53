use Rattle.std.proofs.Common.{◌≡◌, ◌∙◌, ap, ◌+ℤ◌, pos, arith, FitsSigned, w32, rules}
use Rattle.std.proofs.lemmas.Int.{to_z-of_z}
use Rattle.pl_grid.specs.Lines.{first_line, line_count}
use Rattle.pl_grid.proofs.RunLemmas.{runs_none, runs_more, runs_all}
use Rattle.pl_grid.proofs.plane.Plane.runs.Goals as goal

pub loop-number-init : goal.loop-number-init
loop-number-init c = c.new-runs.ensures.items ∙ runs_none c.args.along c.args.self.now

pub loop-number-preserved : goal.loop-number-preserved
loop-number-preserved c =
    let here : c.line-line.result ≡ first_line c.args.along c.args.self.now.bounds +ℤ pos c.loop-number.number = c.line-line.ensures ∙ ap (λ b. first_line c.args.along b +ℤ pos c.loop-number.number) c.bounds-bounds.ensures.value in
    let fits : FitsSigned w32 c.line-line.result = search rules in
    let more = simp to_z-of_z at c.in_ok-put_runs.ensures in
    runs_more c.args.along c.args.self.now c.loop-number.number c.line-line.result _ _ c.loop-number.invariant here more

pub returns : goal.returns
returns c =
    let end : c.line_count-number-end.result ≡ line_count c.args.along c.args.self.now.bounds = c.line_count-number-end.ensures ∙ ap (line_count c.args.along) c.bounds-bounds.ensures.value in
    let last : c.loop-number.number ≡ c.line_count-number-end.result = omega arith in
    runs_all c.args.along c.args.self.now c.loop-number.number _ (last ∙ end) c.loop-number.invariant
