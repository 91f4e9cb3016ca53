use Rattle.std.proofs.Common.{◌≡◌, ◌∙◌, false, Result, ap, sym, subst, arith}
use Rattle.std.proofs.lemmas.Bool.Decides.{nat_tests}
use Rattle.pl_script.specs.Outcomes.{and_then}
use Rattle.pl_script.specs.Lines.{line_words, is_passed_over}
use Rattle.pl_script.specs.Script.{Script, Breach, at, workers_in, at_workers, after_head}
use Rattle.pl_script.specs.Reading.{lines_left, number_left, Gives}
use Rattle.pl_script.proofs.Bodies.{head_line}
use Rattle.pl_script.proofs.read.after_head.Goals as goal

pub returns-then-not-is_passed_over : goal.returns-then-not-is_passed_over
returns-then-not-is_passed_over c =
    let counts : is_passed_over (line_words c.in-Some.line.now) ≡ false = grind (arith, nat_tests, c.if-not-is_passed_over.true, c.is_passed_over.ensures) in
    let read : after_head (number_left c.args.lines) (lines_left c.args.lines) ≡ and_then (at (number_left c.loop-line.here) (workers_in (line_words c.in-Some.line.now))) (λ found. at_workers found (number_left c.loop-line.here) c.in-Some.line.now (lines_left c.next.new.self)) =
    c.loop-line.invariant.same
    ∙ ap (λ lines. after_head (number_left c.loop-line.lines) lines) c.in-Some.ensures.some
    ∙ head_line (number_left c.loop-line.lines) c.in-Some.line.now (lines_left c.next.new.self) counts
    ∙ ap (λ n. and_then (at n (workers_in (line_words c.in-Some.line.now))) (λ found. at_workers found n c.in-Some.line.now (lines_left c.next.new.self))) (ap number_left (sym c.loop-line.invariant.here)) in
    let Is : Result Script Breach → Type 0 = λ said. Gives c.at_workers.result said in
    subst Is (sym read) c.at_workers.ensures
