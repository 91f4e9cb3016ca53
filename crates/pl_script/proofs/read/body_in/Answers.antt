use Rattle.std.proofs.Common.{◌≡◌, ◌∙◌, ◌∷◌, [], zero, true, false, List, Result, refl, ap, sym, subst, arith, rules}
use Rattle.std.proofs.lemmas.Bool.Decides.{nat_tests}
use Rattle.pl_edit.specs.Data.{Data}
use Rattle.pl_script.specs.declared.script.Line.{Line}
use Rattle.pl_script.specs.Script.{Breach, with_workers, body_in, commands_in}
use Rattle.pl_script.specs.Reading.{lines_left, number_left, Refuses, Gives}
use Rattle.std.proofs.lemmas.Result.{err_from_is_err_and}
use Rattle.pl_script.proofs.Stopped.{refuses_mapped}
use Rattle.pl_script.proofs.Steps.{taken_is, other_is, behind, body_step, to_commands, no_lines}
use Rattle.pl_script.proofs.read.body_in.Goals as goal

pub loop-line-preserved : goal.loop-line-preserved
loop-line-preserved c =
    let taken : c.in_ok-taken.taken ≡ true = grind (arith, nat_tests, c.if-not-taken.false) in
    let number : c.number.result ≡ number_left c.loop-line.lines = cc in
    record {
      same =
          body_step _ _ c.loop-line.blocks c.loop-line.lines c.next.new.self c.in-Some.line.now c.number.result c.loop-line.invariant.same c.in-Some.ensures.some number
          (taken_is c.in_ok-taken.taken _ _ taken c.in_ok-taken.ensures.taken);
      room = c.in_ok-taken.ensures.room;
      here = search rules;
    }

pub returns-in_err-taken : goal.returns-in_err-taken
returns-in_err-taken c =
    let number : c.number.result ≡ number_left c.loop-line.lines = cc in
    let read : body_in zero (number_left c.args.lines) [] (lines_left c.args.lines) ≡ body_in zero c.number.result c.loop-line.blocks (c.in-Some.line.now ∷ lines_left c.next.new.self) =
    body_step _ _ c.loop-line.blocks c.loop-line.lines c.next.new.self c.in-Some.line.now c.number.result c.loop-line.invariant.same c.in-Some.ensures.some number refl in
    let Is : Result (List Data × List Line) Breach → Type 0 = λ said. Refuses c.in_err-taken.field-0.0 said in
    let p = err_from_is_err_and c.from_residual.result c.from_residual.ensures.1 in
    rw (p.1, p.2) (refuses_mapped c.in_err-taken.field-0.0 _ _ (subst Is (sym read) c.in_err-taken.ensures.refused))

pub returns-then-not-taken : goal.returns-then-not-taken
returns-then-not-taken c =
    let other : c.in_ok-taken.taken ≡ false = grind (arith, nat_tests, c.if-not-taken.true) in
    let number : c.number.result ≡ number_left c.loop-line.lines = cc in
    let here : c.number.result ≡ number_left c.loop-line.here = cc in
    let some : lines_left c.loop-line.here ≡ c.in-Some.line.now ∷ lines_left c.next.new.self = ap lines_left c.loop-line.invariant.here ∙ c.in-Some.ensures.some in
    let blocks = c.block_line.new.blocks in
    let read : body_in zero (number_left c.args.lines) [] (lines_left c.args.lines) ≡ behind blocks (commands_in blocks zero (number_left c.loop-line.here) (lines_left c.loop-line.here)) =
    body_step _ _ c.loop-line.blocks c.loop-line.lines c.next.new.self c.in-Some.line.now c.number.result c.loop-line.invariant.same c.in-Some.ensures.some number (other_is c.in_ok-taken.taken _ _ other c.in_ok-taken.ensures.other)
    ∙ to_commands blocks c.loop-line.here c.next.new.self c.in-Some.line.now c.number.result some here in
    let Is : Result (List Data × List Line) Breach → Type 0 = λ said. Gives c.with_commands.result (with_workers c.args.workers said) in
    subst Is (sym read) c.with_commands.ensures

pub returns : goal.returns
returns c =
    let read : body_in zero (number_left c.args.lines) [] (lines_left c.args.lines) ≡ behind c.loop-line.blocks (commands_in c.loop-line.blocks zero (number_left c.loop-line.here) (lines_left c.loop-line.here)) =
    no_lines _ c.loop-line.blocks c.loop-line.lines c.loop-line.here c.loop-line.invariant.same c.in_default.ensures.none c.loop-line.invariant.here in
    let Is : Result (List Data × List Line) Breach → Type 0 = λ said. Gives c.with_commands-2.result (with_workers c.args.workers said) in
    subst Is (sym read) c.with_commands-2.ensures
