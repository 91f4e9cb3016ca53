use Rattle.std.proofs.Common.{sym, subst, ◌∙◌}
use Rattle.std.specs.Arc.{arc_value}
use Rattle.std.specs.Option.{option_map}
use Rattle.pl_machine.specs.Calls.{Excludes}
use Rattle.pl_machine.specs.Machine.{MayCall}
use Rattle.pl_epochs.specs.Words.{counts}
use Rattle.pl_plant.specs.Keeping.{KeepsAfter}
use Rattle.pl_plant.proofs.Commands.{is_lent, is_handed_out, keeps_after, stands-called}
use Rattle.pl_plant.proofs.Rises.{counted_after}
use Rattle.pl_plant.proofs.plant.Plant.call.Goals as goal

pub call-requires-clause-given : goal.call-requires-clause-given
call-requires-clause-given g c =
    is_lent g.T.Technology.meaning c.self.inside.state c.self.inside.journal.items c.self.inside.kept (arc_value c.args.command) c.as_ref.result c.in_ok-output.output
    c.self.invariant c.as_ref.ensures.value (rw c.deref.ensures at c.in_ok-output.ensures.given)

pub repeat-requires : goal.repeat-requires
repeat-requires g c =
    is_handed_out g.T.Technology.meaning c.self.inside.state c.self.inside.journal.items c.self.inside.kept (arc_value c.args.command) c.in-Now.reply (option_map arc_value c.in_ok-output.output)
    c.self.invariant (rw c.deref.ensures at c.in_ok-output.ensures.given) (rw c.in-Now.is at c.in_ok-answer.ensures.step)

pub invariant_of-self-in-Now : goal.invariant_of-self-in-Now
invariant_of-self-in-Now g c =
    let m = g.T.Technology.meaning in
    let laws = g.met.T.Technology.laws in
    let st = c.self.inside.state in
    let command = arc_value c.args.command in
    let replies = rw c.in-Now.is at c.in_ok-answer.ensures.step in
    rw (rw c.in-Now.is at c.in_ok-answer.ensures.state, c.add.ensures, c.of.ensures, c.repeat.ensures)
    (stands-called m laws st c.self.inside.journal.items c.self.inside.kept c.forget.new.kept c.args.session command c.in-Now.reply
    (subst (λ p. MayCall p.state c.args.session) (sym c.self.view_is) c.requires.may) replies
    (keeps_after m laws st command c.in-Now.reply c.self.inside.kept c.forget.new.kept replies c.forget.ensures)
    (c.bump_all.ensures.counts
    ∙ counted_after m laws st command c.in-Now.reply c.stoppable-stopped.result c.fallen.result (counts c.self.inside.writer) c.self.inside.writer.wide c.self.invariant.counted c.stoppable-stopped.ensures replies c.fallen.ensures)
    c.self.invariant)

pub returns-in-Now-clause-exact : goal.returns-in-Now-clause-exact
returns-in-Now-clause-exact g c =
    rw c.in-Now.is at (subst (λ p. Excludes g.T.Technology.meaning p.state (arc_value c.args.command) c.in_ok-answer.answer) c.self.view_is c.in_ok-answer.ensures.exact)

pub returns-in-Now-clause-kept : goal.returns-in-Now-clause-kept
returns-in-Now-clause-kept g c =
    let m = g.T.Technology.meaning in
    let command = arc_value c.args.command in
    let replies = rw c.in-Now.is at c.in_ok-answer.ensures.step in
    subst (λ p. KeepsAfter m p.state command p.kept c.forget.new.kept) c.self.view_is
    (keeps_after m g.met.T.Technology.laws c.self.inside.state command c.in-Now.reply c.self.inside.kept c.forget.new.kept replies c.forget.ensures)

pub returns-in-NotYet-clause-exact : goal.returns-in-NotYet-clause-exact
returns-in-NotYet-clause-exact g c =
    rw c.in-NotYet.is at (subst (λ p. Excludes g.T.Technology.meaning p.state (arc_value c.args.command) c.in_ok-answer.answer) c.self.view_is c.in_ok-answer.ensures.exact)
