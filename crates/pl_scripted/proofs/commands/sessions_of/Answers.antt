use Rattle.std.proofs.Common.{◌≡◌, ◌∙◌, All, ap, sym, subst}
use Rattle.pl_runs.specs.Script.{IsCallable, commands_at}
use Rattle.pl_scripted.proofs.Each.{all_callable, all_sessions, at_last}
use Rattle.pl_scripted.proofs.commands.sessions_of.Goals as goal

pub returns-clause-callable : goal.returns-clause-callable
returns-clause-callable c =
    subst (All IsCallable) (sym (at_last _ c.all-all.result.now c.args.lines.now c.loop-k.k c.loop-k.invariant c.all-all.ensures.lines c.loop-k-test.false c.loop-k.auto.k-end))
    (all_callable c.args.lines.now 16 c.all-all.ensures.kept)

pub returns-clause-own : goal.returns-clause-own
returns-clause-own c =
    ap commands_at (at_last _ c.all-all.result.now c.args.lines.now c.loop-k.k c.loop-k.invariant c.all-all.ensures.lines c.loop-k-test.false c.loop-k.auto.k-end)
    ∙ all_sessions c.args.lines.now c.all-all.ensures.kept
