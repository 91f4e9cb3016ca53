use Rattle.std.proofs.Common.{◌≡◌, ◌∙◌, map, ap, subst}
use Rattle.std.specs.Prelude.{List}
use Rattle.std.specs.Arc.{arc_value}
use Rattle.std.proofs.lemmas.Result.{IfOk-weaker}
use Rattle.pl_edit.specs.declared.edit.Edit.{Edit}
use Rattle.pl_machine.specs.declared.entry.Entry.{Entry}
use Rattle.pl_session.specs.Complete.{IsComplete}
use Rattle.pl_runs.specs.Script.{commands_at}
use Rattle.pl_scripted.specs.Commands.{IsOfOne, session_commands}
use Rattle.pl_scripted.proofs.Alone.{only_history}
use Rattle.pl_scripted.proofs.run.run_script.Goals as goal

pub returns-clause-complete : goal.returns-clause-complete
returns-clause-complete g c = let t = g.T.Technology in
    let script = c.args.script.now in
    let given = commands_at (map (λ s. map arc_value s.items) c.in_ok-sessions.sessions.items) in
    let own = c.in_ok-sessions.ensures.own ∙ ap session_commands c.lines.ensures.lines in
    IfOk-weaker c.run_sessions.result (λ ended. IsComplete t.meaning given c.workers.result ended.journal.items)
    (λ ended. IsComplete t.meaning (session_commands script.lines) script.workers ended.journal.items)
    (λ ended done. subst (λ w. IsComplete t.meaning (session_commands script.lines) w ended.journal.items) c.workers.ensures.workers
    (subst (λ commands. IsComplete t.meaning commands c.workers.result ended.journal.items) own done))
    c.run_sessions.ensures.complete

pub returns-clause-alone : goal.returns-clause-alone
returns-clause-alone g c = let t = g.T.Technology in
    let script = c.args.script.now in
    IfOk-weaker c.run_sessions.result (λ ended. IsComplete t.meaning (session_commands script.lines) script.workers ended.journal.items)
    (λ ended. IsOfOne script → (other : List (Entry _ _ Edit _ _ _ _)) → IsComplete t.meaning (session_commands script.lines) script.workers other → other ≡ ended.journal.items)
    (λ ended done. only_history t.meaning script ended.journal.items c.one_complete_history.ensures done)
    (returns-clause-complete g c)
