use Rattle.std.proofs.Common.{◌≡◌, ◌∙◌, ℕ, sym, subst}
use Rattle.std.proofs.lemmas.Result.{IfOk-weaker}
use Rattle.pl_session.specs.Complete.{IsComplete}
use Rattle.pl_relay.specs.Exports.{exports_of}
use Rattle.pl_runs.specs.Script.{commands_at}
use Rattle.pl_demo.specs.Numbers.{sessions_of}
use Rattle.pl_demo.specs.Commands.{demo_commands}
use Rattle.pl_demo.specs.Summary.{first_length, gcode_length, plate_after, summary, summary_by}
use Rattle.pl_demo.proofs.Plates.{tells, same_summaries}
use Rattle.pl_demo.proofs.run.run_demo.Goals as goal

pub returns : goal.returns
returns g c = let t = g.T.Technology in
    let n : ℕ = c.args.n in
    let history = c.deref.result.now in
    let complete : IsComplete t.meaning (commands_at (demo_commands n)) 2 history =
    subst (λ h. IsComplete t.meaning (commands_at (demo_commands n)) 2 h) (sym c.deref.ensures.value)
    (subst (λ given. IsComplete t.meaning (commands_at given) 2 c.in_ok-ended.ended.journal.items) c.in_ok-sessions.ensures.value c.in_ok-ended.ensures.complete) in
    IfOk-weaker c.summary_of.result (λ text. text ≡ summary_by n (λ i. first_length t.meaning (exports_of i history))) (λ text. text ≡ summary t.meaning n)
    (λ text is. is ∙ same_summaries n (λ i. first_length t.meaning (exports_of i history)) (λ i. gcode_length t.meaning (plate_after t.meaning n i))
    (λ i from to. tells t.meaning n i history to
    (c.a_relay_exports_in_turn.ensures (commands_at (demo_commands n)) (sessions_of n) 2 i history (c.demos_are_relays.ensures.relay n) complete from to (c.demos_are_relays.ensures.exports n i from to))))
    c.summary_of.ensures
