use Rattle.std.proofs.Common.{rules, refl, ap, ◌∷◌, ◌++◌}
use Rattle.pl_transcript.specs.Replies.{mode_text}
use Rattle.pl_transcript.proofs.Flow.{writes_after, stop_before}
use Rattle.pl_transcript.proofs.slots.put_standing.Goals as goal

pub returns-in_err-put_name-clause-written : goal.returns-in_err-put_name-clause-written
returns-in_err-put_name-clause-written g c = (search rules, stop_before _ _ _ _ (mode_text c.args.started c.args.finished c.args.slot) _ c.in_err-put_name.ensures.written.1 (refl))

pub returns-clause-written : goal.returns-clause-written
returns-clause-written g c = writes_after c.put.result _ _ _ _ _ _ _ _ _ c.in_ok-put_name.ensures.written.0 c.put.ensures.written (ap (λ l. (32 ∷ g.T.Technology.meaning.name c.args.slot) ++ l) c.mode.ensures)
