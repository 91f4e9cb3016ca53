use Rattle.std.proofs.Common.{rules, ap, ◌∙◌, ◌++◌, ◌∷◌}
use Rattle.pl_transcript.specs.Entries.{actor_word}
use Rattle.pl_transcript.proofs.Flow.{writes_after, stop_before}
use Rattle.pl_transcript.proofs.entries.put_head.Goals as goal

pub returns-in_err-put-clause-written : goal.returns-in_err-put-clause-written
returns-in_err-put-clause-written g c = (search rules, stop_before _ _ _ _ (32 ∷ actor_word c.args.actor) _ c.in_err-put.ensures.written.1 (ap (λ l. l ++ 32 ∷ actor_word c.args.actor) (c.bytes.ensures ∙ c.whole.ensures)))

pub returns-clause-written : goal.returns-clause-written
returns-clause-written g c = writes_after c.put_actor.result _ _ _ _ _ _ _ _ _ c.in_ok-put.ensures.written.0 c.put_actor.ensures.written (ap (λ l. l ++ 32 ∷ actor_word c.args.actor) (c.bytes.ensures ∙ c.whole.ensures))
