use Rattle.std.proofs.Common.{rules, refl, ◌∷◌, []}
use Rattle.pl_transcript.proofs.Flow.{writes_after, stop_before}
use Rattle.pl_transcript.proofs.entries.put_last.Goals as goal

pub returns-in_err-put_ending-clause-written : goal.returns-in_err-put_ending-clause-written
returns-in_err-put_ending-clause-written g c = (search rules, stop_before _ _ _ _ (10 ∷ []) _ c.in_err-put_ending.ensures.written.1 (refl))

pub returns-clause-written : goal.returns-clause-written
returns-clause-written g c = writes_after c.put.result _ _ _ _ _ _ _ _ _ c.in_ok-put_ending.ensures.written.0 c.put.ensures.written (refl)
