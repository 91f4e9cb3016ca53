use Rattle.std.proofs.Common.{rules, refl, ◌∷◌, []}
use Rattle.pl_transcript.proofs.Flow.{writes_after, stop_before}
use Rattle.pl_transcript.proofs.entries.put_tail.Goals as goal

pub returns-in_err-put_what-clause-written : goal.returns-in_err-put_what-clause-written
returns-in_err-put_what-clause-written g c = (search rules, stop_before _ _ _ _ (10 ∷ []) _ c.in_err-put_what.ensures.written.1 (refl))

pub returns-clause-written : goal.returns-clause-written
returns-clause-written g c = writes_after c.put.result _ _ _ _ _ _ _ _ _ c.in_ok-put_what.ensures.written.0 c.put.ensures.written (refl)
