use Rattle.std.proofs.Common.{rules, refl, ◌∷◌, [], codes}
use Rattle.std.specs.Fmt.{decimal}
use Rattle.pl_transcript.specs.Words.{spaced}
use Rattle.pl_transcript.proofs.Flow.{writes_after, stop_before}
use Rattle.pl_transcript.proofs.entries.put_ending.Goals as goal

pub returns-in_err-put-clause-written : goal.returns-in_err-put-clause-written
returns-in_err-put-clause-written g c = (search rules, stop_before _ _ _ _ (spaced (decimal c.args.entries ∷ codes "runs" ∷ decimal c.args.runs ∷ [])) _ c.in_err-put.ensures.written.1 (refl))

pub returns-clause-written : goal.returns-clause-written
returns-clause-written g c = writes_after c.put_totals.result _ _ _ _ _ _ _ _ _ c.in_ok-put.ensures.written.0 c.put_totals.ensures.written (refl)
