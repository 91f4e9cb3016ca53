use Rattle.std.proofs.Common.{rules, refl}
use Rattle.pl_transcript.specs.Words.{spaced}
use Rattle.pl_transcript.specs.Replies.{names}
use Rattle.pl_transcript.proofs.Flow.{writes_after, stop_before}
use Rattle.pl_transcript.proofs.slots.put_invalidated.Goals as goal

pub returns-in_err-put_word-clause-written : goal.returns-in_err-put_word-clause-written
returns-in_err-put_word-clause-written g c = (search rules, stop_before _ _ _ _ (spaced (names g.T.Technology.meaning c.args.set)) _ c.in_err-put_word.ensures.written.1 (refl))

pub returns-clause-written : goal.returns-clause-written
returns-clause-written g c = writes_after c.put_names.result _ _ _ _ _ _ _ _ _ c.in_ok-put_word.ensures.written.0 c.put_names.ensures.written (refl)
