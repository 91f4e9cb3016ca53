use Rattle.pl_transcript.specs.Replies.{refusal_words}
use Rattle.pl_transcript.proofs.Flow.{told}
use Rattle.pl_transcript.proofs.replies.put_refusal.Goals as goal

pub returns-in-NoInstance-clause-written : goal.returns-in-NoInstance-clause-written
returns-in-NoInstance-clause-written g c = told refusal_words _ _ c.put_word-in-NoInstance.result _ _ _ _ c.in-NoInstance.is c.put_word-in-NoInstance.ensures.written

pub returns-in-UnknownKey-clause-written : goal.returns-in-UnknownKey-clause-written
returns-in-UnknownKey-clause-written g c = told refusal_words _ _ c.put_word-in-UnknownKey.result _ _ _ _ c.in-UnknownKey.is c.put_word-in-UnknownKey.ensures.written

pub returns-in-NotObjectKey-clause-written : goal.returns-in-NotObjectKey-clause-written
returns-in-NotObjectKey-clause-written g c = told refusal_words _ _ c.put_word-in-NotObjectKey.result _ _ _ _ c.in-NotObjectKey.is c.put_word-in-NotObjectKey.ensures.written

pub returns-in-OutOfRange-clause-written : goal.returns-in-OutOfRange-clause-written
returns-in-OutOfRange-clause-written g c = told refusal_words _ _ c.put_word-in-OutOfRange.result _ _ _ _ c.in-OutOfRange.is c.put_word-in-OutOfRange.ensures.written

pub returns-in-FullObjects-clause-written : goal.returns-in-FullObjects-clause-written
returns-in-FullObjects-clause-written g c = told refusal_words _ _ c.put_word-in-FullObjects.result _ _ _ _ c.in-FullObjects.is c.put_word-in-FullObjects.ensures.written
