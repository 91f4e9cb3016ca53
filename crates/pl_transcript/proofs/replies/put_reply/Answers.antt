use Rattle.pl_transcript.specs.Replies.{reply_words}
use Rattle.pl_transcript.proofs.Flow.{told}
use Rattle.pl_transcript.proofs.replies.put_reply.Goals as goal

pub returns-in-Cancelled-clause-written : goal.returns-in-Cancelled-clause-written
returns-in-Cancelled-clause-written g c =
    told (reply_words g.T.Technology.meaning) _ _ c.put_number.result _ _ _ _ c.in-Cancelled.is (rw c.from.ensures at c.put_number.ensures.written)
