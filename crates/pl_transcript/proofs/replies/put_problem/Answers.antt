use Rattle.pl_transcript.specs.Replies.{problem_words}
use Rattle.pl_transcript.proofs.Flow.{told}
use Rattle.pl_transcript.proofs.replies.put_problem.Goals as goal

pub returns-in-TooManyCells-clause-written : goal.returns-in-TooManyCells-clause-written
returns-in-TooManyCells-clause-written g c =
    told problem_words _ _ c.put_number.result _ _ _ _ c.in-TooManyCells.is (rw c.from-in-TooManyCells.ensures at c.put_number.ensures.written)
