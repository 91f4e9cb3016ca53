use Rattle.pl_transcript.proofs.Flow.{flushed, flushed_front, stopped}
use Rattle.pl_transcript.proofs.entries.put_end.Goals as goal

pub returns-in_err-put_last-clause-front : goal.returns-in_err-put_last-clause-front
returns-in_err-put_last-clause-front g c = stopped _ _ _ _ c.new-line.ensures c.in_err-put_last.ensures.written.1

pub returns-clause-all : goal.returns-clause-all
returns-clause-all g c = flushed c.flush.result _ _ _ _ _ _ c.new-line.ensures c.in_ok-put_last.ensures.written.0 c.flush.ensures.all

pub returns-clause-front : goal.returns-clause-front
returns-clause-front g c = flushed_front _ _ _ _ _ _ c.new-line.ensures c.in_ok-put_last.ensures.written.0 c.flush.ensures.front
