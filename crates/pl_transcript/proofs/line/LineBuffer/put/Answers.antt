use Rattle.std.proofs.Common.{rules}
use Rattle.pl_ports.specs.Fronts.{front_of_first}
use Rattle.pl_transcript.proofs.Flow.{writes_anew}
use Rattle.pl_transcript.proofs.line.LineBuffer.put.Goals as goal

pub returns-in_err-flush-clause-written : goal.returns-in_err-flush-clause-written
returns-in_err-flush-clause-written g c = (search rules, front_of_first _ _ _ _ c.in_err-flush.ensures.front)

pub returns-clause-written : goal.returns-clause-written
returns-clause-written g c = writes_anew c.begin.result _ _ _ _ _ _ _ c.in_ok-flush.ensures.all c.in_ok-flush.ensures.empty c.begin.ensures.written
