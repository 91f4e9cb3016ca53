use Rattle.std.specs.Arc.{arc_value}
use Rattle.pl_plant.proofs.Closing.{stands_after_call}
use Rattle.pl_trials.proofs.trial.Trial.call.Goals as goal

pub returns : goal.returns
returns g c = λ actor slot epoch value stands.
    stands_after_call g.T.Technology.meaning c.in_ok-answer.answer (arc_value c.in_ok-command.command) 1 c.reserve.new.self.journal c.call.new.self.journal actor slot epoch value c.in_ok-answer.ensures.journal
    (rw c.in_ok-reserve.ensures.journal stands)
