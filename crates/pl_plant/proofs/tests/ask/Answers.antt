use Rattle.std.specs.Arc.{arc_value}
use Rattle.pl_tech.specs.Toy.{toy_meaning}
use Rattle.pl_plant.proofs.Closing.{stands_after_call}
use Rattle.pl_plant.proofs.tests.ask.Goals as goal

pub returns-clause-stands : goal.returns-clause-stands
returns-clause-stands c = λ actor slot epoch value stands.
    stands_after_call toy_meaning c.in_ok-answer.answer (arc_value c.in_ok-command.command) 1 c.reserve.new.self.journal c.call.new.self.journal actor slot epoch value c.in_ok-answer.ensures.journal
    (rw c.in_ok-reserve.ensures.journal stands)
