use Rattle.pl_machine.proofs.Sound.{sound-blank}
use Rattle.pl_machine.proofs.state.State.blank.Goals as goal

pub invariant_of-result : goal.invariant_of-result
invariant_of-result g c = sound-blank g.T.Technology.meaning _ _
