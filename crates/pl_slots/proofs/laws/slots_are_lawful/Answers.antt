use Rattle.pl_slots.proofs.FffLaws.{fff_laws}
use Rattle.pl_slots.proofs.laws.slots_are_lawful.Goals as goal

pub returns : goal.returns
returns c = fff_laws
