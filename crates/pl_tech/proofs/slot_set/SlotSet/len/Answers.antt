use Rattle.std.proofs.lemmas.Nat.{ones-le}
use Rattle.pl_tech.proofs.SlotLemmas.{count_members}
use Rattle.pl_tech.proofs.slot_set.SlotSet.len.Goals as goal

pub returns-clause-count : goal.returns-clause-count
returns-clause-count c = rw (← c.self.view_is) (count_members c.self.inside.bits c.self.invariant)

pub returns-clause-few : goal.returns-clause-few
returns-clause-few c = ones-le 100 c.self.inside.bits c.self.invariant
