use Rattle.pl_rings.proofs.RingLemmas.{AfterErosions}
use Rattle.pl_rings.proofs.nested.rings.Given as goal

abbrev pub invariant-loop : goal.invariant-loop
invariant-loop l = AfterErosions l.slice l.counter l.planes.items l.inner
