use Rattle.pl_adhesion.proofs.BrimLemmas.{Spread}
use Rattle.pl_adhesion.proofs.spreading.brim.Given as goal

abbrev pub invariant-loop : goal.invariant-loop
invariant-loop l = Spread l.fn.bed l.width l.counter l.plane l.found.items
