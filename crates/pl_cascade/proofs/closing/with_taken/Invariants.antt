use Rattle.std.proofs.Common.{◌≡◌, ℕ}
use Rattle.pl_tech.specs.Slots.{has}
use Rattle.pl_cascade.proofs.Closures.{taken_so_far}
use Rattle.pl_cascade.proofs.closing.with_taken.Given as goal

abbrev pub invariant-loop-number : goal.invariant-loop-number
invariant-loop-number l = (k : ℕ) → has l.all k ≡ taken_so_far (has l.set) l.number k
