use Rattle.std.proofs.Common.{◌≡◌, ℕ}
use Rattle.pl_tech.specs.Slots.{has}
use Rattle.pl_cascade.proofs.Differing.{direct_so_far}
use Rattle.pl_cascade.proofs.direct.direct.Given as goal

abbrev pub invariant-loop-place : goal.invariant-loop-place
invariant-loop-place l = (k : ℕ) → has l.slots k ≡ direct_so_far l.old l.new l.place k
