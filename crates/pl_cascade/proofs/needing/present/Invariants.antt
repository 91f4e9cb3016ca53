use Rattle.std.proofs.Common.{◌≡◌, ℕ}
use Rattle.pl_tech.specs.Slots.{has}
use Rattle.pl_cascade.proofs.Sets.{present_so_far}
use Rattle.pl_cascade.proofs.needing.present.Given as goal

abbrev pub invariant-loop-place : goal.invariant-loop-place
invariant-loop-place l = (k : ℕ) → has l.slots k ≡ present_so_far l.plate l.place k
