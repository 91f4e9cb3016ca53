use Rattle.std.proofs.Common.{◌≡◌, ℕ, nat_lt}
use Rattle.pl_tech.specs.Slots.{has}
use Rattle.pl_model.proofs.meshes.all_places.Given as goal

abbrev pub invariant-loop-place : goal.invariant-loop-place
invariant-loop-place l = (p : ℕ) → has l.places p ≡ nat_lt p l.place
