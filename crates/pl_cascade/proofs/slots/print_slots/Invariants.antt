use Rattle.std.proofs.Common.{◌≡◌, ℕ, ◌<◌, ◌≤◌, nat_lt, false}
use Rattle.std.specs.Prelude.{◌&&◌, not}
use Rattle.pl_keys.specs.Steps as steps
use Rattle.pl_tech.specs.Slots.{has}
use Rattle.pl_cascade.specs.Slots.{is_object_slot, step_of}
use Rattle.pl_cascade.proofs.slots.print_slots.Given as goal

abbrev pub invariant-loop-step : goal.invariant-loop-step
invariant-loop-step l =
    ((k : ℕ) → has l.slots k ≡ (not (is_object_slot k) && (nat_lt (step_of k) l.step && steps.has l.chosen (step_of k)))) × (6 < l.step → (step : ℕ) → 10 ≤ step → steps.has l.chosen step ≡ false)
