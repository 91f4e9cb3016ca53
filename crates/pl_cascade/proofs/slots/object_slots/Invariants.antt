use Rattle.std.proofs.Common.{◌≡◌, ℕ, nat_lt}
use Rattle.std.specs.Prelude.{◌==◌, ◌&&◌}
use Rattle.pl_keys.specs.Steps as steps
use Rattle.pl_tech.specs.Slots.{has}
use Rattle.pl_cascade.specs.Slots.{is_object_slot, place_of, step_of}
use Rattle.pl_cascade.proofs.slots.object_slots.Given as goal

abbrev pub invariant-loop-step : goal.invariant-loop-step
invariant-loop-step l = (k : ℕ) → has l.slots k ≡ (is_object_slot k && ((l.place == place_of k) && (nat_lt (step_of k) l.step && steps.has l.chosen (step_of k))))
