use Rattle.std.proofs.Common.{◌≡◌, ℕ, take}
use Rattle.pl_keys.specs.Steps.{has}
use Rattle.pl_cascade.specs.Slots.{is_one_of}
use Rattle.pl_cascade.proofs.steps.steps_of.Given as goal

abbrev pub invariant-loop-step : goal.invariant-loop-step
invariant-loop-step l = (k : ℕ) → has l.set k ≡ is_one_of (take l.step-index l.steps) k
