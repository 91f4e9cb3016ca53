use Rattle.std.proofs.Common.{◌≡◌, ℕ, ◌<◌, ◌≤◌, nat_lt, false}
use Rattle.std.specs.Prelude.{◌&&◌, ◌||◌}
use Rattle.pl_keys.specs.Steps.{has}
use Rattle.pl_cascade.proofs.steps.both.Given as goal

abbrev pub invariant-loop-step : goal.invariant-loop-step
invariant-loop-step l = ((k : ℕ) → has l.set k ≡ (has l.initial.set k || (nat_lt k l.step && has l.other k))) × (0 < l.step → (k : ℕ) → 10 ≤ k → has l.other k ≡ false)
