use Rattle.std.proofs.Common.{◌≡◌, ℕ, nat_lt}
use Rattle.pl_keys.specs.Steps.{has}
use Rattle.pl_cascade.proofs.steps.all_steps.Given as goal

abbrev pub invariant-loop-step : goal.invariant-loop-step
invariant-loop-step l = (k : ℕ) → has l.set k ≡ nat_lt k l.step
