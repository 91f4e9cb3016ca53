use Rattle.std.proofs.Common.{ℕ, ◌<◌}
use Rattle.pl_machine.specs.Machine.{IsOpen}
use Rattle.pl_machine.proofs.state.State.open_slot.Given as goal

abbrev pub invariant-loop-n : goal.invariant-loop-n
invariant-loop-n g l = (k : ℕ) → k < l.n → ¬ IsOpen g.T.Technology.meaning l.self k
