use Rattle.std.proofs.Common.{◌≡◌, ℕ, ◌+◌, ◌<◌, true}
use Rattle.std.specs.Int.{bit_at}
use Rattle.pl_machine.specs.Machine.{has_left}
use Rattle.pl_machine.proofs.state.State.all_left.Given as goal

abbrev pub invariant-loop-n : goal.invariant-loop-n
invariant-loop-n g l = (i : ℕ) → i < l.n → bit_at l.sessions i ≡ 1 → has_left l.self (i + 1) ≡ true
