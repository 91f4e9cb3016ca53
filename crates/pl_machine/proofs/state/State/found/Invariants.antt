use Rattle.std.proofs.Common.{◌&&◌}
use Rattle.pl_tech.specs.Slots.{has}
use Rattle.pl_machine.specs.Look.{looks}
use Rattle.pl_machine.specs.Machine.{mode_of}
use Rattle.pl_machine.proofs.Looking.{IsFoundBelow}
use Rattle.pl_machine.proofs.state.State.found.Given as goal

abbrev pub invariant-loop-n : goal.invariant-loop-n
invariant-loop-n g l = IsFoundBelow (λ k. has l.set k && looks l.look (mode_of l.self k)) l.n l.found
