use Rattle.std.proofs.Common.{◌≡◌, ◌≤◌, take, count_by}
use Rattle.pl_machine.specs.Machine.{is_started}
use Rattle.pl_machine.proofs.state.State.count_started.Given as goal

abbrev pub invariant-loop-n : goal.invariant-loop-n
invariant-loop-n g l = record {
  few : l.count ≤ l.n;
  counted : l.count ≡ count_by is_started (take l.n l.self.modes);
}
