use Rattle.std.proofs.Common.{◌≡◌, ◌-◌}
use Rattle.pl_script.specs.Rotation.{part_of, IsOnTheWay, least_left}
use Rattle.pl_script.proofs.stuck.least_next.Given as goal

abbrev pub invariant-loop-session : goal.invariant-loop-session
invariant-loop-session l = record {
  way : IsOnTheWay l.lines l.progress;
  same : l.progress.passed ≡ l.initial.progress.passed;
  least : l.least ≡ least_left l.lines (part_of l.initial.progress) (l.session - 1);
}
