use Rattle.std.proofs.Common.{◌≡◌, ℕ, ◌<◌, ◌≤◌}
use Rattle.pl_script.specs.Rotation.{part_of, IsOnTheWay, Rests}
use Rattle.pl_script.proofs.stuck.pass_one.Given as goal

abbrev pub invariant-loop-session : goal.invariant-loop-session
invariant-loop-session l = record {
  way : IsOnTheWay l.lines l.progress;
  same : l.progress.passed ≡ l.initial.progress.passed;
  rests : (s : ℕ) → 1 ≤ s → s < l.session → Rests l.lines (part_of l.progress) s;
}
