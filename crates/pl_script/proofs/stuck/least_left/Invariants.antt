use Rattle.std.proofs.Common.{length, ◌-◌, ◌*◌, sum}
use Rattle.pl_script.specs.Rotation.{IsOnTheWay}
use Rattle.pl_script.proofs.stuck.least_left.Given as goal

abbrev pub invariant-loop : goal.invariant-loop
invariant-loop l = IsOnTheWay l.lines l.progress

abbrev pub decreases-loop : goal.decreases-loop
decreases-loop l = 17 * length l.lines - sum l.progress.passed
