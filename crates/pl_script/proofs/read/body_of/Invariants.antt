use Rattle.std.proofs.Common.{◌+◌, ◌-◌, ◌≤◌, length}
use Rattle.pl_script.specs.Reading.{lines_left, number_left, size_left, HasRoom}
use Rattle.pl_script.proofs.BlockBodies.{HasRead}
use Rattle.pl_script.proofs.read.body_of.Given as goal

abbrev pub invariant-loop-line : goal.invariant-loop-line
invariant-loop-line l = record {
  lines : HasRead (lines_left l.initial.lines) (lines_left l.lines) l.bytes (number_left l.lines - number_left l.initial.lines);
  later : number_left l.initial.lines ≤ number_left l.lines;
  room : HasRoom l.lines;
  size : length l.bytes + size_left l.lines ≤ size_left l.initial.lines;
}

abbrev pub decreases-loop-line : goal.decreases-loop-line
decreases-loop-line l = size_left l.lines
