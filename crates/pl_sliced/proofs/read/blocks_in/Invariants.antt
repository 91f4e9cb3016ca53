use Rattle.std.proofs.Common.{◌≡◌, ◌+◌, length}
use Rattle.pl_script.specs.Reading.{lines_left, number_left, size_left, HasRoom}
use Rattle.pl_sliced.specs.Text.{nothing, blocks_in}
use Rattle.pl_sliced.specs.Reading.{AreParts}
use Rattle.pl_sliced.proofs.read.blocks_in.Given as goal

abbrev pub invariant-loop-line : goal.invariant-loop-line
invariant-loop-line l = record {
  same : blocks_in 0 (number_left l.initial.lines) nothing (lines_left l.initial.lines) ≡ blocks_in 0 (number_left l.lines) l.found (lines_left l.lines);
  parts : AreParts l.found;
  room : HasRoom l.lines;
  number : l.number ≡ number_left l.lines;
  end : number_left l.lines + length (lines_left l.lines) ≡ number_left l.initial.lines + length (lines_left l.initial.lines);
}

abbrev pub decreases-loop-line : goal.decreases-loop-line
decreases-loop-line l = size_left l.lines
