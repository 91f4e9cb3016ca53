use Rattle.std.proofs.Common.{◌≡◌, []}
use Rattle.pl_script.specs.Script.{body_in}
use Rattle.pl_script.specs.Reading.{lines_left, number_left, size_left, HasRoom}
use Rattle.pl_script.proofs.read.body_in.Given as goal

abbrev pub invariant-loop-line : goal.invariant-loop-line
invariant-loop-line l = record {
  same : body_in 0 (number_left l.fn.lines) [] (lines_left l.fn.lines) ≡ body_in 0 (number_left l.lines) l.blocks (lines_left l.lines);
  room : HasRoom l.lines;
  here : l.here ≡ l.lines;
}

abbrev pub decreases-loop-line : goal.decreases-loop-line
decreases-loop-line l = size_left l.lines
