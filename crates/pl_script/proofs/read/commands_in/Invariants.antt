use Rattle.std.proofs.Common.{◌≡◌, ◌++◌, length}
use Rattle.pl_script.specs.Outcomes.{mapped}
use Rattle.pl_script.specs.Script.{commands_in}
use Rattle.pl_script.specs.Reading.{lines_left, number_left, size_left, HasRoom}
use Rattle.pl_script.proofs.read.commands_in.Given as goal

abbrev pub invariant-loop-line : goal.invariant-loop-line
invariant-loop-line l = record {
  same :
      commands_in l.blocks 0 (number_left l.fn.lines) (lines_left l.fn.lines)
      ≡ mapped (λ more. l.found.items ++ more) (commands_in l.blocks (length l.found.items) (number_left l.lines) (lines_left l.lines));
  room : HasRoom l.lines;
  number : l.number ≡ number_left l.lines;
}

abbrev pub decreases-loop-line : goal.decreases-loop-line
decreases-loop-line l = size_left l.lines
