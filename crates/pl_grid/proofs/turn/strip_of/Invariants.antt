use Rattle.pl_grid.specs.Turned.{IsStrip}
use Rattle.pl_grid.proofs.turn.strip_of.Given as goal

abbrev pub invariant-loop-square : goal.invariant-loop-square
invariant-loop-square l = IsStrip l.words l.count l.square l.column l.strip.items
