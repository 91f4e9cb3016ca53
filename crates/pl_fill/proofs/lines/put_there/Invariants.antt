use Rattle.std.proofs.Common.{◌≡◌, ◌++◌, map, take}
use Rattle.pl_grid.specs.Strokes.{stroke_of}
use Rattle.pl_fill.proofs.lines.put_there.Given as goal

abbrev pub invariant-loop-run : goal.invariant-loop-run
invariant-loop-run l = l.strokes.items ≡ l.initial.strokes.items ++ map (stroke_of l.along) (take l.run-index l.runs)
