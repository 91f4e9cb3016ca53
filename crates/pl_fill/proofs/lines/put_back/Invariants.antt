use Rattle.std.proofs.Common.{◌≡◌, ◌++◌, map}
use Rattle.pl_grid.specs.Strokes.{stroke_of, turned_back}
use Rattle.pl_fill.proofs.lines.put_back.Given as goal

abbrev pub invariant-loop-run : goal.invariant-loop-run
invariant-loop-run l = l.strokes.items ≡ l.initial.strokes.items ++ map (λ r. turned_back (stroke_of l.along r.now)) l.yielded
