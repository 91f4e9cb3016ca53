use Rattle.pl_fill.proofs.Weave.{Woven}
use Rattle.pl_fill.proofs.filling.strokes_by_rows.Given as goal

abbrev pub invariant-loop-number : goal.invariant-loop-number
invariant-loop-number l = Woven l.along l.step l.plane l.strokes.items l.back l.number
