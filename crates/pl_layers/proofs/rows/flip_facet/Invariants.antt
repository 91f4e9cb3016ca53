use Rattle.std.proofs.Common.{◌≡◌}
use Rattle.pl_layers.proofs.Flipping.{rows_done}
use Rattle.pl_layers.proofs.rows.flip_facet.Given as goal

abbrev pub invariant-loop-row : goal.invariant-loop-row
invariant-loop-row l = l.plane ≡ rows_done l.corner l.facet l.initial.plane l.row
