use Rattle.std.proofs.Common.{◌≡◌}
use Rattle.pl_layers.proofs.tests.a_sweep_gives_each_layer_in_turn.Given as goal

abbrev pub invariant-loop-k : goal.invariant-loop-k
invariant-loop-k g l = l.sweep ≡ record { mesh = l.initial.sweep.mesh; quarter = l.initial.sweep.quarter; heights = l.initial.sweep.heights; layer = l.k-counter }
