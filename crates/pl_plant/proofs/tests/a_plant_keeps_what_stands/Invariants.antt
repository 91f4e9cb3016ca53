use Rattle.std.proofs.Common.{◌≡◌}
use Rattle.pl_epochs.specs.Words.{table_of}
use Rattle.pl_plant.proofs.tests.a_plant_keeps_what_stands.Given as goal

abbrev pub invariant-loop-slot : goal.invariant-loop-slot
invariant-loop-slot g l = l.plant.home ≡ table_of l.epochs
