use Rattle.pl_sliced.proofs.Near.{mesh_few}
use Rattle.pl_sliced.proofs.plate.load.Goals as goal

pub make-requires-clause-few : goal.make-requires-clause-few
make-requires-clause-few c = mesh_few c.args.plate.now _ c.args.part.block c.requires.short
