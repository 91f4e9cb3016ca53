use Rattle.pl_sliced.proofs.Near.{settings_few}
use Rattle.pl_sliced.proofs.plate.put.Goals as goal

pub make-requires-clause-few : goal.make-requires-clause-few
make-requires-clause-few c = settings_few c.args.plate.now c.args.part.block c.requires.short
