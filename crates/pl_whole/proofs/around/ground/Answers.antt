use Rattle.pl_whole.proofs.ObjectLemmas.{footprints_are}
use Rattle.pl_whole.proofs.around.ground.Goals as goal

pub ground_plane-requires-clause-footprints : goal.ground_plane-requires-clause-footprints
ground_plane-requires-clause-footprints c = footprints_are c.args.plate.now c.args.objects.now c.in_ok-footprints.footprints.items c.deref.result.now c.requires.objects c.in_ok-footprints.ensures c.deref.ensures.value
