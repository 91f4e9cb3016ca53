use Rattle.pl_whole.proofs.ObjectLemmas.{inside_at}
use Rattle.pl_whole.proofs.objects.printed_objects.Goals as goal

pub printed_place-requires-clause-inside : goal.printed_place-requires-clause-inside
printed_place-requires-clause-inside c = inside_at c.args.plate.now c.places-place-items.result.now c.loop-place.place-index c.place-item.result c.place-item.result c.requires c.places-place-items.ensures.places c.loop-place-test.true c.place-item.is
