use Rattle.pl_fff.proofs.Needed.{inside_here}
use Rattle.pl_fff.proofs.print_jobs.export_places.Goals as goal

pub export_place-requires-clause-inside : goal.export_place-requires-clause-inside
export_place-requires-clause-inside c =
    inside_here c.args.plate.now c.places-place-items.result.now c.loop-number.number c.places-place-items.ensures.places c.loop-number-test.true c.place-item.result c.requires.printable c.place-item.is
