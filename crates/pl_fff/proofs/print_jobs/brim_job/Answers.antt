use Rattle.pl_prints.proofs.RoomLemmas.{footprints_placed}
use Rattle.pl_fff.proofs.PrintResults.{brim_is}
use Rattle.pl_fff.proofs.print_jobs.brim_job.Goals as goal

pub invariant_of-result : goal.invariant_of-result
invariant_of-result c = record {
  placed = footprints_placed c.args.plate.now c.in_ok-feet.feet.items c.requires.printable c.in_ok-feet.ensures;
  narrow = c.brim_width-width.ensures.high;
}

pub returns-clause-value : goal.returns-clause-value
returns-clause-value c = brim_is c.args.plate.now c.in_ok-feet.feet.items c.in_ok-feet.ensures c.config.result.now c.config.ensures c.brim_width-width.result c.brim_width-width.ensures.value
