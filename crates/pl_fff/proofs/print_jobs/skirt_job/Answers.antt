use Rattle.pl_prints.proofs.RoomLemmas.{footprints_placed}
use Rattle.pl_fff.proofs.PrintResults.{skirt_is}
use Rattle.pl_fff.proofs.print_jobs.skirt_job.Goals as goal

pub invariant_of-result : goal.invariant_of-result
invariant_of-result c = record {
  placed = footprints_placed c.args.plate.now c.in_ok-feet.feet.items c.requires.printable c.in_ok-feet.ensures;
  near = c.skirt_distance.ensures.high;
  few = c.skirt_count.ensures.high;
}

pub returns-clause-value : goal.returns-clause-value
returns-clause-value c =
    skirt_is c.args.plate.now c.in_ok-feet.feet.items c.in_ok-feet.ensures c.config-config.result.now c.config-config.ensures c.skirt_distance.result c.skirt_count.result c.skirt_distance.ensures.value c.skirt_count.ensures.value
