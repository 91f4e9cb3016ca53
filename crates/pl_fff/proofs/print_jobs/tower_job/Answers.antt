use Rattle.std.proofs.Common.{length, ap}
use Rattle.pl_batches.specs.Batches.{batches_of}
use Rattle.pl_fff.proofs.PrintResults.{tower_is, heights_are}
use Rattle.pl_fff.proofs.print_jobs.tower_job.Goals as goal

pub returns-clause-value : goal.returns-clause-value
returns-clause-value c = tower_is c.args.plate.now c.in_ok-objects.objects.items c.in_ok-objects.ensures.layers c.in_ok-blocks.blocks c.in_ok-blocks.ensures

pub returns-clause-polls : goal.returns-clause-polls
returns-clause-polls c = ap (λ heights. batches_of (length heights)) (heights_are c.args.plate.now c.in_ok-objects.objects.items c.in_ok-objects.ensures.layers)
