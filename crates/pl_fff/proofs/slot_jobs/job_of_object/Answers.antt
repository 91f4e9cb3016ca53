use Rattle.pl_fff.proofs.Needed.{kept_at_number}
use Rattle.pl_fff.proofs.slot_jobs.job_of_object.Goals as goal

pub object_job-requires-clause-needed : goal.object_job-requires-clause-needed
object_job-requires-clause-needed c =
    kept_at_number c.args.plate.now c.args.kept.now c.args.slot c.requires.needed c.config.result.now c.in-Some.object.now c.number-place.result c.number.result c.config.ensures c.number-place.ensures.value c.number.ensures.value c.requires.object
    c.in-Some.ensures.object
