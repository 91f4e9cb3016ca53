use Rattle.std.proofs.Common.{rules}
use Rattle.pl_runner.proofs.scarce_tests.a_job_that_lacks_memory_closes_the_plant_down_for_all.Goals as goal

pub step-requires-clause-ready : goal.step-requires-clause-ready
step-requires-clause-ready g c κs = c.worker-helper.ensures.ready _ _ (search rules) (search rules)

pub step-looked-requires-clause-ready : goal.step-looked-requires-clause-ready
step-looked-requires-clause-ready g c κs = c.session-one.ensures.ready _ _ (search rules) (search rules)
