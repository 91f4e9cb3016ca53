use Rattle.std.proofs.Common.{rules}
use Rattle.pl_runner.proofs.runner_tests.a_session_makes_its_results_and_a_worker_then_ends.Goals as goal

pub session-requires-clause-ready : goal.session-requires-clause-ready
session-requires-clause-ready g c κs = c.session-one.ensures.ready _ _ (search rules) (search rules)

pub worker-requires-clause-ready : goal.worker-requires-clause-ready
worker-requires-clause-ready g c κs = c.worker-helper.ensures.ready _ _ (search rules) (search rules)
