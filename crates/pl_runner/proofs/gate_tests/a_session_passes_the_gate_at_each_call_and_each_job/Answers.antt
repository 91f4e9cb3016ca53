use Rattle.std.proofs.Common.{rules}
use Rattle.pl_runner.proofs.gate_tests.a_session_passes_the_gate_at_each_call_and_each_job.Goals as goal

pub session-requires-clause-ready : goal.session-requires-clause-ready
session-requires-clause-ready g c κs = c.session-one.ensures.ready _ _ (search rules) (search rules)
