use Rattle.std.proofs.Common.{rules}
use Rattle.pl_runner.proofs.scarce_tests.a_session_whose_export_lacks_a_slot_of_another_waits.Goals as goal

pub step-requires-clause-ready : goal.step-requires-clause-ready
step-requires-clause-ready g c κs = c.worker-helper.ensures.ready _ _ (search rules) (search rules)

pub step-requires-2-clause-ready : goal.step-requires-2-clause-ready
step-requires-2-clause-ready g c κs = c.session-one.ensures.ready _ _ (search rules) (search rules)
