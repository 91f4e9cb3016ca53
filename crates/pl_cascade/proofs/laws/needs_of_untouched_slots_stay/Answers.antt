use Rattle.pl_cascade.proofs.Lawful.{touched_up, kept_needs}
use Rattle.pl_cascade.proofs.laws.needs_of_untouched_slots_stay.Goals as goal

pub returns-clause-up : goal.returns-clause-up
returns-clause-up c = touched_up

pub returns-clause-kept : goal.returns-clause-kept
returns-clause-kept c = kept_needs
