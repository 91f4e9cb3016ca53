use Rattle.pl_cascade.proofs.Lawful.{same_untouched, changed_touched}
use Rattle.pl_cascade.proofs.laws.touched_slots_follow_the_plates.Goals as goal

pub returns-clause-same : goal.returns-clause-same
returns-clause-same c = same_untouched

pub returns-clause-changed : goal.returns-clause-changed
returns-clause-changed c = changed_touched
