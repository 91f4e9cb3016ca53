use Rattle.pl_cascade.proofs.Lawful.{present_below, needs_present, needs_below, last_present, last_needs}
use Rattle.pl_cascade.proofs.laws.needs_are_present_and_earlier.Goals as goal

pub returns-clause-below : goal.returns-clause-below
returns-clause-below c = present_below

pub returns-clause-present : goal.returns-clause-present
returns-clause-present c = needs_present

pub returns-clause-earlier : goal.returns-clause-earlier
returns-clause-earlier c = needs_below

pub returns-clause-last : goal.returns-clause-last
returns-clause-last c = last_present

pub returns-clause-all : goal.returns-clause-all
returns-clause-all c = last_needs
