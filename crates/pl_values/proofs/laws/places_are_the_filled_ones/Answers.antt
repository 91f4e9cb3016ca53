use Rattle.pl_values.proofs.Places.{object_at-from_Contains, Contains-places_of, places_rise}
use Rattle.pl_values.proofs.laws.places_are_the_filled_ones.Goals as goal

pub returns-clause-ascend : goal.returns-clause-ascend
returns-clause-ascend c = places_rise

pub returns-clause-exact : goal.returns-clause-exact
returns-clause-exact c plate place = (object_at-from_Contains plate place, λ found. Contains-places_of plate place found.0 found.1)
