use Rattle.pl_model.proofs.Plates.{no_places, blank_made}
use Rattle.pl_model.proofs.plate.Plate.blank.Goals as goal

pub invariant_of-result : goal.invariant_of-result
invariant_of-result c = no_places _ c.in_ok-places.ensures

pub returns : goal.returns
returns c = blank_made _ c.in_ok-config.ensures c.in_ok-places.ensures
