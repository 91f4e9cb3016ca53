use Rattle.std.proofs.Common.{subst, sym, ◌∙◌}
use Rattle.pl_model.specs.Places.{ArePlaces}
use Rattle.pl_model.proofs.plate.Plate.copied.Goals as goal

pub invariant_of-result : goal.invariant_of-result
invariant_of-result c = subst ArePlaces (sym (c.in_ok-places.ensures ∙ c.deref.ensures.value)) c.self.invariant
