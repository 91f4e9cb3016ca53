use Rattle.std.proofs.Common.{◌≡◌, Some, subst}
use Rattle.pl_values.specs.PrintValues.{layer_with_top}
use Rattle.pl_values.proofs.LayerLemmas.{layer_is, layer_found}
use Rattle.pl_values.proofs.OptionRanges.{heights_fit}
use Rattle.pl_values.proofs.laws.the_layer_with_a_top_is_found.Goals as goal

pub returns-clause-heights : goal.returns-clause-heights
returns-clause-heights c = heights_fit

pub returns-clause-layer : goal.returns-clause-layer
returns-clause-layer c config object z k values own =
    (layer_is config object z k, λ h. subst (λ y. layer_with_top config object y ≡ Some k) h.1 (layer_found config object k (heights_fit config object values own) h.0))
