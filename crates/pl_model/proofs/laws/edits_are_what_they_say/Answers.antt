use Rattle.pl_model.proofs.Edits.{told_computed, same_told}
use Rattle.pl_model.proofs.laws.edits_are_what_they_say.Goals as goal

pub returns : goal.returns
returns c = λ old edit reply new h. (told_computed old edit reply new h.sixteen, same_told old edit reply new h.sixteen)
