use Rattle.pl_values.proofs.LayerLemmas.{count_of_slices, slice_at_layer}
use Rattle.pl_values.proofs.laws.layers_have_their_slices.Goals as goal

pub returns-clause-count : goal.returns-clause-count
returns-clause-count c = count_of_slices

pub returns-clause-slice : goal.returns-clause-slice
returns-clause-slice c = slice_at_layer
