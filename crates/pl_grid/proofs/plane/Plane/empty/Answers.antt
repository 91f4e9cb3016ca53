use Rattle.std.proofs.Common.{false}
use Rattle.pl_grid.specs.Packed.{bit_place}
use Rattle.pl_grid.proofs.PackedLemmas.{packed_is, is_set-zeros, IsPacked-zeros}
use Rattle.pl_grid.proofs.plane.Plane.empty.Goals as goal

pub invariant_of-result : goal.invariant_of-result
invariant_of-result c = IsPacked-zeros c.args.bounds c.in_ok-words.words.items c.all_words.result c.in_ok-words.ensures c.all_words.ensures

pub returns : goal.returns
returns c = packed_is c.args.bounds c.in_ok-words.words.items (λ _ _. false) (λ i j hi hj. is_set-zeros c.in_ok-words.words.items c.all_words.result (bit_place c.args.bounds.cols j i) c.in_ok-words.ensures)
