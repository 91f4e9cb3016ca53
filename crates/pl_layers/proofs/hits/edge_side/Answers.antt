use Rattle.std.proofs.Common.{◌+ℤ◌, FitsSigned, lit<, lit≤}
use Rattle.std.specs.Int.{w64}
use Rattle.std.proofs.lemmas.Int.{to_z-of_z}
use Rattle.pl_units.specs.Within.{Within}
use Rattle.pl_layers.proofs.WithinLemmas.{Within-add, FitsSigned-from_Within_64}
use Rattle.pl_layers.proofs.hits.edge_side.Goals as goal

pub returns : goal.returns
returns c =
    let small : Within 8016008000000000000 (c.product-first.result +ℤ c.product-second.result) = Within-add 4008004000000000000 4008004000000000000 8016008000000000000 _ _ (lit≤ tt) c.product-first.ensures.small c.product-second.ensures.small in
    let f : FitsSigned w64 c.product-first.result = FitsSigned-from_Within_64 4008004000000000000 _ (lit< tt) c.product-first.ensures.small in
    let g : FitsSigned w64 c.product-second.result = FitsSigned-from_Within_64 4008004000000000000 _ (lit< tt) c.product-second.ensures.small in
    let fits : FitsSigned w64 (c.product-first.result +ℤ c.product-second.result) = FitsSigned-from_Within_64 8016008000000000000 _ (lit< tt) small in
    simp to_z-of_z (rw (c.product-first.ensures.value, c.product-second.ensures.value))
