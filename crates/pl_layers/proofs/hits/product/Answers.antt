use Rattle.std.proofs.Common.{◌*ℤ◌, FitsSigned, lit<}
use Rattle.std.specs.Int.{w64}
use Rattle.std.proofs.lemmas.Int.{to_z-of_z}
use Rattle.pl_units.specs.Within.{Within}
use Rattle.pl_layers.proofs.WithinLemmas.{Within-mul, FitsSigned-from_Within_64}
use Rattle.pl_layers.proofs.hits.product.Goals as goal

pub returns-clause-value : goal.returns-clause-value
returns-clause-value c =
    let small : Within 4008004000000000000 (c.args.a.now *ℤ c.args.b.now) = Within-mul 2002000000 2002000000 c.args.a.now c.args.b.now c.requires.a c.requires.b in
    let fa : FitsSigned w64 c.args.a.now = FitsSigned-from_Within_64 2002000000 _ (lit< tt) c.requires.a in
    let fb : FitsSigned w64 c.args.b.now = FitsSigned-from_Within_64 2002000000 _ (lit< tt) c.requires.b in
    let fits : FitsSigned w64 (c.args.a.now *ℤ c.args.b.now) = FitsSigned-from_Within_64 4008004000000000000 _ (lit< tt) small in
    simp to_z-of_z

pub returns-clause-small : goal.returns-clause-small
returns-clause-small c =
    let small : Within 4008004000000000000 (c.args.a.now *ℤ c.args.b.now) = Within-mul 2002000000 2002000000 c.args.a.now c.args.b.now c.requires.a c.requires.b in
    let fa : FitsSigned w64 c.args.a.now = FitsSigned-from_Within_64 2002000000 _ (lit< tt) c.requires.a in
    let fb : FitsSigned w64 c.args.b.now = FitsSigned-from_Within_64 2002000000 _ (lit< tt) c.requires.b in
    let fits : FitsSigned w64 (c.args.a.now *ℤ c.args.b.now) = FitsSigned-from_Within_64 4008004000000000000 _ (lit< tt) small in
    simp to_z-of_z small
