use Rattle.std.proofs.Common.{◌^◌, ◌≡◌, neg_ℤ, FitsSigned, rules, lit<, ◌∙◌, arith}
use Rattle.std.specs.Int.{w64, w128, int_div_euclid}
use Rattle.std.proofs.lemmas.Int.{ints, to_z-of_z}
use Rattle.pl_units.specs.Within.{Within}
use Rattle.pl_layers.proofs.WithinLemmas.{FitsSigned-from_Within, FitsSigned-from_Within_64}
use Rattle.pl_layers.proofs.columns.quotient_up.Goals as goal

pub returns-then-far-le-LIMIT-clause-value : goal.returns-then-far-le-LIMIT-clause-value
returns-then-far-le-LIMIT-clause-value c =
    let near : Within (2 ^ 62) c.args.e.now = record { low = omega (arith, ints); high = omega (arith, ints) } in
    let fe : FitsSigned w64 c.args.e.now = FitsSigned-from_Within_64 (2 ^ 62) _ (lit< tt) near in
    let fw : FitsSigned w128 c.args.e.now = FitsSigned-from_Within (2 ^ 95) _ (lit< tt) c.requires.e in
    let fm : FitsSigned w64 c.args.n = c.ranges.n in
    let ef : c.from.result ≡ c.quotient_up_small.result = omega (arith, ints) in
    let es : c.quotient_up_small.result ≡ neg_ℤ (int_div_euclid (neg_ℤ c.args.e.now) c.args.n) = simp to_z-of_z at c.quotient_up_small.ensures.value in
    let fr : FitsSigned w128 c.from.result = search rules in
    simp to_z-of_z (ef ∙ es)
