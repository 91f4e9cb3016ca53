use Rattle.std.proofs.Common.{◌≡◌, ◌∙◌, ◌^◌, ◌+ℤ◌, FitsSigned, rules, lit<, ap, min, pos, unsigned_abs, arith}
use Rattle.std.specs.Int.{w64, w128}
use Rattle.std.proofs.lemmas.Int.{ints, to_z-of_z}
use Rattle.pl_layers.specs.Rows.{steps_below}
use Rattle.pl_layers.proofs.WithinLemmas.{FitsSigned-from_Within}
use Rattle.pl_layers.proofs.Quotients.{quotient_up, behind_place}
use Rattle.pl_layers.proofs.columns.columns_behind.Goals as goal

pub returns : goal.returns
returns c =
    let fa : FitsSigned w128 c.across-across.result = FitsSigned-from_Within (2 ^ 95) _ (lit< tt) c.across-across.ensures.small in
    let fs : FitsSigned w64 c.size.result = search rules in
    let ff : FitsSigned w128 c.further.result = search rules in
    let es : c.size.result ≡ pos (unsigned_abs c.args.normal.now.x) = omega (arith, ints) in
    let ep : c.quotient_up-place.result ≡ quotient_up c.across-across.result c.size.result = simp to_z-of_z at c.quotient_up-place.ensures.value in
    let ef : c.further.result ≡ c.arrow-to.result.x +ℤ c.quotient_up-place.result = omega (arith, ints) in
    let eb : c.steps_below.result ≡ min c.args.most (steps_below c.further.result 400000) = simp to_z-of_z at c.steps_below.ensures in
    eb ∙ ap (min c.args.most) (behind_place c.args.p.now c.args.facet.now c.args.normal.now c.arrow-to.result c.across-across.result c.size.result c.quotient_up-place.result c.further.result c.requires.normal c.requires.steep c.arrow-to.ensures.value c.across-across.ensures.value es ep ef)
