use Rattle.std.proofs.Common.{◌≡◌, ◌*ℤ◌, FitsSigned, arith}
use Rattle.std.specs.Int.{w128}
use Rattle.std.proofs.lemmas.Int.{ints, to_z-of_z}
use Rattle.pl_layers.proofs.WithinLemmas.{IsWideProduct, wide_product}
use Rattle.pl_layers.proofs.columns.volume.Goals as goal

pub overflow_mul-result : goal.overflow_mul-result
overflow_mul-result c =
    let ea : c.from-first.result ≡ c.args.a.now = omega (arith, ints) in
    let eb : c.from-second.result ≡ c.args.b.now = omega (arith, ints) in
    let h : IsWideProduct c.args.a.now c.args.b.now c.from-first.result c.from-second.result = wide_product _ _ _ _ c.requires.a c.requires.b ea eb in
    let fa : FitsSigned w128 c.from-first.result = h.first in
    let fb : FitsSigned w128 c.from-second.result = h.second in
    let fits : FitsSigned w128 (c.from-first.result *ℤ c.from-second.result) = h.fits in
    simp to_z-of_z h.fits

pub returns-clause-value : goal.returns-clause-value
returns-clause-value c =
    let ea : c.from-first.result ≡ c.args.a.now = omega (arith, ints) in
    let eb : c.from-second.result ≡ c.args.b.now = omega (arith, ints) in
    let h : IsWideProduct c.args.a.now c.args.b.now c.from-first.result c.from-second.result = wide_product _ _ _ _ c.requires.a c.requires.b ea eb in
    let fa : FitsSigned w128 c.from-first.result = h.first in
    let fb : FitsSigned w128 c.from-second.result = h.second in
    let fits : FitsSigned w128 (c.from-first.result *ℤ c.from-second.result) = h.fits in
    simp to_z-of_z h.value

pub returns-clause-small : goal.returns-clause-small
returns-clause-small c =
    let ea : c.from-first.result ≡ c.args.a.now = omega (arith, ints) in
    let eb : c.from-second.result ≡ c.args.b.now = omega (arith, ints) in
    let h : IsWideProduct c.args.a.now c.args.b.now c.from-first.result c.from-second.result = wide_product _ _ _ _ c.requires.a c.requires.b ea eb in
    let fa : FitsSigned w128 c.from-first.result = h.first in
    let fb : FitsSigned w128 c.from-second.result = h.second in
    let fits : FitsSigned w128 (c.from-first.result *ℤ c.from-second.result) = h.fits in
    simp to_z-of_z h.small
