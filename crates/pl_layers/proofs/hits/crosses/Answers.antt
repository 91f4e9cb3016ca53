use Rattle.std.proofs.Common.{◌≡◌, ℤ, Bool, true, false, not, ◌&&◌, cond, pos, refl, ap, ◌∙◌, FitsSigned, rules, lit<}
use Rattle.std.specs.Int.{w64}
use Rattle.std.specs.Prelude.{int_lt, int_le}
use Rattle.std.proofs.lemmas.Int.{to_z-of_z}
use Rattle.pl_layers.specs.Hits.{either_or, side_of_edge}
use Rattle.pl_layers.proofs.WithinLemmas.{FitsSigned-from_Within_64}
use Rattle.pl_layers.proofs.hits.crosses.Goals as goal
use mathlib.Core.Bool.{beq}

differ : (s e : Bool) → not (beq s e) ≡ either_or s e
differ true true = refl
differ true false = refl
differ false true = refl
differ false false = refl

crossing : (s e r right : Bool) (side z : ℤ) → right ≡ cond r (int_lt (pos 0) side) (int_lt side (pos 0)) → side ≡ z → (not (beq s e) && right) ≡ (either_or s e && cond r (int_lt (pos 0) z) (int_lt z (pos 0)))
crossing s e r right side z er es =
    ap (λ b. b && right) (differ s e)
    ∙ ap (λ b. either_or s e && b) (er ∙ ap (λ t. cond r (int_lt (pos 0) t) (int_lt t (pos 0))) es)

pub returns : goal.returns
returns c =
    let fp : FitsSigned w64 c.args.p.now.z.0 = FitsSigned-from_Within_64 1001000000 _ (lit< tt) c.requires.p.z in
    let fu : FitsSigned w64 c.args.u.now.z.0 = FitsSigned-from_Within_64 1001000000 _ (lit< tt) c.requires.u.z in
    let fv : FitsSigned w64 c.args.v.now.z.0 = FitsSigned-from_Within_64 1001000000 _ (lit< tt) c.requires.v.z in
    let fs : FitsSigned w64 c.side_of_edge.result = search rules in
    let er : c.is_right-right.result ≡ cond (int_lt c.args.u.now.z.0 c.args.v.now.z.0) (int_lt (pos 0) c.side_of_edge.result) (int_lt c.side_of_edge.result (pos 0)) = simp to_z-of_z at c.is_right-right.ensures in
    simp to_z-of_z (crossing (int_le c.args.u.now.z.0 c.args.p.now.z.0) (int_le c.args.v.now.z.0 c.args.p.now.z.0) (int_lt c.args.u.now.z.0 c.args.v.now.z.0) c.is_right-right.result c.side_of_edge.result (side_of_edge c.args.p.now c.args.u.now c.args.v.now) er c.side_of_edge.ensures)
