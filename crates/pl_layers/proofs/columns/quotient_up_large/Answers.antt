use Rattle.std.proofs.Common.{◌^◌, ◌≡◌, ℤ, pos, neg_ℤ, ◌+ℤ◌, FitsSigned, lit<, sym, ap, subst}
use Rattle.std.specs.Int.{w128, int_div_euclid}
use Rattle.std.proofs.lemmas.Int.{to_z-of_z}
use Rattle.pl_units.specs.Within.{Within}
use Rattle.pl_layers.proofs.WithinLemmas.{Within-neg, zero_sub, FitsSigned-from_Within}
use Rattle.pl_layers.proofs.Quotients.{quotient_down_small}
use Rattle.pl_layers.proofs.columns.quotient_up_large.Goals as goal

pub returns-clause-value : goal.returns-clause-value
returns-clause-value c =
    let fe : FitsSigned w128 c.args.e.now = FitsSigned-from_Within (2 ^ 95) _ (lit< tt) c.requires.e in
    let fm : FitsSigned w128 c.args.n = c.ranges.n in
    let fo : FitsSigned w128 (neg_ℤ c.args.e.now) = FitsSigned-from_Within (2 ^ 95) _ (lit< tt) (Within-neg (2 ^ 95) c.args.e.now c.requires.e) in
    let fz : FitsSigned w128 (pos 0 +ℤ neg_ℤ c.args.e.now) = subst (λ (z : ℤ). FitsSigned w128 z) (sym (zero_sub c.args.e.now)) fo in
    let ed : c.div_euclid.result ≡ int_div_euclid (neg_ℤ c.args.e.now) c.args.n = simp (zero_sub, to_z-of_z) at c.div_euclid.ensures in
    let down : Within (2 ^ 95) c.div_euclid.result = subst (λ (z : ℤ). Within (2 ^ 95) z) (sym ed) (quotient_down_small (2 ^ 95) c.args.e.now c.args.n c.requires.n c.requires.e) in
    let up : Within (2 ^ 95) (neg_ℤ c.div_euclid.result) = Within-neg (2 ^ 95) c.div_euclid.result down in
    let fd : FitsSigned w128 c.div_euclid.result = FitsSigned-from_Within (2 ^ 95) _ (lit< tt) down in
    let fr : FitsSigned w128 (neg_ℤ c.div_euclid.result) = FitsSigned-from_Within (2 ^ 95) _ (lit< tt) up in
    let fs : FitsSigned w128 (pos 0 +ℤ neg_ℤ c.div_euclid.result) = subst (λ (z : ℤ). FitsSigned w128 z) (sym (zero_sub c.div_euclid.result)) fr in
    simp (zero_sub, to_z-of_z) (ap neg_ℤ ed)

pub returns-clause-small : goal.returns-clause-small
returns-clause-small c =
    let fe : FitsSigned w128 c.args.e.now = FitsSigned-from_Within (2 ^ 95) _ (lit< tt) c.requires.e in
    let fm : FitsSigned w128 c.args.n = c.ranges.n in
    let fo : FitsSigned w128 (neg_ℤ c.args.e.now) = FitsSigned-from_Within (2 ^ 95) _ (lit< tt) (Within-neg (2 ^ 95) c.args.e.now c.requires.e) in
    let fz : FitsSigned w128 (pos 0 +ℤ neg_ℤ c.args.e.now) = subst (λ (z : ℤ). FitsSigned w128 z) (sym (zero_sub c.args.e.now)) fo in
    let ed : c.div_euclid.result ≡ int_div_euclid (neg_ℤ c.args.e.now) c.args.n = simp (zero_sub, to_z-of_z) at c.div_euclid.ensures in
    let down : Within (2 ^ 95) c.div_euclid.result = subst (λ (z : ℤ). Within (2 ^ 95) z) (sym ed) (quotient_down_small (2 ^ 95) c.args.e.now c.args.n c.requires.n c.requires.e) in
    let up : Within (2 ^ 95) (neg_ℤ c.div_euclid.result) = Within-neg (2 ^ 95) c.div_euclid.result down in
    let fd : FitsSigned w128 c.div_euclid.result = FitsSigned-from_Within (2 ^ 95) _ (lit< tt) down in
    let fr : FitsSigned w128 (neg_ℤ c.div_euclid.result) = FitsSigned-from_Within (2 ^ 95) _ (lit< tt) up in
    let fs : FitsSigned w128 (pos 0 +ℤ neg_ℤ c.div_euclid.result) = subst (λ (z : ℤ). FitsSigned w128 z) (sym (zero_sub c.div_euclid.result)) fr in
    simp (zero_sub, to_z-of_z) up
