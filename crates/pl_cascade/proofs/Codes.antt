-- Values of coded types that do not differ are equal.
use Rattle.std.proofs.Common.{◌≡◌, Bool, true, false, not, true≢false, IsTrue, sym, ap, refl}
use Rattle.std.specs.Bool.{Decides}
use Rattle.std.specs.Coded.{Coded}
use Rattle.std.proofs.lemmas.Bool.{not-false, not_from_true}
use Rattle.std.proofs.lemmas.Bool.Decides.{Decides-eqb, Decides-and, Decides-like}
use base.Stored.{Gv, gnil, gnum, gcons, num}
use Rattle.pl_model.specs.Same.{same_code}
use Rattle.pl_cascade.specs.Direct.{differ}

left : Gv → Gv
left (gcons a b) = a
left _ = gnil

right : Gv → Gv
right (gcons a b) = b
right _ = gnil

same_code-is : (a b : Gv) → Decides (same_code a b) (a ≡ b)
unfolding left right
same_code-is gnil gnil = (λ _. refl, λ _. refl)
same_code-is (gnum m) (gnum n) = Decides-like _ (λ e. ap gnum e) (λ e. ap num e) (Decides-eqb m n)
same_code-is (gcons a b) (gcons c d) = Decides-like _ (λ e i. gcons (e.0 i) (e.1 i)) (λ e. (ap left e, ap right e)) (Decides-and _ _ (same_code-is a c) (same_code-is b d))
same_code-is gnil (gnum n) = (λ e. absurd (true≢false (sym e)), λ e. cc)
same_code-is gnil (gcons c d) = (λ e. absurd (true≢false (sym e)), λ e. cc)
same_code-is (gnum m) gnil = (λ e. absurd (true≢false (sym e)), λ e. cc)
same_code-is (gnum m) (gcons c d) = (λ e. absurd (true≢false (sym e)), λ e. cc)
same_code-is (gcons a b) gnil = (λ e. absurd (true≢false (sym e)), λ e. cc)
same_code-is (gcons a b) (gnum n) = (λ e. absurd (true≢false (sym e)), λ e. cc)

pub same_unless_differ : {X : Type 0} (coded : Coded X) (x y : X) → differ coded x y ≡ false → x ≡ y
same_unless_differ coded x y e = coded.inj x y ((same_code-is (coded.code x) (coded.code y)).0 (not-false _ e))

pub none_differs : {X : Type 0} (coded : Coded X) (x y : X) → x ≡ y → differ coded x y ≡ false
none_differs coded x y e = not_from_true _ ((same_code-is (coded.code x) (coded.code y)).1 (ap coded.code e))

-- a test that is true exactly of equal values says whether they differ
pub differ_told : {X : Type 0} (coded : Coded X) (x y : X) (same : Bool) → (IsTrue same → x ≡ y) → (x ≡ y → IsTrue same) → not same ≡ differ coded x y
differ_told coded x y true there back = sym (none_differs coded x y (there refl))
differ_told coded x y false there back = sym (elim (differ coded x y) as (λ d. differ coded x y ≡ d → d ≡ true) [
  | true ↦ λ _. refl
  | false ↦ λ e. absurd (true≢false (sym (back (same_unless_differ coded x y e))))
] refl)
