-- The truth value of equal plates.
use Rattle.std.proofs.Common.{◌≡◌, true≢false, sym, ap, refl}
use Rattle.std.specs.Bool.{Decides}
use Rattle.std.proofs.lemmas.Bool.Decides.{Decides-eqb, Decides-and, Decides-like}
use base.Stored.{Gv, gnil, gnum, gcons, num}
use Rattle.pl_model.specs.Contents.{Contents, contents_code}
use Rattle.pl_model.specs.Same.{same_code, same_plates}

left : Gv → Gv
left (gcons a b) = a
left _ = gnil

right : Gv → Gv
right (gcons a b) = b
right _ = gnil

same_code-is : (a b : Gv) → Decides (same_code a b) (a ≡ b)
unfolding left right
same_code-is gnil gnil = (λ _. refl, λ _. refl)
same_code-is (gnum m) (gnum n) = Decides-like _ (λ e. ap gnum e) (λ e. ap num e) (Decides-eqb m n)
same_code-is (gcons a b) (gcons c d) = Decides-like _ (λ e i. gcons (e.0 i) (e.1 i)) (λ e. (ap left e, ap right e)) (Decides-and _ _ (same_code-is a c) (same_code-is b d))
same_code-is gnil (gnum n) = (λ e. absurd (true≢false (sym e)), λ e. cc)
same_code-is gnil (gcons c d) = (λ e. absurd (true≢false (sym e)), λ e. cc)
same_code-is (gnum m) gnil = (λ e. absurd (true≢false (sym e)), λ e. cc)
same_code-is (gnum m) (gcons c d) = (λ e. absurd (true≢false (sym e)), λ e. cc)
same_code-is (gcons a b) gnil = (λ e. absurd (true≢false (sym e)), λ e. cc)
same_code-is (gcons a b) (gnum n) = (λ e. absurd (true≢false (sym e)), λ e. cc)

-- it is true exactly of equal plates
pub same_plates-is : (p q : Contents) → Decides (same_plates p q) (p ≡ q)
unfolding same_plates
same_plates-is p q = Decides-like _ (contents_code.inj p q) (λ e. ap contents_code.code e) (same_code-is (contents_code.code p) (contents_code.code q))
