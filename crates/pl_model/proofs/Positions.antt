-- The first item of a list that passes a test.
use Rattle.std.proofs.Common.{◌≡◌, inl, inr, Bool, true, false, true≢false, ℕ, ◌<◌, ◌≤◌, arith, Some, None, List, length, slice_get, position, refl, sym, ap, ◌∙◌}
use Rattle.std.specs.List.{position_or_len}
use Rattle.std.proofs.lemmas.Bool.{cases_order}
use Rattle.std.proofs.lemmas.Option.{slice_get_cases, get_or_from_slice_get, slice_get_within}
use Rattle.std.proofs.lemmas.List.Quantifiers.{position-Some}
use Rattle.std.proofs.lemmas.List.Sums.{fails_before_first}
use Rattle.std.proofs.lemmas.Grind.{common_steps}

-- the item at a number passes, and no earlier one does
pub record IsFirst {X : Type 0} (p : X → Bool) (xs : List X) (i : ℕ) (x : X) : Type 0 where
  pub there : slice_get xs i ≡ Some x
  pub passes : p x ≡ true
  pub before : (k : ℕ) (y : X) → k < i → slice_get xs k ≡ Some y → p y ≡ false

module _ {X : Type 0} (p : X → Bool) (xs : List X) where
  first_at : (i : ℕ) (x : X) → position p xs ≡ Some i → slice_get xs i ≡ Some x → IsFirst p xs i x
  first_at i x e h =
      let at = position-Some p xs i x e in
      record {
        there = h;
        passes = ap p (sym (get_or_from_slice_get xs i x x h)) ∙ at.1;
        before = λ k y lt here. ap p (sym (get_or_from_slice_get xs k y x here)) ∙ at.2 k lt;
      }

  pub first_found : (i : ℕ) → position p xs ≡ Some i → (x : X) × IsFirst p xs i x
  first_found i e =
      let at : position_or_len p xs ≡ i = grind (arith, common_steps) in
      let inside : i < length xs = grind (arith, common_steps) in
      elim (slice_get_cases xs i).1 [
        | inl h ↦ (h.0, first_at i h.0 e h.2)
        | inr h ↦ let past = h.0 in absurd (omega arith)
      ]

  pub none_found : position p xs ≡ None → (k : ℕ) (y : X) → slice_get xs k ≡ Some y → p y ≡ false
  none_found e k y here =
      let inside : k < length xs = slice_get_within xs k y here in
      let all : length xs ≤ position_or_len p xs = grind (arith, common_steps) in
      ap p (sym (get_or_from_slice_get xs k y y here)) ∙ fails_before_first p xs k y (omega arith)

  pub first_is : (i : ℕ) (x : X) → IsFirst p xs i x → position p xs ≡ Some i
  first_is i x h =
      elim (position p xs) as (λ o. position p xs ≡ o → position p xs ≡ Some i) [
        | None ↦ λ e. absurd (true≢false (sym h.passes ∙ none_found e i x h.there))
        | Some j ↦ λ e.
            let f = first_found j e in
            elim (cases_order i j) as (λ _. position p xs ≡ Some i) [
              | inl same ↦ e ∙ ap Some (sym same)
              | inr apart ↦ elim apart as (λ _. position p xs ≡ Some i) [
                | inl below ↦ absurd (true≢false (sym h.passes ∙ f.1.before i x below h.there))
                | inr above ↦ absurd (true≢false (sym f.1.passes ∙ h.before j f.0 above f.1.there))
              ]
            ]
      ] refl

  pub none_is : ((k : ℕ) (y : X) → slice_get xs k ≡ Some y → p y ≡ false) → position p xs ≡ None
  none_is h =
      elim (position p xs) as (λ o. position p xs ≡ o → position p xs ≡ None) [
        | None ↦ λ e. e
        | Some j ↦ λ e. let f = first_found j e in absurd (true≢false (sym f.1.passes ∙ h j f.0 f.1.there))
      ] refl
