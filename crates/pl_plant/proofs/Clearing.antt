-- Clearing the kept results of a set of slots, one slot after another.
use Rattle.std.proofs.Common.{◌≡◌, ℕ, ◌+◌, ◌<◌, ◌≤◌, inl, inr, true, false, cond, List, length, set, ap, sym, ◌∙◌, None, arith, get_or-set_same, get_or-set_other}
use Rattle.std.proofs.Math.ListN.{get_or-eq_default}
use Rattle.std.proofs.lemmas.List.{length-set}
use Rattle.std.proofs.lemmas.Bool.{cases_lt}
use Rattle.std.specs.declared.option.Option.{Option}
use Rattle.pl_tech.specs.Slots.{has}
use Rattle.pl_tech.specs.Kept.{kept_at}

-- of the slots below n those of the set keep nothing, and all others what they kept
pub record IsClearedBelow {O : Type 0} (slots n : ℕ) (old new : List (Option O)) : Type 0 where
  pub done : (k : ℕ) → k < n → kept_at new k ≡ cond (has slots k) None (kept_at old k)
  pub left : (k : ℕ) → n ≤ k → kept_at new k ≡ kept_at old k

module _ {O : Type 0} where
  none_at : (now : List (Option O)) (n : ℕ) → kept_at (set now n None) n ≡ None
  none_at now n = elim (cases_lt n (length now)) [
    | inl here ↦ get_or-set_same now n None None here
    | inr out ↦ get_or-eq_default (set now n None) None (rw length-set out)
  ]

  pub cleared_yes : (slots n : ℕ) (old now : List (Option O)) → has slots n ≡ true → IsClearedBelow slots n old now → IsClearedBelow slots (n + 1) old (set now n None)
  cleared_yes slots n old now member cleared = record {
    done = λ k low. elim (cases_lt k n) [
      | inl below ↦ get_or-set_other now n k None None (omega arith) ∙ cleared.done k below
      | inr above ↦
          let e : k ≡ n = omega arith in
          ap (λ j. kept_at (set now n None) j) e ∙ none_at now n ∙ sym (ap (λ v. cond v None (kept_at old k)) (ap (has slots) e ∙ member))
    ];
    left = λ k far. get_or-set_other now n k None None (omega arith) ∙ cleared.left k (omega arith);
  }

  pub cleared_no : (slots n : ℕ) (old now : List (Option O)) → has slots n ≡ false → IsClearedBelow slots n old now → IsClearedBelow slots (n + 1) old now
  cleared_no slots n old now other cleared = record {
    done = λ k low. elim (cases_lt k n) [
      | inl below ↦ cleared.done k below
      | inr above ↦
          let e : k ≡ n = omega arith in
          cleared.left k (omega arith) ∙ sym (ap (λ v. cond v None (kept_at old k)) (ap (has slots) e ∙ other))
    ];
    left = λ k far. cleared.left k (omega arith);
  }
