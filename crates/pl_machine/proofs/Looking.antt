-- What is found among the modes.
use Rattle.std.proofs.Common.{◌≡◌, ℕ, ◌+◌, ◌<◌, ◌≤◌, ◌==◌, ◌||◌, inl, inr, Bool, true, false, not, ◌&&◌, refl, ap, sym, ◌∙◌, arith, None, Some, MatchOption}
use Rattle.std.specs.declared.option.Option.{Option}
use Rattle.std.proofs.Math.ListN.{get_or-eq_default}
use Rattle.std.proofs.lemmas.Bool.{cases_lt}
use Rattle.std.proofs.lemmas.Bool.Decides.{nat_tests}
use Rattle.pl_tech.specs.Technology.{Meaning}
use Rattle.pl_tech.specs.Slots.{has}
use Rattle.pl_machine.specs.declared.look.Look.{Look}
use Rattle.pl_machine.specs.declared.look.Look.TheVariants as look
use Rattle.pl_machine.specs.declared.entry.Mode.{Mode}
use Rattle.pl_machine.specs.declared.entry.Mode.TheVariants.{Invalid, Started, Done}
use Rattle.pl_machine.specs.Look.{looks}
use Rattle.pl_machine.specs.Calls.{IsWhole, IsUndone}
use Rattle.pl_machine.specs.Machine.{Machine, IsCoherent, mode_of, is_invalid, is_started, is_done}

pub looks_held : (mode : Mode) → looks look.Held mode ≡ not (is_invalid mode)
unfolding looks
looks_held mode = refl

pub looks_started : (mode : Mode) → looks look.Started mode ≡ is_started mode
unfolding looks
looks_started mode = refl

pub looks_done : (mode : Mode) → looks look.Done mode ≡ is_done mode
unfolding looks
looks_done mode = refl

looks_invalid : (l : Look) → looks l Invalid ≡ false
unfolding looks
looks_invalid look.Held = refl
looks_invalid look.Started = refl
looks_invalid look.Done = refl

done_is : (mode : Mode) → is_done mode ≡ true → mode ≡ Done
done_is Invalid h = cc
done_is (Started a) h = cc
done_is Done h = refl

-- of the slots below n just those that pass are in the set, and none from n on is
pub record IsFoundBelow (passes : ℕ → Bool) (n set : ℕ) : Type 0 where
  pub done : (k : ℕ) → k < n → has set k ≡ passes k
  pub left : (k : ℕ) → n ≤ k → has set k ≡ false

pub found_yes : (passes : ℕ → Bool) (n set set' : ℕ) → passes n ≡ true → ((k : ℕ) → has set' k ≡ ((k == n) || has set k)) → IsFoundBelow passes n set → IsFoundBelow passes (n + 1) set'
found_yes passes n set set' pass more found = record {
  done = λ k low. elim (cases_lt k n) [
    | inl below ↦ let a = found.done k below in let b = more k in (grind (arith, nat_tests))
    | inr here ↦ let e : k ≡ n = omega arith in let b = more k in (ap (has set') e ∙ more n ∙ (grind (arith, nat_tests)) ∙ sym pass ∙ ap passes (sym e))
  ];
  left = λ k far. let a = found.left k (omega arith) in let b = more k in (grind (arith, nat_tests));
}

pub found_no : (passes : ℕ → Bool) (n set : ℕ) → passes n ≡ false → IsFoundBelow passes n set → IsFoundBelow passes (n + 1) set
found_no passes n set fail found = record {
  done = λ k low. elim (cases_lt k n) [
    | inl below ↦ found.done k below
    | inr here ↦ let e : k ≡ n = omega arith in (ap (has set) e ∙ found.left n (omega arith) ∙ sym fail ∙ ap passes (sym e))
  ];
  left = λ k far. found.left k (omega arith);
}

and_false : (b : Bool) → (b && false) ≡ false
and_false true = refl
and_false false = refl

module _ {P E R O : Type 0} (m : Meaning P E R O) where
  pub found_all : (st : Machine P) (set : ℕ) (l : Look) (n found : ℕ) → IsCoherent m st → 100 ≤ n → IsFoundBelow (λ k. has set k && looks l (mode_of st k)) n found
      → (k : ℕ) → has found k ≡ (has set k && looks l (mode_of st k))
  found_all st set l n found kept whole below k = elim (cases_lt k n) [
    | inl low ↦ below.done k low
    | inr far ↦ below.left k far
        ∙ sym (ap (λ mode. has set k && looks l mode) (get_or-eq_default st.modes Invalid (omega (arith, kept.modes_long))) ∙ ap (λ b. has set k && b) (looks_invalid l) ∙ and_false (has set k))
  ]

  -- the present slots without those that are Done
  pub undone_is : (st : Machine P) (present found rest : ℕ) → ((k : ℕ) → has present k ≡ m.present st.applied k)
      → ((k : ℕ) → has found k ≡ (has present k && looks look.Done (mode_of st k)))
      → ((k : ℕ) → has rest k ≡ (has present k && not (has found k)))
      → (k : ℕ) → has rest k ≡ (m.present st.applied k && not (is_done (mode_of st k)))
  undone_is st present found rest a b c k = c k ∙ ap (λ v. has present k && not v) (b k ∙ ap (λ v. has present k && v) (looks_done (mode_of st k))) ∙ twice (has present k) (is_done (mode_of st k)) ∙ ap (λ v. v && not (is_done (mode_of st k))) (a k)
    where
      twice : (p d : Bool) → (p && not (p && d)) ≡ (p && not d)
      twice true d = refl
      twice false d = refl

  done_if : (p d : Bool) → (p && not d) ≡ false → p ≡ true → d ≡ true
  done_if true true h e = refl
  done_if true false h e = cc
  done_if false d h e = cc

  pub none_undone : (st : Machine P) (rest : ℕ) → ((k : ℕ) → has rest k ≡ (m.present st.applied k && not (is_done (mode_of st k))))
      → ((k : ℕ) → has rest k ≡ false) → IsWhole m st
  none_undone st rest is none k here = done_is (mode_of st k) (done_if (m.present st.applied k) (is_done (mode_of st k)) (sym (is k) ∙ none k) here)

  pub is_undone : (st : Machine P) (rest slot : ℕ) → ((k : ℕ) → has rest k ≡ (m.present st.applied k && not (is_done (mode_of st k))))
      → has rest slot ≡ true → ((k : ℕ) → k < slot → has rest k ≡ false) → IsUndone m st slot
  is_undone st rest slot is some least = record {
    present = both.0;
    undone = λ d. let e : true ≡ false = sym (ap is_done d) ∙ both.1 in cc;
    least = λ k low here. done_is (mode_of st k) (done_if (m.present st.applied k) (is_done (mode_of st k)) (sym (is k) ∙ least k low) here);
  }
    where
      split : (p d : Bool) → (p && not d) ≡ true → (p ≡ true) × (d ≡ false)
      split true true h = cc
      split true false h = (refl, refl)
      split false d h = cc

      both : (m.present st.applied slot ≡ true) × (is_done (mode_of st slot) ≡ false)
      both = split (m.present st.applied slot) (is_done (mode_of st slot)) (sym (is slot) ∙ some)

  pub least_undone : (st : Machine P) (rest : ℕ) (least : Option ℕ) → ((k : ℕ) → has rest k ≡ (m.present st.applied k && not (is_done (mode_of st k))))
      → MatchOption least ((k : ℕ) → has rest k ≡ false) (λ s. (has rest s ≡ true) × ((k : ℕ) → k < s → has rest k ≡ false))
      → MatchOption least (IsWhole m st) (IsUndone m st)
  least_undone st rest None is none = none_undone st rest is none
  least_undone st rest (Some slot) is some = is_undone st rest slot is some.0 some.1
