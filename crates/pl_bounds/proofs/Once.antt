-- How often a slot is started, and how high its epoch gets.
use Rattle.std.proofs.Common.{◌≡◌, ◌≢◌, ℕ, ◌+◌, ◌*◌, ◌<◌, ◌≤◌, ◌&&◌, ◌⊎◌, eqb, inl, inr, Bool, true, false, cond, List, [], ◌∷◌, length, refl, ap, subst, ◌∙◌, arith}
use Rattle.std.proofs.lemmas.List.Sums.{sum_by-cons}
use Rattle.std.proofs.lemmas.List.{get_or-replicate}
use Rattle.std.proofs.Math.ListN.{get_or-eq_default}
use Rattle.std.proofs.lemmas.Bool.{cases_lt}
use Rattle.std.proofs.lemmas.Bool.Decides.{eqb_tells}
use Rattle.pl_tech.specs.Technology.{Meaning, IsLawful}
use Rattle.pl_machine.specs.declared.entry.What.{What}
use Rattle.pl_machine.specs.declared.entry.Entry.{Entry}
use Rattle.pl_machine.specs.Machine.{Machine, IsCoherent, blank, next, mode_of, epoch_of, is_invalid}
use Rattle.pl_machine.specs.History.{replay, replay_from, IsRunFrom, IsLegal}
use Rattle.pl_machine.proofs.Runs.{run_split, replay_split}
use Rattle.pl_machine.proofs.Sound.{coherent-blank}
use Rattle.pl_machine.proofs.Coherence.{coherent_history}
use Rattle.pl_session.specs.Complete.{EachEntry}
use Rattle.pl_bounds.specs.Counts.{is_start_at, is_change, starts_at, changes_in, RisesByChange}
use Rattle.pl_bounds.proofs.Slots.{Does, by_change, no_start_at, still_coherent, step_does}

at_most : (b : Bool) → cond b 1 0 ≤ ◌+◌ 1 0
at_most true = omega arith
at_most false = omega arith

pub no_count : (b : Bool) → b ≡ false → cond b 1 0 ≡ ◌+◌ 0 0
no_count b is = ap (λ v. cond v 1 0) is

pub one_count : (b : Bool) → b ≡ true → cond b 1 0 ≡ ◌+◌ 1 0
one_count b is = ap (λ v. cond v 1 0) is

-- a start at another epoch is none at this one
other_epoch : (slot epoch now : ℕ) → now ≢ epoch → (eqb slot slot && eqb now epoch) ≡ false
other_epoch slot epoch now not = elim (eqb_tells now epoch) [
  | inl same ↦ absurd (not same.1)
  | inr other ↦ both (eqb slot slot) other.0
]
  where
    both : (b : Bool) → eqb now epoch ≡ false → (b && eqb now epoch) ≡ false
    both true is = is
    both false is = refl

module _ {P : Type 0} where
  -- twice the slot's epoch, and one more unless it is Invalid: what no step lowers, and a start raises
  abbrev stage : Machine P → ℕ → ℕ
  stage st slot = epoch_of st slot * 2 + cond (is_invalid (mode_of st slot)) 0 1

  stage_of : (st : Machine P) (slot : ℕ) (b : Bool) → is_invalid (mode_of st slot) ≡ b → stage st slot ≡ epoch_of st slot * 2 + cond b 0 1
  stage_of st slot b is = ap (λ v. epoch_of st slot * 2 + cond v 0 1) is

module _ {P E R O : Type 0} (m : Meaning P E R O) where
  -- in the blank state each slot is at epoch 0
  blank_epoch : (slot : ℕ) → epoch_of (blank m) slot ≡ 0
  blank_epoch slot = elim (cases_lt slot 100) [
    | inl low ↦ get_or-replicate 100 slot 0 0 low
    | inr far ↦ get_or-eq_default (blank m).epochs 0 (past (blank m).epochs far (coherent-blank m m.blank m.blank).epochs_long)
  ]
    where
      past : (xs : List ℕ) → 100 ≤ slot → length xs ≡ 100 → length xs ≤ slot
      past xs far long = omega (arith, far, long)

module _ {T P E R O J B : Type 0} where
  -- what one more entry adds
  pub starts_at_more : (slot epoch : ℕ) (e : Entry T P E R O J B) (es : List (Entry T P E R O J B)) → starts_at slot epoch (e ∷ es) ≡ cond (is_start_at slot epoch e.what) 1 0 + starts_at slot epoch es
  starts_at_more slot epoch e es = sum_by-cons (λ x. cond (is_start_at slot epoch x.what) 1 0) e es

  pub changes_more : (e : Entry T P E R O J B) (es : List (Entry T P E R O J B)) → changes_in (e ∷ es) ≡ cond (is_change e.what) 1 0 + changes_in es
  changes_more e es = sum_by-cons (λ x. cond (is_change x.what) 1 0) e es

  module _ (m : Meaning P E R O) (laws : IsLawful m) where
    -- how a step moves the stage, and what it counts
    record Moves (slot : ℕ) (st : Machine P) (w : What T P E R O J B) (later : Machine P) : Type 0 where
      rises : stage st slot ≤ stage later slot
      -- a start at an epoch finds the stage there, and leaves it above
      starts : (epoch : ℕ) → (is_start_at slot epoch w ≡ false) ⊎ ((stage st slot ≤ epoch * 2) × (epoch * 2 < stage later slot))

    moves_of : (slot : ℕ) (st : Machine P) (w : What T P E R O J B) (later : Machine P) → Does slot st w later → Moves slot st w later
    moves_of slot st w later (inl stays) =
        let same = ap (λ v. epoch_of later slot * 2 + cond v 0 1) stays.invalid in
        record { rises = omega (arith, same, stays.epoch); starts = λ epoch. inl (no_start_at slot epoch w stays.no_start) }
    moves_of slot st w later (inr (inl opens)) =
        let old = stage_of st slot true opens.was in
        let new = stage_of later slot false opens.becomes in
        record {
          rises = omega (arith, old, new, opens.epoch);
          starts = λ epoch. elim (eqb_tells (epoch_of st slot) epoch) [
            | inl same ↦ inr (omega (arith, old, same.1), omega (arith, new, opens.epoch, same.1))
            | inr other ↦ inl (ap (is_start_at slot epoch) opens.what ∙ other_epoch slot epoch (epoch_of st slot) other.1)
          ];
        }
    moves_of slot st w later (inr (inr falls)) =
        let old = stage_of st slot false falls.was in
        let new = stage_of later slot true falls.becomes in
        record { rises = omega (arith, old, new, falls.epoch); starts = λ epoch. inl (no_start_at slot epoch w falls.no_start) }

    step_moves : (st : Machine P) (e : Entry T P E R O J B) (es : List (Entry T P E R O J B)) (slot : ℕ) → IsCoherent m st → IsRunFrom m st (e ∷ es) → Moves slot st e.what (next m st e.actor e.what)
    step_moves st e es slot kept run = moves_of slot st e.what (next m st e.actor e.what) (step_does m laws st e slot kept run.0)

    -- above the epoch the slot is not started at it any more
    none_above : (st : Machine P) (es : List (Entry T P E R O J B)) (slot epoch : ℕ) → IsCoherent m st → IsRunFrom m st es → epoch * 2 < stage st slot → starts_at slot epoch es ≡ 0
    none_above st [] slot epoch kept run above = refl
    none_above st (e ∷ es) slot epoch kept run above =
        let moves = step_moves st e es slot kept run in
        let more = starts_at_more slot epoch e es in
        let rest = none_above (next m st e.actor e.what) es slot epoch (still_coherent m laws st e run.0 kept) run.1 (omega (arith, above, moves.rises)) in
        elim (moves.starts epoch) [
          | inl none ↦ let zero = no_count (is_start_at slot epoch e.what) none in omega (arith, more, rest, zero)
          | inr start ↦ absurd (omega (arith, above, start.0))
        ]

    once_from : (st : Machine P) (es : List (Entry T P E R O J B)) (slot epoch : ℕ) → IsCoherent m st → IsRunFrom m st es → starts_at slot epoch es ≤ 1
    once_from st [] slot epoch kept run = omega arith
    once_from st (e ∷ es) slot epoch kept run =
        let moves = step_moves st e es slot kept run in
        let more = starts_at_more slot epoch e es in
        let later = still_coherent m laws st e run.0 kept in
        elim (moves.starts epoch) [
          | inl none ↦
              let zero = no_count (is_start_at slot epoch e.what) none in
              let rest = once_from (next m st e.actor e.what) es slot epoch later run.1 in
              omega (arith, more, rest, zero)
          | inr start ↦
              let rest = none_above (next m st e.actor e.what) es slot epoch later run.1 start.1 in
              omega (arith, more, rest, at_most (is_start_at slot epoch e.what))
        ]

    pub once : (history : List (Entry T P E R O J B)) → IsLegal m history → (slot epoch : ℕ) → starts_at slot epoch history ≤ 1
    once history legal slot epoch = once_from (blank m) history slot epoch (coherent-blank m m.blank m.blank) legal

    -- a step leaves the epoch, or is a change and raises it by one
    rise_of : (slot : ℕ) (st : Machine P) (w : What T P E R O J B) (later : Machine P) → Does slot st w later
        → (epoch_of later slot ≡ epoch_of st slot) ⊎ ((is_change w ≡ true) × (epoch_of later slot ≡ epoch_of st slot + 1))
    rise_of slot st w later (inl stays) = inl stays.epoch
    rise_of slot st w later (inr (inl opens)) = inl opens.epoch
    rise_of slot st w later (inr (inr falls)) = inr (by_change st w slot falls.by, falls.epoch)

    few_from : (st : Machine P) (es : List (Entry T P E R O J B)) (slot : ℕ) → IsCoherent m st → IsRunFrom m st es → epoch_of (replay_from m st es) slot ≤ epoch_of st slot + changes_in es
    few_from st [] slot kept run = omega arith
    few_from st (e ∷ es) slot kept run =
        let more = changes_more e es in
        let rest = few_from (next m st e.actor e.what) es slot (still_coherent m laws st e run.0 kept) run.1 in
        elim (rise_of slot st e.what (next m st e.actor e.what) (step_does m laws st e slot kept run.0)) [
          | inl same ↦ omega (arith, more, rest, same)
          | inr up ↦ let one = one_count (is_change e.what) up.0 in omega (arith, more, rest, one, up.1)
        ]

    pub few_rises : (history : List (Entry T P E R O J B)) (slot : ℕ) → IsLegal m history → epoch_of (replay m history) slot ≤ changes_in history
    few_rises history slot legal =
        let whole = few_from (blank m) history slot (coherent-blank m m.blank m.blank) legal in
        let none = blank_epoch m slot in
        omega (arith, whole, none)

    pub each_rise : (history : List (Entry T P E R O J B)) (slot : ℕ) → IsLegal m history → EachEntry history (RisesByChange m slot)
    each_rise history slot legal before after e is =
        let runs = run_split m (blank m) before (e ∷ after) (subst (IsLegal m) is legal) in
        let rise = rise_of slot (replay m before) e.what (next m (replay m before) e.actor e.what) (step_does m laws (replay m before) e slot (coherent_history m laws before runs.0) runs.1.0) in
        let there = ap (λ st. epoch_of st slot) (replay_split m (blank m) before (e ∷ [])) in
        elim rise [
          | inl same ↦ inl (there ∙ same)
          | inr up ↦ inr (up.0, there ∙ up.1)
        ]
