-- How many entries a legal history has.
use Rattle.std.proofs.Common.{◌≡◌, ℕ, ◌+◌, ◌*◌, ◌-◌, ◌<◌, ◌≤◌, ◌⊎◌, inl, inr, Bool, true, false, not, List, [], ◌∷◌, length, get_or, set, refl, ap, sym, ◌∙◌, arith}
use Rattle.std.specs.Prelude.{None, Some, is_some}
use Rattle.std.specs.List.{count_by}
use Rattle.std.proofs.lemmas.List.Sums.{sum_by-cons, sum_by-set, count_by-le-length}
use Rattle.std.proofs.lemmas.Bool.{cases_lt}
use Rattle.pl_tech.specs.Technology.{Meaning, IsLawful}
use Rattle.pl_ports.specs.declared.gate.Actor.{Actor}
use Rattle.pl_ports.specs.declared.gate.Actor.TheVariants.{Session, Worker}
use Rattle.pl_machine.specs.declared.entry.Mode.{Mode}
use Rattle.pl_machine.specs.declared.entry.Mode.TheVariants.{Invalid, Started, Done}
use Rattle.pl_machine.specs.declared.entry.Command.{Command}
use Rattle.pl_machine.specs.declared.entry.Command.TheVariants.{Edit, Apply, Export, Status, Cancel, After}
use Rattle.pl_machine.specs.declared.entry.Reply.{Reply}
use Rattle.pl_machine.specs.declared.entry.What.{What}
use Rattle.pl_machine.specs.declared.entry.What.TheVariants.{Call, Start, Finish, Late, Bye}
use Rattle.pl_machine.specs.declared.entry.Entry.{Entry}
use Rattle.pl_machine.specs.Machine.{Machine, IsActor, IsCoherent, Allows, MayCall, blank, next, without, mode_of, seat_of, is_invalid}
use Rattle.pl_machine.specs.History.{IsRunFrom, IsLegal}
use Rattle.pl_machine.specs.Tickets.{closes}
use Rattle.pl_machine.proofs.Sound.{coherent-blank, seat_below}
use Rattle.pl_session.specs.Complete.{is_bye, is_start}
use Rattle.pl_bounds.specs.Counts.{is_call, is_change, calls_in, changes_in}
use Rattle.pl_bounds.proofs.Slots.{still_coherent, far_state}
use Rattle.pl_bounds.proofs.Calls.{one}

-- a place of a list is written: what is counted loses the old value and gains the new one
count_set : {X : Type 0} (p : X → Bool) (xs : List X) (i : ℕ) (y d : X) → i < length xs → count_by p (set xs i y) + one (p (get_or xs i d)) ≡ count_by p xs + one (p y)
count_set p xs i y d low = sum_by-set (λ x. one (p x)) xs i y d low

-- the place held what is counted, or what is not
set_from : {X : Type 0} (p : X → Bool) (xs : List X) (i : ℕ) (y d : X) (was new : Bool) → i < length xs → p (get_or xs i d) ≡ was → p y ≡ new
    → count_by p (set xs i y) + one was ≡ count_by p xs + one new
set_from p xs i y d was new low old becomes =
    let whole = count_set p xs i y d low in
    let a = ap one old in
    let b = ap one becomes in
    omega (arith, whole, a, b)

abbrev is_held : Mode → Bool
is_held mode = not (is_invalid mode)

abbrev has_gone : Bool → Bool
has_gone b = b

module _ {P : Type 0} where
  -- how many slots are started or done, how many actors have something pending, and how many sessions have left
  abbrev held : Machine P → ℕ
  held st = count_by is_held st.modes

  abbrev working : Machine P → ℕ
  working st = count_by is_some st.pending

  abbrev gone : Machine P → ℕ
  gone st = count_by has_gone st.left

module _ {P E R O : Type 0} (m : Meaning P E R O) where
  -- a slot that is started or done is one from 0 to 99
  held_low : (st : Machine P) (slot : ℕ) → IsCoherent m st → is_held (mode_of st slot) ≡ true → slot < length st.modes
  held_low st slot kept is = elim (cases_lt slot 100) [
    | inl low ↦ omega (arith, low, kept.modes_long)
    | inr far ↦ let f : true ≡ false = sym is ∙ ap is_held (far_state m st slot far kept).0 in cc
  ]

  seat_low : (st : Machine P) (a : Actor) → IsCoherent m st → IsActor a → seat_of a < length st.pending
  seat_low st a kept is = omega (arith, seat_below a is, kept.pending_long)

  held_few : (st : Machine P) → IsCoherent m st → held st ≤ 100
  held_few st kept = let most = count_by-le-length is_held st.modes in omega (arith, most, kept.modes_long)

  none_working : working (blank m) ≡ 0
  none_working = refl

module _ {T P E R O J B : Type 0} where
  abbrev starts_in : List (Entry T P E R O J B) → ℕ
  starts_in es = count_by (λ e. is_start e.what) es

  abbrev ends_in : List (Entry T P E R O J B) → ℕ
  ends_in es = count_by (λ e. closes e.what) es

  abbrev byes_in : List (Entry T P E R O J B) → ℕ
  byes_in es = count_by (λ e. is_bye e.what) es

  -- each entry is a call, a start, an end or a bye
  of_four : (w : What T P E R O J B) → one (is_call w) + one (is_start w) + one (closes w) + one (is_bye w) ≡ 1
  of_four (Call c reply) = refl
  of_four (Start slot epoch) = refl
  of_four (Finish slot epoch) = refl
  of_four (Late slot since now) = refl
  of_four Bye = refl

  four_kinds : (es : List (Entry T P E R O J B)) → length es ≡ calls_in es + starts_in es + ends_in es + byes_in es
  four_kinds [] = refl
  four_kinds (e ∷ es) =
      let calls = sum_by-cons (λ x. one (is_call x.what)) e es in
      let starts = sum_by-cons (λ x. one (is_start x.what)) e es in
      let ends = sum_by-cons (λ x. one (closes x.what)) e es in
      let byes = sum_by-cons (λ x. one (is_bye x.what)) e es in
      omega (arith, calls, starts, ends, byes, of_four e.what, four_kinds es)

  module _ (m : Meaning P E R O) (laws : IsLawful m) where
    -- what a step does to these three numbers
    record Adds (st : Machine P) (w : What T P E R O J B) (later : Machine P) : Type 0 where
      held_more : ((is_change w ≡ true) × (is_start w ≡ false)) ⊎ ((is_change w ≡ false) × (one (is_start w) + held st ≤ held later))
      working_less : one (closes w) + working later ≤ working st + one (is_start w)
      gone_more : one (is_bye w) + gone st ≤ gone later

    call_adds : (st : Machine P) (a : Actor) (c : Command E) (reply : Reply T P E R O J B) → Adds st (Call c reply) (next m st a (Call c reply))
    call_adds st a (Edit e) reply = record { held_more = inr (refl, omega arith); working_less = omega arith; gone_more = omega arith }
    call_adds st a Apply reply = record { held_more = inl (refl, refl); working_less = omega arith; gone_more = omega arith }
    call_adds st a Export reply = record { held_more = inr (refl, omega arith); working_less = omega arith; gone_more = omega arith }
    call_adds st a Status reply = record { held_more = inr (refl, omega arith); working_less = omega arith; gone_more = omega arith }
    call_adds st a Cancel reply = record { held_more = inl (refl, refl); working_less = omega arith; gone_more = omega arith }
    call_adds st a (After s n) reply = record { held_more = inr (refl, omega arith); working_less = omega arith; gone_more = omega arith }

    bye_adds : (st : Machine P) (i : ℕ) → IsCoherent m st → MayCall st i → Adds st Bye (without st i)
    bye_adds st i kept may =
        let left = set_from has_gone st.left (i - 1) true false false true (omega (arith, may.from_1, may.to_16, kept.left_long)) may.stays refl in
        record { held_more = inr (refl, omega arith); working_less = omega arith; gone_more = omega (arith, left) }

    step_adds : (st : Machine P) (a : Actor) (w : What T P E R O J B) → IsCoherent m st → Allows m st a w → Adds st w (next m st a w)
    step_adds st a (Call c reply) kept may = call_adds st a c reply
    step_adds st a (Start slot epoch) kept may =
        let low : slot < length st.modes = (let below = laws.present_below st.applied slot may.can.ready.present in omega (arith, below, kept.modes_long)) in
        let modes = set_from is_held st.modes slot (Started a) Invalid false true low (ap is_held may.can.invalid) refl in
        let seats = set_from is_some st.pending (seat_of a) (Some (record { slot = slot; epoch = epoch })) None false true (seat_low m st a kept may.actor_is) (ap is_some may.free) refl in
        record { held_more = inr (refl, omega (arith, modes)); working_less = omega (arith, seats); gone_more = omega arith }
    step_adds st a (Finish slot epoch) kept may =
        let low = held_low m st slot kept (ap is_held may.started_by) in
        let modes = set_from is_held st.modes slot Done Invalid true true low (ap is_held may.started_by) refl in
        let seats = set_from is_some st.pending (seat_of a) None None true false (seat_low m st a kept may.actor_is) (ap is_some may.pending) refl in
        record { held_more = inr (refl, omega (arith, modes)); working_less = omega (arith, seats); gone_more = omega arith }
    step_adds st a (Late slot since now) kept may =
        let seats = set_from is_some st.pending (seat_of a) None None true false (seat_low m st a kept may.actor_is) (ap is_some may.pending) refl in
        record { held_more = inr (refl, omega arith); working_less = omega (arith, seats); gone_more = omega arith }
    step_adds st (Session i) Bye kept may = bye_adds st i kept may
    step_adds st (Worker k) Bye kept may = absurd may

    -- what a run from a state adds
    record IsFew (st : Machine P) (es : List (Entry T P E R O J B)) : Type 0 where
      starts : starts_in es + held st ≤ 100 * (changes_in es + 1)
      ends : ends_in es ≤ starts_in es + working st
      byes : byes_in es + gone st ≤ 16

    few : (st : Machine P) (es : List (Entry T P E R O J B)) → IsCoherent m st → IsRunFrom m st es → IsFew st es
    few st [] kept run =
        let most = held_few m st kept in
        let left = count_by-le-length has_gone st.left in
        record { starts = omega (arith, most); ends = omega arith; byes = omega (arith, left, kept.left_long) }
    few st (e ∷ es) kept run =
        let adds = step_adds st e.actor e.what kept run.0 in
        let rest = few (next m st e.actor e.what) es (still_coherent m laws st e run.0 kept) run.1 in
        let changes = sum_by-cons (λ x. one (is_change x.what)) e es in
        let starts = sum_by-cons (λ x. one (is_start x.what)) e es in
        let ends = sum_by-cons (λ x. one (closes x.what)) e es in
        let byes = sum_by-cons (λ x. one (is_bye x.what)) e es in
        let most = held_few m st kept in
        record {
          starts = elim adds.held_more [
            | inl change ↦
                let yes = ap one change.0 in
                let no = ap one change.1 in
                omega (arith, rest.starts, changes, starts, most, yes, no)
            | inr other ↦ let no = ap one other.0 in omega (arith, rest.starts, changes, starts, no, other.1)
          ];
          ends = omega (arith, rest.ends, starts, ends, adds.working_less);
          byes = omega (arith, rest.byes, byes, adds.gone_more);
        }

    pub short : (history : List (Entry T P E R O J B)) → IsLegal m history → length history ≤ calls_in history + 16 + 200 * (changes_in history + 1)
    short history legal =
        let kinds = four_kinds history in
        let all = few (blank m) history (coherent-blank m m.blank m.blank) legal in
        omega (arith, kinds, all.starts, all.ends, all.byes, none_working m)
