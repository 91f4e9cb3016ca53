-- A session that has not said bye has not left, and its calls are counted.
use Rattle.std.proofs.Common.{◌≡◌, ℕ, ◌+◌, ◌≤◌, ◌-◌, inl, inr, eqb, Bool, true, false, cond, List, [], ◌∷◌, ◌++◌, length, get_or, set, refl, ap, sym, ◌∙◌, arith}
use Rattle.std.proofs.Common.{get_or-set_same, get_or-set_other}
use Rattle.std.proofs.lemmas.List.{length-append, length-set, length-replicate}
use Rattle.std.proofs.lemmas.Bool.Decides.{eqb_tells}
use Rattle.pl_ports.specs.declared.gate.Actor.{Actor}
use Rattle.pl_ports.specs.declared.gate.Actor.TheVariants.{Session, Worker}
use Rattle.pl_tech.specs.Technology.{Meaning}
use Rattle.pl_machine.specs.declared.entry.What.{What}
use Rattle.pl_machine.specs.declared.entry.What.TheVariants.{Call, Start, Finish, Late, Bye}
use Rattle.pl_machine.specs.declared.entry.Entry.{Entry}
use Rattle.pl_machine.specs.Machine.{Machine, Allows, blank, next, calls_of, has_left}
use Rattle.pl_machine.specs.History.{replay, replay_from, IsRunFrom, IsLegal}
use Rattle.pl_session.proofs.Free.{command_keeps, copied}
use Rattle.pl_order.specs.Order.{entries_of, calls_in, bye_of}
use Rattle.pl_order.proofs.Own.{entries_append, calls_append}

module _ {T P E R O J B : Type 0} (m : Meaning P E R O) where
  -- a step that is no bye of the session leaves whether it has left
  stays_step : (st : Machine P) (a : Actor) (w : What T P E R O J B) (i : ℕ) → 1 ≤ i → Allows m st a w → (a ≡ Session i → w ≡ Bye → ⊥)
      → has_left st i ≡ false → has_left (next m st a w) i ≡ false
  stays_step st a (Call c reply) i from may none is = ap (λ left. get_or left (i - 1) false) (command_keeps m st c).left ∙ is
  stays_step st a (Start slot epoch) i from may none is = is
  stays_step st a (Finish slot epoch) i from may none is = is
  stays_step st a (Late slot since now) i from may none is = is
  stays_step st (Session j) Bye i from may none is = elim (eqb_tells (i - 1) (j - 1)) [
    | inl same ↦ absurd (none (ap Session (let other = may.from_1 in omega (arith, same.1, from, other))) refl)
    | inr other ↦ get_or-set_other st.left (j - 1) (i - 1) true false other.1 ∙ is
  ]
  stays_step st (Worker k) Bye i from may none is = absurd may

  pub stays_run : (st : Machine P) (es : List (Entry T P E R O J B)) (i : ℕ) → 1 ≤ i → IsRunFrom m st es
      → ((before after : List (Entry T P E R O J B)) → es ≡ before ++ bye_of (Session i) ∷ after → ⊥) → has_left st i ≡ false → has_left (replay_from m st es) i ≡ false
  stays_run st [] i from run none is = is
  stays_run st (e ∷ es) i from run none is =
      stays_run (next m st e.actor e.what) es i from run.1 (λ before after same. none (e ∷ before) after (ap (λ l. e ∷ l) same))
      (stays_step st e.actor e.what i from run.0
      (λ by what. none [] es (ap (λ a. record { actor = a; what = e.what } ∷ es) by ∙ ap (λ w. record { actor = Session i; what = w } ∷ es) what)) is)

  -- the list of calls keeps its length
  long_step : (st : Machine P) (a : Actor) (w : What T P E R O J B) → length st.calls ≡ 16 → length (next m st a w).calls ≡ 16
  long_step st a (Call c reply) long = length-set _ _ _ ∙ ap length (command_keeps m st c).calls ∙ long
  long_step st a (Start slot epoch) long = long
  long_step st a (Finish slot epoch) long = long
  long_step st a (Late slot since now) long = long
  long_step st a Bye long = long

  -- the calls of a session among one entry
  abbrev calls_at : ℕ → Actor → What T P E R O J B → ℕ
  calls_at i a w = length (calls_in (entries_of (Session i) (record { actor = a; what = w } ∷ [])))

  none_at : (i : ℕ) (a : Actor) (w : What T P E R O J B) → calls_in (record { actor = a; what = w } ∷ []) ≡ [] → calls_at i a w ≡ 0
  none_at i a w none = either (eqb _ i)
    where
      either : (b : Bool) → length (calls_in (cond b (record { actor = a; what = w } ∷ []) [])) ≡ 0
      either true = ap length none
      either false = refl

  calls_step : (st : Machine P) (a : Actor) (w : What T P E R O J B) (i : ℕ) → 1 ≤ i → i ≤ 16 → length st.calls ≡ 16 → Allows m st a w
      → calls_of (next m st a w) i ≡ calls_of st i + calls_at i a w
  calls_step st (Session j) (Call c reply) i from to long may =
      let keeps = (command_keeps m st c).calls in
      let low = may.0.from_1 in
      ap (λ l. get_or (set l (j - 1) (get_or l (j - 1) 0 + 1)) (i - 1) 0) keeps
      ∙ elim (eqb_tells j i) [
        | inl same ↦
            let one : calls_at i (Session j) (Call c reply) ≡ 1 = ap (λ b. length (calls_in (cond b (record { actor = Session j; what = Call c reply } ∷ []) []))) same.0 in
            let at : get_or (set st.calls (j - 1) (get_or st.calls (j - 1) 0 + 1)) (j - 1) 0 ≡ get_or st.calls (j - 1) 0 + 1 = get_or-set_same st.calls (j - 1) (get_or st.calls (j - 1) 0 + 1) 0 (omega (arith, long, from, to, same.1)) in
            ap (λ n. get_or (set st.calls (j - 1) (get_or st.calls (j - 1) 0 + 1)) (n - 1) 0) (sym same.1) ∙ at ∙ ap (λ n. get_or st.calls (n - 1) 0 + 1) same.1 ∙ ap (λ n. calls_of st i + n) (sym one)
        | inr other ↦
            let none : calls_at i (Session j) (Call c reply) ≡ 0 = ap (λ b. length (calls_in (cond b (record { actor = Session j; what = Call c reply } ∷ []) []))) other.0 in
            let same = get_or-set_other st.calls (j - 1) (i - 1) (get_or st.calls (j - 1) 0 + 1) 0 (λ e. other.1 (omega (arith, e, from, low))) in
            omega (arith, same, none)
      ]
  calls_step st (Worker k) (Call c reply) i from to long may = absurd may
  calls_step st a (Start slot epoch) i from to long may = let none = none_at i a (Start slot epoch) refl in omega (arith, none)
  calls_step st a (Finish slot epoch) i from to long may = let none = none_at i a (Finish slot epoch) refl in omega (arith, none)
  calls_step st a (Late slot since now) i from to long may = let none = none_at i a (Late slot since now) refl in omega (arith, none)
  calls_step st a Bye i from to long may = let none = none_at i a Bye refl in omega (arith, none)

  calls_run : (st : Machine P) (es : List (Entry T P E R O J B)) (i : ℕ) → 1 ≤ i → i ≤ 16 → length st.calls ≡ 16 → IsRunFrom m st es
      → calls_of (replay_from m st es) i ≡ calls_of st i + length (calls_in (entries_of (Session i) es))
  calls_run st [] i from to long run = omega arith
  calls_run st (e ∷ es) i from to long run =
      let rest = calls_run (next m st e.actor e.what) es i from to (long_step st e.actor e.what long) run.1 in
      let step = calls_step st e.actor e.what i from to long run.0 in
      let parts = ap (λ l. length (calls_in l)) (entries_append (Session i) (e ∷ []) es) ∙ ap length (calls_append (entries_of (Session i) (e ∷ [])) (entries_of (Session i) es))
      ∙ length-append (calls_in (entries_of (Session i) (e ∷ []))) (calls_in (entries_of (Session i) es)) in
      omega (arith, rest, step, parts)

  pub stays : (seen : List (Entry T P E R O J B)) (i : ℕ) → 1 ≤ i → IsLegal m seen
      → ((before after : List (Entry T P E R O J B)) → seen ≡ before ++ bye_of (Session i) ∷ after → ⊥) → has_left (replay m seen) i ≡ false
  stays seen i from legal none = stays_run (blank m) seen i from legal none (copied {A = Bool} 16 (i - 1) false)

  pub calls_counted : (seen : List (Entry T P E R O J B)) (i : ℕ) → 1 ≤ i → i ≤ 16 → IsLegal m seen → calls_of (replay m seen) i ≡ length (calls_in (entries_of (Session i) seen))
  calls_counted seen i from to legal =
      let whole = calls_run (blank m) seen i from to (length-replicate {A = ℕ} 16 0) legal in
      let none = copied {A = ℕ} 16 (i - 1) 0 in
      omega (arith, whole, none)
