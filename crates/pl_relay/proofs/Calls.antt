-- The machine counts the calls of each session, and what one more entry adds to them.
use Rattle.std.proofs.Common.{◌≡◌, ◌≢◌, ℕ, ◌+◌, ◌-◌, ◌≤◌, inl, inr, Bool, true, false, cond, List, [], ◌∷◌, ◌++◌, length, get_or, set, refl, ap, sym, ◌∙◌, None, arith}
use Rattle.std.proofs.Common.{get_or-set_same, get_or-set_other}
use Rattle.std.specs.List.{filter, filter_map, cons_option}
use Rattle.std.proofs.lemmas.List.{length-append, length-set, length-replicate}
use Rattle.std.proofs.lemmas.List.Elements.{filter_map-append}
use Rattle.std.proofs.lemmas.Bool.Decides.{eqb_tells}
use Rattle.pl_ports.specs.declared.gate.Actor.{Actor}
use Rattle.pl_ports.specs.declared.gate.Actor.TheVariants.{Session, Worker}
use Rattle.pl_tech.specs.Technology.{Meaning}
use Rattle.pl_machine.specs.declared.entry.Command.{Command}
use Rattle.pl_machine.specs.declared.entry.Reply.{Reply}
use Rattle.pl_machine.specs.declared.entry.What.{What}
use Rattle.pl_machine.specs.declared.entry.What.TheVariants.{Call, Start, Finish, Late, Bye}
use Rattle.pl_machine.specs.declared.entry.Entry.{Entry}
use Rattle.pl_machine.specs.Machine.{Machine, Allows, blank, next, calls_of, session_of}
use Rattle.pl_machine.specs.History.{replay, replay_from, IsRunFrom, IsLegal}
use Rattle.pl_session.specs.Complete.{is_session, command_of, commands_by}
use Rattle.pl_session.proofs.Entries.{commands_append}
use Rattle.pl_session.proofs.Free.{command_keeps, copied}
use Rattle.pl_relay.specs.Relay.{call_of, calls_made}

module _ {T P E R O J B : Type 0} where
  pub made_append : (xs ys : List (Entry T P E R O J B)) → calls_made (xs ++ ys) ≡ calls_made xs ++ calls_made ys
  made_append xs ys = filter_map-append (λ e. call_of (session_of e.actor) e.what) xs ys

  -- the entry of a call
  abbrev pub call_entry : ℕ → Command E → Reply T P E R O J B → Entry T P E R O J B
  call_entry j c reply = record { actor = Session j; what = Call c reply }

  -- the entries of a session
  abbrev pub of_session : ℕ → List (Entry T P E R O J B) → List (Entry T P E R O J B)
  of_session i es = filter (λ e. is_session i e.actor) es

  pub own_call : (i j : ℕ) (c : Command E) (reply : Reply T P E R O J B) (es : List (Entry T P E R O J B)) → i ≡ j
      → commands_by i (call_entry j c reply ∷ es) ≡ c ∷ commands_by i es
  own_call i j c reply es is = elim (eqb_tells i j) [
    | inl same ↦ ap (λ b. filter_map (λ e. command_of e.what) (cond b (call_entry j c reply ∷ of_session i es) (of_session i es))) same.0
    | inr other ↦ absurd (other.1 is)
  ]

  pub other_call : (i j : ℕ) (c : Command E) (reply : Reply T P E R O J B) (es : List (Entry T P E R O J B)) → i ≢ j
      → commands_by i (call_entry j c reply ∷ es) ≡ commands_by i es
  other_call i j c reply es not = elim (eqb_tells i j) [
    | inl same ↦ absurd (not same.1)
    | inr other ↦ ap (λ b. filter_map (λ e. command_of e.what) (cond b (call_entry j c reply ∷ of_session i es) (of_session i es))) other.0
  ]

  -- an entry without a command adds none
  pub no_call : (i : ℕ) (e : Entry T P E R O J B) (es : List (Entry T P E R O J B)) → command_of e.what ≡ None → commands_by i (e ∷ es) ≡ commands_by i es
  no_call i e es none = either (is_session i e.actor)
    where
      either : (b : Bool) → filter_map (λ x. command_of x.what) (cond b (e ∷ of_session i es) (of_session i es)) ≡ filter_map (λ x. command_of x.what) (of_session i es)
      either true = ap (λ o. cons_option o (filter_map (λ x. command_of x.what) (of_session i es))) none
      either false = refl

  module _ (m : Meaning P E R O) where
    long_step : (st : Machine P) (a : Actor) (w : What T P E R O J B) → length st.calls ≡ 16 → length (next m st a w).calls ≡ 16
    long_step st a (Call c reply) long = length-set _ _ _ ∙ ap length (command_keeps m st c).calls ∙ long
    long_step st a (Start slot epoch) long = long
    long_step st a (Finish slot epoch) long = long
    long_step st a (Late slot since now) long = long
    long_step st a Bye long = long

    -- the calls of a session among one entry
    abbrev calls_at : ℕ → Actor → What T P E R O J B → ℕ
    calls_at i a w = length (commands_by i (record { actor = a; what = w } ∷ []))

    counted_step : (st : Machine P) (a : Actor) (w : What T P E R O J B) (i : ℕ) → 1 ≤ i → i ≤ 16 → length st.calls ≡ 16 → Allows m st a w
        → calls_of (next m st a w) i ≡ calls_of st i + calls_at i a w
    counted_step st (Session j) (Call c reply) i from to long may =
        let keeps = (command_keeps m st c).calls in
        let low = may.0.from_1 in
        ap (λ l. get_or (set l (j - 1) (get_or l (j - 1) 0 + 1)) (i - 1) 0) keeps
        ∙ elim (eqb_tells i j) [
          | inl same ↦
              let one : calls_at i (Session j) (Call c reply) ≡ 1 = ap length (own_call i j c reply [] same.1) in
              let at : get_or (set st.calls (j - 1) (get_or st.calls (j - 1) 0 + 1)) (j - 1) 0 ≡ get_or st.calls (j - 1) 0 + 1 = get_or-set_same st.calls (j - 1) (get_or st.calls (j - 1) 0 + 1) 0 (omega (arith, long, from, to, same.1)) in
              ap (λ n. get_or (set st.calls (j - 1) (get_or st.calls (j - 1) 0 + 1)) (n - 1) 0) same.1 ∙ at ∙ ap (λ n. get_or st.calls (n - 1) 0 + 1) (sym same.1) ∙ ap (λ n. calls_of st i + n) (sym one)
          | inr other ↦
              let none : calls_at i (Session j) (Call c reply) ≡ 0 = ap length (other_call i j c reply [] other.1) in
              let same = get_or-set_other st.calls (j - 1) (i - 1) (get_or st.calls (j - 1) 0 + 1) 0 (λ e. other.1 (omega (arith, e, from, low))) in
              omega (arith, same, none)
        ]
    counted_step st (Worker k) (Call c reply) i from to long may = absurd may
    counted_step st a (Start slot epoch) i from to long may = let none = ap length (no_call i (record { actor = a; what = Start slot epoch }) [] refl) in omega (arith, none)
    counted_step st a (Finish slot epoch) i from to long may = let none = ap length (no_call i (record { actor = a; what = Finish slot epoch }) [] refl) in omega (arith, none)
    counted_step st a (Late slot since now) i from to long may = let none = ap length (no_call i (record { actor = a; what = Late slot since now }) [] refl) in omega (arith, none)
    counted_step st a Bye i from to long may = let none = ap length (no_call i (record { actor = a; what = Bye }) [] refl) in omega (arith, none)

    counted_run : (st : Machine P) (es : List (Entry T P E R O J B)) (i : ℕ) → 1 ≤ i → i ≤ 16 → length st.calls ≡ 16 → IsRunFrom m st es
        → calls_of (replay_from m st es) i ≡ calls_of st i + length (commands_by i es)
    counted_run st [] i from to long run = omega arith
    counted_run st (e ∷ es) i from to long run =
        let rest = counted_run (next m st e.actor e.what) es i from to (long_step st e.actor e.what long) run.1 in
        let step = counted_step st e.actor e.what i from to long run.0 in
        let parts = ap length (commands_append i (e ∷ []) es) ∙ length-append (commands_by i (e ∷ [])) (commands_by i es) in
        omega (arith, rest, step, parts)

    pub calls_counted : (seen : List (Entry T P E R O J B)) (i : ℕ) → 1 ≤ i → i ≤ 16 → IsLegal m seen → calls_of (replay m seen) i ≡ length (commands_by i seen)
    calls_counted seen i from to legal =
        let whole = counted_run (blank m) seen i from to (length-replicate {A = ℕ} 16 0) legal in
        let none = copied {A = ℕ} 16 (i - 1) 0 in
        omega (arith, whole, none)
