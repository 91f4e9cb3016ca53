-- Runners that have ended in order make their history complete.
use Rattle.std.proofs.Common.{◌≡◌, ◌≢◌, ◌⊎◌, ℕ, ◌+◌, ◌≤◌, ◌&&◌, eqb, inl, inr, Bool, true, false, cond, sum, List, [], ◌∷◌, ◌++◌, length, map, refl, ap, sym, subst, ◌∙◌, None, arith, append_assoc}
use Rattle.std.specs.List.{Any, filter, slice_get, sum_by}
use Rattle.std.proofs.lemmas.List.Sums.{sum-map, sum_by-cons}
use Rattle.std.proofs.lemmas.Bool.Decides.{eqb_tells}
use mathlib.Core.List.{IsPrefix}
use Rattle.pl_ports.specs.declared.gate.Actor.{Actor}
use Rattle.pl_ports.specs.declared.gate.Actor.TheVariants.{Session, Worker}
use Rattle.pl_tech.specs.Technology.{Meaning}
use Rattle.pl_machine.specs.declared.entry.Command.{Command}
use Rattle.pl_machine.specs.declared.entry.What.{What}
use Rattle.pl_machine.specs.declared.entry.What.TheVariants.{Call, Start, Finish, Late, Bye}
use Rattle.pl_machine.specs.declared.entry.Entry.{Entry}
use Rattle.pl_machine.specs.Machine.{Machine, IsActor, blank, next, pending_of}
use Rattle.pl_machine.specs.History.{replay, IsRunFrom, IsLegal}
use Rattle.pl_machine.specs.Tickets.{number_of}
use Rattle.pl_machine.proofs.Runs.{run_split}
use Rattle.pl_session.specs.Complete.{is_session, is_bye, commands_by, byes_by, byes_due, runs_of, IfStart, IsDue, TakesPart, IsComplete}
use Rattle.pl_session.proofs.Entries.{byes_append}
use Rattle.pl_order.specs.Order.{IsInOrder, IsExportNext, HasSaidBye, number_in, entries_of, calls_in, bye_of}
use Rattle.pl_order.specs.Ended.{Ended, HasEnded, IsMadeBy, commands_for}
use Rattle.pl_order.proofs.Lists.{at_split}
use Rattle.pl_order.proofs.Own.{all_called, same_actor, not_own, actor_of_step, step_at}
use Rattle.pl_order.proofs.Others.{found_keep, newcomer}
use Rattle.pl_order.proofs.Counting.{runs_are, sum_same}

-- the test for a session, and the one by number
same_test : (i : ℕ) (a : Actor) → i ≤ 16 → IsActor a → is_session i a ≡ eqb (number_of a) i
same_test i (Session j) to ok = turned (eqb_tells i j) (eqb_tells j i)
  where
    turned : ((eqb i j ≡ true) × (i ≡ j)) ⊎ ((eqb i j ≡ false) × (i ≢ j)) → ((eqb j i ≡ true) × (j ≡ i)) ⊎ ((eqb j i ≡ false) × (j ≢ i)) → eqb i j ≡ eqb j i
    turned (inl same) (inl again) = same.0 ∙ sym again.0
    turned (inl same) (inr other) = absurd (other.1 (sym same.1))
    turned (inr other) (inl same) = absurd (other.1 (sym same.1))
    turned (inr other) (inr again) = other.0 ∙ sym again.0
same_test i (Worker k) to ok = elim (eqb_tells (16 + k) i) [
  | inl same ↦ absurd (omega arith)
  | inr other ↦ sym other.0
]

is_of_session : (i : ℕ) (a : Actor) → is_session i a ≡ true → a ≡ Session i
is_of_session i (Session j) passes = elim (eqb_tells i j) [
  | inl same ↦ ap Session (sym same.1)
  | inr other ↦ absurd (let f : true ≡ false = sym passes ∙ other.0 in cc)
]
is_of_session i (Worker k) passes = absurd (let f : false ≡ true = passes in cc)

module _ {T P E R O J B : Type 0} where
  -- an actor has no entry, or one that stands in the history
  some_or_none : (actor : Actor) (h : List (Entry T P E R O J B)) → (entries_of actor h ≡ [])
      ⊎ ((before : List (Entry T P E R O J B)) × (e : Entry T P E R O J B) × (after : List (Entry T P E R O J B)) × (h ≡ before ++ e ∷ after) × (number_in e ≡ number_of actor))
  some_or_none actor [] = inl refl
  some_or_none actor (x ∷ h) = elim (eqb_tells (number_in x) (number_of actor)) [
    | inl same ↦ inr ([], x, h, refl, same.1)
    | inr other ↦ elim (some_or_none actor h) [
      | inl none ↦ inl (rw other.0 none)
      | inr found ↦ inr (x ∷ found.0, found.1, found.2, ap (λ l. x ∷ l) found.3, found.4)
    ]
  ]

  -- none passes a test that no entry passes
  none_passes : (test : Entry T P E R O J B → Bool) (h : List (Entry T P E R O J B)) → ((before : List (Entry T P E R O J B)) (e : Entry T P E R O J B) (after : List (Entry T P E R O J B)) → h ≡ before ++ e ∷ after → test e ≡ true → ⊥)
      → sum_by (λ e. cond (test e) 1 0) h ≡ 0
  none_passes test [] none = refl
  none_passes test (x ∷ h) none =
      let more = sum_by-cons (λ e. cond (test e) 1 0) x h in
      let rest = none_passes test h (λ before e after is. none (x ∷ before) e after (ap (λ l. x ∷ l) is)) in
      let here = fails (test x) (λ passes. none [] x h refl passes) in
      omega (arith, more, rest, here)
    where
      fails : (b : Bool) → (b ≡ true → ⊥) → cond b 1 0 ≡ ◌+◌ 0 0
      fails true not = absurd (not refl)
      fails false not = refl

  -- an entry that passes for a bye of the session is its bye
  is_its_bye : (i : ℕ) (a : Actor) (w : What T P E R O J B) → (is_session i a && is_bye w) ≡ true → (a ≡ Session i) × (w ≡ Bye)
  is_its_bye i a w passes = let both = split (is_session i a) (is_bye w) passes in (is_of_session i a both.0, bye w both.1)
    where
      split : (b c : Bool) → (b && c) ≡ true → (b ≡ true) × (c ≡ true)
      split true c h = (refl, h)
      split false c h = cc

      bye : (v : What T P E R O J B) → is_bye v ≡ true → v ≡ Bye
      bye (Call c reply) h = cc
      bye (Start slot epoch) h = cc
      bye (Finish slot epoch) h = cc
      bye (Late slot since now) h = cc
      bye Bye h = refl

  if_start : (w : What T P E R O J B) (F G : ℕ → Type 0) → ((slot : ℕ) → F slot → G slot) → IfStart w F → IfStart w G
  if_start (Call c reply) F G f holds = tt
  if_start (Start slot epoch) F G f holds = f slot holds
  if_start (Finish slot epoch) F G f holds = tt
  if_start (Late slot since now) F G f holds = tt
  if_start Bye F G f holds = tt

  module _ (m : Meaning P E R O) where
    -- in a run a session's entries are those of its number
    own_entries : (st : Machine P) (h : List (Entry T P E R O J B)) (i : ℕ) → i ≤ 16 → IsRunFrom m st h → filter (λ e. is_session i e.actor) h ≡ entries_of (Session i) h
    own_entries st [] i to run = refl
    own_entries st (e ∷ es) i to run =
        ap (λ b. cond b (e ∷ filter (λ x. is_session i x.actor) es) (filter (λ x. is_session i x.actor) es)) (same_test i e.actor to (actor_of_step m st e.actor e.what run.0))
        ∙ ap (λ l. cond (eqb (number_of e.actor) i) (e ∷ l) l) (own_entries (next m st e.actor e.what) es i to run.1)

    own_calls : (h : List (Entry T P E R O J B)) (i : ℕ) → i ≤ 16 → IsLegal m h → commands_by i h ≡ calls_in (entries_of (Session i) h)
    own_calls h i to legal = ap calls_in (own_entries (blank m) h i to legal)

    -- a session that has said bye in order has said it once
    one_bye : (commands : List (Command E)) (i : ℕ) (h before after : List (Entry T P E R O J B)) → IsInOrder m commands (Session i) h None → h ≡ before ++ bye_of (Session i) ∷ after → byes_by i h ≡ 1
    one_bye commands i h before after order is =
        let told = order.bye before after is in
        let whole = ap (byes_by i) is ∙ byes_append i before (bye_of (Session i) ∷ after) in
        let here = byes_append i (bye_of (Session i) ∷ []) after in
        let one : byes_by i (bye_of {T = T} {P = P} {E = E} {R = R} {O = O} {J = J} {B = B} (Session i) ∷ []) ≡ 1 = omega (arith, first) in
        let first_none = none_passes (λ e. is_session i e.actor && is_bye e.what) before earlier in
        let last_none = none_passes (λ e. is_session i e.actor && is_bye e.what) after (λ b e a at passes.
        not_own (Session i) b e a (ap (entries_of (Session i)) (sym at) ∙ told.1) (is_its_bye i e.actor e.what passes).0) in
        omega (arith, whole, here, one, first_none, last_none)
      where
        first : cond (eqb i i && true) 1 0 ≡ ◌+◌ 1 0
        first = elim (eqb_tells i i) [ inl same ↦ rw same.0 refl | inr other ↦ absurd (other.1 refl) ]

        earlier : (b : List (Entry T P E R O J B)) (e : Entry T P E R O J B) (a : List (Entry T P E R O J B)) → before ≡ b ++ e ∷ a → (is_session i e.actor && is_bye e.what) ≡ true → ⊥
        earlier b e a at passes =
            let who = is_its_bye i e.actor e.what passes in
            let its : e ≡ bye_of (Session i) = ap (λ x. record { actor = x; what = e.what }) who.0 ∙ ap (λ w. record { actor = Session i; what = w }) who.1 in
            let stands : h ≡ b ++ bye_of (Session i) ∷ (a ++ bye_of (Session i) ∷ after) =
            is ∙ ap (λ l. l ++ bye_of (Session i) ∷ after) (at ∙ ap (λ x. b ++ x ∷ a) its) ∙ append_assoc b (bye_of (Session i) ∷ a) (bye_of (Session i) ∷ after) in
            not_own (Session i) a (bye_of (Session i)) after (order.bye b (a ++ bye_of (Session i) ∷ after) stands).1 refl

    -- what an actor's next command is, is what is due
    due_of : (commands : ℕ → List (Command E)) (before : List (Entry T P E R O J B)) (a : Actor) → IsActor a → IsLegal m before → IsExportNext (commands_for commands a) a before → IsDue commands before a
    due_of commands before (Session i) ok legal next = ap (λ l. slice_get (commands i) (length l)) (own_calls before i ok.1 legal) ∙ next
    due_of commands before (Worker k) ok legal next = tt

    module _ (commands : ℕ → List (Command E)) (workers : ℕ) (runners : List (Ended T P E R O J B)) (history : List (Entry T P E R O J B)) (by_runners : IsMadeBy m commands workers runners history) where
      -- a runner of the actor, in order to the end of the history
      record RunnerOf (a : Actor) : Type 0 where
        part_is : TakesPart commands workers a
        order : IsInOrder m (commands_for commands a) a history None
        bye : HasSaidBye a history

      -- who has ended in order is in order at the end of the history
      at_end : (r : Ended T P E R O J B) → HasEnded m commands history r → IsInOrder m (commands_for commands r.actor) r.actor history None
      at_end r has = found_keep m (commands_for commands r.actor) r.actor r.seen history None has.order has.seen_is has.own by_runners.legal

      bye_at_end : (a : Actor) (seen : List (Entry T P E R O J B)) → IsPrefix seen history → HasSaidBye a seen → HasSaidBye a history
      bye_at_end (Session i) seen prefix bye =
          (bye.0, bye.1 ++ prefix.0, sym prefix.1 ∙ ap (λ l. l ++ prefix.0) bye.2 ∙ append_assoc bye.0 (bye_of (Session i) ∷ bye.1) prefix.0)
      bye_at_end (Worker k) seen prefix bye = tt

      runner_of : (r : Ended T P E R O J B) → HasEnded m commands history r → TakesPart commands workers r.actor → RunnerOf r.actor
      runner_of r has takes = record { part_is = takes; order = at_end r has; bye = bye_at_end r.actor r.seen has.seen_is has.bye }

      -- who made an entry
      who : (before : List (Entry T P E R O J B)) (e : Entry T P E R O J B) (after : List (Entry T P E R O J B)) → history ≡ before ++ e ∷ after → RunnerOf e.actor
      who before e after is =
          let any = at_split (λ x. Any (λ r. number_of r.actor ≡ number_in x) runners) history before e after is by_runners.entries in
          let r : Ended T P E R O J B = any.1 in
          let has = subst (HasEnded m commands history) any.3 (by_runners.ended any.0 r any.2) in
          let takes = subst (λ x. TakesPart commands workers x.actor) any.3 (by_runners.part any.0 r any.2) in
          let ok = actor_of_step m _ e.actor e.what (step_at m (blank m) before e after (subst (IsLegal m) is by_runners.legal)) in
          subst RunnerOf (same_actor r.actor e.actor has.order.actor_is ok any.4) (runner_of r has takes)

      of_session : (i : ℕ) → 1 ≤ i → i ≤ 16 → commands i ≢ [] → RunnerOf (Session i)
      of_session i from to some =
          let any = by_runners.sessions i from to some in
          let r : Ended T P E R O J B = any.1 in
          let has = subst (HasEnded m commands history) any.3 (by_runners.ended any.0 r any.2) in
          let takes = subst (λ x. TakesPart commands workers x.actor) any.3 (by_runners.part any.0 r any.2) in
          subst RunnerOf any.4 (runner_of r has takes)

      -- a session without a command has made nothing
      none_made : (i : ℕ) → commands i ≡ [] → (before : List (Entry T P E R O J B)) (e : Entry T P E R O J B) (after : List (Entry T P E R O J B)) → history ≡ before ++ e ∷ after → e.actor ≡ Session i → ⊥
      none_made i none before e after is by =
          let takes : TakesPart commands workers (Session i) = subst (TakesPart commands workers) by (who before e after is).part_is in
          takes.2 none

      no_entries : (i : ℕ) → 1 ≤ i → i ≤ 16 → commands i ≡ [] → entries_of (Session i) history ≡ []
      no_entries i from to none = elim (some_or_none (Session i) history) [
        | inl empty ↦ empty
        | inr found ↦
            let e : Entry T P E R O J B = found.1 in
            let ok = actor_of_step m _ e.actor e.what (step_at m (blank m) found.0 e found.2 (subst (IsLegal m) found.3 by_runners.legal)) in
            absurd (none_made i none found.0 e found.2 found.3 (same_actor e.actor (Session i) ok (from, to) found.4))
      ]

      calls_are : (i : ℕ) (own : List (Command E)) → 1 ≤ i → i ≤ 16 → commands i ≡ own → commands_by i history ≡ commands i
      calls_are i [] from to is = own_calls history i to by_runners.legal ∙ ap calls_in (no_entries i from to is) ∙ sym is
      calls_are i (c ∷ cs) from to is =
          let runner = of_session i from to (λ none. let f : c ∷ cs ≡ [] = sym is ∙ none in cc) in
          let bye = runner.bye in
          let told = runner.order.bye bye.0 bye.1 bye.2 in
          own_calls history i to by_runners.legal ∙ all_called (commands i) (Session i) history bye.0 bye.1 bye.2 told.0 told.1

      byes_are : (i : ℕ) (own : List (Command E)) → 1 ≤ i → i ≤ 16 → commands i ≡ own → byes_by i history ≡ byes_due (commands i)
      byes_are i [] from to is =
          none_passes (λ e. is_session i e.actor && is_bye e.what) history (λ before e after at passes. none_made i is before e after at (is_its_bye i e.actor e.what passes).0)
          ∙ ap byes_due (sym is)
      byes_are i (c ∷ cs) from to is =
          let runner = of_session i from to (λ none. let f : c ∷ cs ≡ [] = sym is ∙ none in cc) in
          let bye = runner.bye in
          one_bye (commands i) i history bye.0 bye.1 runner.order bye.2 ∙ ap byes_due (sym is)

      none_pending : (actor : Actor) → IsActor actor → pending_of (replay m history) actor ≡ None
      none_pending actor ok = elim (some_or_none actor history) [
        | inl empty ↦ (newcomer m [] actor history by_runners.legal ok empty).work_is
        | inr found ↦
            let e : Entry T P E R O J B = found.1 in
            let whose = actor_of_step m _ e.actor e.what (step_at m (blank m) found.0 e found.2 (subst (IsLegal m) found.3 by_runners.legal)) in
            (subst RunnerOf (same_actor e.actor actor whose ok found.4) (who found.0 e found.2 found.3)).order.work_is
      ]

      pub complete : IsComplete m commands workers history
      complete = record {
        legal = by_runners.legal;
        calls = λ i from to. calls_are i (commands i) from to refl;
        byes = λ i from to. byes_are i (commands i) from to refl;
        actors = λ before after e is. (who before e after is).part_is;
        idle = none_pending;
        least = λ before after e is. (who before e after is).order.least before after e is refl;
        due = λ before after e is.
            let runner = who before e after is in
            let first = (run_split m (blank m) before (e ∷ after) (subst (IsLegal m) is by_runners.legal)).0 in
            if_start e.what _ _ (λ slot. due_of commands before e.actor runner.order.actor_is first) (runner.order.due before after e is refl);
      }

      pub runs_add_up : sum (map (λ r. r.runs) runners) ≡ runs_of history
      runs_add_up =
          sum-map (λ r. r.runs) runners
          ∙ sum_same (λ r. r.runs) (λ r. runs_of (entries_of r.actor history)) runners (λ k d low. let has = by_runners.ended k d low in has.runs ∙ ap runs_of (sym has.own))
          ∙ runs_are (λ r. number_of r.actor) runners history
          (λ i j d below low same. by_runners.different i j d below low (same_actor _ _ (by_runners.ended i d (omega (arith, below, low))).order.actor_is (by_runners.ended j d low).order.actor_is same)) by_runners.entries
