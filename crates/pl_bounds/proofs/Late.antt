-- What is late was invalidated while its actor worked at it.
use Rattle.std.proofs.Common.{◌≡◌, ℕ, ◌<◌, ◌⊎◌, inl, inr, List, [], ◌∷◌, ◌++◌, get_or, set, refl, ap, sym, subst, ◌∙◌, None, Some, arith, get_or-set_same, get_or-set_other}
use Rattle.std.proofs.lemmas.Bool.Decides.{eqb_tells}
use Rattle.pl_tech.specs.Technology.{Meaning, IsLawful}
use Rattle.pl_ports.specs.declared.gate.Actor.{Actor}
use Rattle.pl_machine.specs.declared.entry.Pending.{Pending}
use Rattle.pl_machine.specs.declared.entry.Mode.TheVariants.{Started}
use Rattle.pl_machine.specs.declared.entry.What.{What}
use Rattle.pl_machine.specs.declared.entry.What.TheVariants.{Call, Start, Finish, Late, Bye}
use Rattle.pl_machine.specs.declared.entry.Entry.{Entry}
use Rattle.pl_machine.specs.Machine.{Machine, IsActor, IsCoherent, Stands, Allows, blank, next, started, mode_of, epoch_of, pending_of, seat_of, session_of}
use Rattle.pl_machine.specs.History.{replay, replay_from, IsRunFrom, IsLegal}
use Rattle.pl_machine.specs.Tickets.{start_of}
use Rattle.pl_machine.proofs.Sound.{seat_below, same_seat, get_or-set_default, coherent-blank}
use Rattle.pl_machine.proofs.Runs.{run_split, replay_split}
use Rattle.pl_machine.proofs.Standing.{command_pending}
use Rattle.pl_machine.proofs.Coherence.{coherent_history}
use Rattle.pl_session.specs.Complete.{EachEntry}
use Rattle.pl_session.proofs.Free.{copied}
use Rattle.pl_bounds.specs.Stopping.{Invalidates, WasInvalidated, IfLate, LateWasInvalidated}
use Rattle.pl_bounds.proofs.Slots.{step_does, still_coherent}

-- what is pending is one pair
same_pair : (slot epoch : ℕ) (p : Pending) → Some (record { slot = slot; epoch = epoch }) ≡ Some p → (slot ≡ p.slot) × (epoch ≡ p.epoch)
same_pair slot epoch p e = let same : record { slot = slot; epoch = epoch } ≡ p = cc in (ap (λ q. q.slot) same, ap (λ q. q.epoch) same)

none_is_some : {A : Type 0} (x : A) → None ≡ Some x → ⊥
none_is_some x e = cc

-- who frees a seat has nothing pending after it, and others have what they had
not_freed : {P : Type 0} (st : Machine P) (a actor : Actor) (p : Pending) → get_or (set st.pending (seat_of a) None) (seat_of actor) None ≡ Some p → pending_of st actor ≡ Some p
not_freed st a actor p is = elim (eqb_tells (seat_of actor) (seat_of a)) [
  | inl same ↦ absurd (none_is_some p (sym (ap (λ n. get_or (set st.pending (seat_of a) None) n None) same.1 ∙ get_or-set_default st.pending (seat_of a) None) ∙ is))
  | inr other ↦ sym (get_or-set_other st.pending (seat_of a) (seat_of actor) None None other.1) ∙ is
]

module _ {P E R O : Type 0} (m : Meaning P E R O) where
  -- who has it pending at the slot's epoch works at it
  works : (st : Machine P) (actor : Actor) (p : Pending) → IsCoherent m st → IsActor actor → pending_of st actor ≡ Some p → epoch_of st p.slot ≡ p.epoch → mode_of st p.slot ≡ Started actor
  works st actor p kept ok is same = of_stands (kept.pending_stands actor p ok is)
    where
      of_stands : Stands st actor p → mode_of st p.slot ≡ Started actor
      of_stands (inl above) = absurd (omega (arith, above, same))
      of_stands (inr both) = both.0

module _ {T P E R O J B : Type 0} (m : Meaning P E R O) where
  -- in each state of the run the actor has this pending
  abbrev Holds : Machine P → List (Entry T P E R O J B) → Actor → Pending → Type 0
  Holds st [] actor p = pending_of st actor ≡ Some p
  Holds st (e ∷ es) actor p = (pending_of st actor ≡ Some p) × Holds (next m st e.actor e.what) es actor p

  held_first : (st : Machine P) (es : List (Entry T P E R O J B)) (actor : Actor) (p : Pending) → Holds st es actor p → pending_of st actor ≡ Some p
  held_first st [] actor p holds = holds
  held_first st (e ∷ es) actor p holds = holds.0

  -- what an actor has pending after a step it had before it, or the step is its start
  pending_before : (st : Machine P) (a : Actor) (w : What T P E R O J B) (actor : Actor) (p : Pending) → IsCoherent m st → IsActor actor → Allows m st a w
      → pending_of (next m st a w) actor ≡ Some p → (pending_of st actor ≡ Some p) ⊎ ((a ≡ actor) × (w ≡ Start p.slot p.epoch))
  pending_before st a (Call c reply) actor p kept ok may is = inl (ap (λ l. get_or l (seat_of actor) None) (sym (command_pending m st c (session_of a))) ∙ is)
  pending_before st a (Start s epoch) actor p kept ok may is = elim (eqb_tells (seat_of actor) (seat_of a)) [
    | inl same ↦
        let here = get_or-set_same st.pending (seat_of a) (Some (record { slot = s; epoch = epoch })) None (let low = seat_below a may.actor_is in omega (arith, low, kept.pending_long)) in
        let one = same_pair s epoch p (sym here ∙ ap (λ n. get_or (started st a s epoch).pending n None) (sym same.1) ∙ is) in
        inr (same_seat a actor may.actor_is ok (sym same.1), ap (λ n. Start n epoch) one.0 ∙ ap (λ n. Start p.slot n) one.1)
    | inr other ↦ inl (sym (get_or-set_other st.pending (seat_of a) (seat_of actor) (Some (record { slot = s; epoch = epoch })) None other.1) ∙ is)
  ]
  pending_before st a (Finish s epoch) actor p kept ok may is = inl (not_freed st a actor p is)
  pending_before st a (Late s since now) actor p kept ok may is = inl (not_freed st a actor p is)
  pending_before st a Bye actor p kept ok may is = inl is

  -- the last start of what an actor has pending
  record LastStart (st : Machine P) (es : List (Entry T P E R O J B)) (actor : Actor) (p : Pending) : Type 0 where
    front : List (Entry T P E R O J B)
    rest : List (Entry T P E R O J B)
    split : es ≡ front ++ start_of actor p.slot p.epoch ∷ rest
    holds : Holds (started (replay_from m st front) actor p.slot p.epoch) rest actor p

  -- the entry that makes the slot Invalid while its actor works at it
  record Stop (st : Machine P) (es : List (Entry T P E R O J B)) (actor : Actor) (slot : ℕ) : Type 0 where
    front : List (Entry T P E R O J B)
    entry : Entry T P E R O J B
    rest : List (Entry T P E R O J B)
    split : es ≡ front ++ entry ∷ rest
    at_work : mode_of (replay_from m st front) slot ≡ Started actor
    invalidates : Invalidates (replay_from m st front) entry.what slot

  -- an entry that stops the work later on
  later_stop : (st : Machine P) (e : Entry T P E R O J B) (es : List (Entry T P E R O J B)) (actor : Actor) (slot : ℕ) → Stop (next m st e.actor e.what) es actor slot → Stop st (e ∷ es) actor slot
  later_stop st e es actor slot found =
      record { front = e ∷ found.front; entry = found.entry; rest = found.rest; split = ap (λ l. e ∷ l) found.split; at_work = found.at_work; invalidates = found.invalidates }

  module _ (laws : IsLawful m) where
    last_start : (st : Machine P) (es : List (Entry T P E R O J B)) (actor : Actor) (p : Pending) → IsCoherent m st → IsActor actor → IsRunFrom m st es
        → pending_of (replay_from m st es) actor ≡ Some p → Holds st es actor p ⊎ LastStart st es actor p
    last_start st [] actor p kept ok run is = inl is
    last_start st (e ∷ es) actor p kept ok run is =
        elim (last_start (next m st e.actor e.what) es actor p (still_coherent m laws st e run.0 kept) ok run.1 is) [
          | inr found ↦ inr (record { front = e ∷ found.front; rest = found.rest; split = ap (λ l. e ∷ l) found.split; holds = found.holds })
          | inl holds ↦ elim (pending_before st e.actor e.what actor p kept ok run.0 (held_first (next m st e.actor e.what) es actor p holds)) [
            | inl before ↦ inl (before, holds)
            | inr start ↦ inr (record {
              front = [];
              rest = es;
              split = ap (λ a. record { actor = a; what = e.what } ∷ es) start.0 ∙ ap (λ w. record { actor = actor; what = w } ∷ es) start.1;
              holds = subst (λ a. Holds (started st a p.slot p.epoch) es actor p) start.0 (subst (λ w. Holds (next m st e.actor w) es actor p) start.1 holds);
            })
          ]
        ]

    first_stop : (st : Machine P) (es : List (Entry T P E R O J B)) (actor : Actor) (p : Pending) → IsCoherent m st → IsActor actor → IsRunFrom m st es → Holds st es actor p
        → epoch_of st p.slot ≡ p.epoch → p.epoch < epoch_of (replay_from m st es) p.slot → Stop st es actor p.slot
    first_stop st [] actor p kept ok run holds same above = absurd (omega (arith, same, above))
    first_stop st (e ∷ es) actor p kept ok run holds same above =
        let further : epoch_of (next m st e.actor e.what) p.slot ≡ p.epoch → Stop (next m st e.actor e.what) es actor p.slot =
        λ still. first_stop (next m st e.actor e.what) es actor p (still_coherent m laws st e run.0 kept) ok run.1 holds.1 still above in
        elim (step_does m laws st e p.slot kept run.0) [
          | inl stays ↦ later_stop st e es actor p.slot (further (stays.epoch ∙ same))
          | inr (inl opens) ↦ later_stop st e es actor p.slot (further (opens.epoch ∙ same))
          | inr (inr falls) ↦ record { front = []; entry = e; rest = es; split = refl; at_work = works m st actor p kept ok holds.0 same; invalidates = falls.by }
        ]

    -- what is pending below the slot's epoch was stopped
    stopped : (before : List (Entry T P E R O J B)) (actor : Actor) (slot since : ℕ) → IsLegal m before → IsActor actor
        → pending_of (replay m before) actor ≡ Some (record { slot = slot; epoch = since }) → since < epoch_of (replay m before) slot → WasInvalidated m before actor slot since
    stopped before actor slot since legal ok is above = elim (last_start (blank m) before actor (record { slot = slot; epoch = since }) (coherent-blank m m.blank m.blank) ok legal is) [
      | inl holds ↦ absurd (none_is_some (record { slot = slot; epoch = since })
          (sym (coherent_none (seat_of actor)) ∙ held_first (blank m) before actor (record { slot = slot; epoch = since }) holds))
      | inr found ↦ of_start found
    ]
      where
        coherent_none : (k : ℕ) → get_or (blank m).pending k None ≡ None
        coherent_none k = copied 24 k None

        of_start : LastStart (blank m) before actor (record { slot = slot; epoch = since }) → WasInvalidated m before actor slot since
        of_start found =
            let start = start_of {T = T} {P = P} {E = E} {R = R} {O = O} {J = J} {B = B} actor slot since in
            let runs = run_split m (blank m) found.front (start ∷ found.rest) (subst (IsLegal m) found.split legal) in
            let st = replay m found.front in
            let kept = coherent_history m laws found.front runs.0 in
            let end = ap (λ es. epoch_of (replay m es) slot) found.split ∙ ap (λ s. epoch_of s slot) (replay_split m (blank m) found.front (start ∷ found.rest)) in
            let stop = first_stop (started st actor slot since) found.rest actor (record { slot = slot; epoch = since }) (still_coherent m laws st start runs.1.0 kept) ok runs.1.1 found.holds
            runs.1.0.current (subst (λ n. since < n) end above) in
            let there = replay_split m (blank m) found.front (start ∷ stop.front) in
            record {
              before = found.front;
              between = stop.front;
              entry = stop.entry;
              after = stop.rest;
              split = found.split ∙ ap (λ l. found.front ++ start ∷ l) stop.split;
              at_work = ap (λ s. mode_of s slot) there ∙ stop.at_work;
              invalidates = subst (λ s. Invalidates s stop.entry.what slot) (sym there) stop.invalidates;
            }

    late_of : (before : List (Entry T P E R O J B)) (a : Actor) (w : What T P E R O J B) → IsLegal m before → Allows m (replay m before) a w
        → IfLate w (λ slot since. WasInvalidated m before a slot since)
    late_of before a (Call c reply) legal may = tt
    late_of before a (Start slot epoch) legal may = tt
    late_of before a (Finish slot epoch) legal may = tt
    late_of before a (Late slot since now) legal may = stopped before a slot since legal may.actor_is may.pending (subst (λ n. since < n) (sym may.current) may.later)
    late_of before a Bye legal may = tt

    pub late_was_invalidated : (history : List (Entry T P E R O J B)) → IsLegal m history → EachEntry history (LateWasInvalidated m)
    late_was_invalidated history legal before after e is =
        let runs = run_split m (blank m) before (e ∷ after) (subst (IsLegal m) is legal) in
        late_of before e.actor e.what runs.0 runs.1.0
