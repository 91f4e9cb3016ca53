-- Each step keeps what every state keeps.
use Rattle.std.proofs.Common.{◌≡◌, ◌≢◌, ℕ, ◌+◌, ◌-◌, ◌<◌, ◌≤◌, ◌*◌, ◌^◌, inl, inr, Bool, true, false, cond, sum, All, List, length, get_or, set, replicate, refl, ap, sym, subst, ◌∙◌, None, Some, arith, get_or-set_same, get_or-set_other}
use Rattle.std.proofs.Math.ListN.{get_or-eq_default}
use Rattle.std.proofs.lemmas.List.{get_or-replicate, length-set, length-replicate}
use Rattle.std.proofs.lemmas.List.Sums.{sum_by-set, sum_by-le}
use Rattle.std.proofs.lemmas.List.Elements.{All-set, All-replicate}
use Rattle.std.proofs.lemmas.Bool.{cases_lt}
use Rattle.std.proofs.lemmas.Bool.Decides.{eqb_tells}
use Rattle.pl_ports.specs.declared.gate.Actor.{Actor}
use Rattle.pl_ports.specs.declared.gate.Actor.TheVariants.{Session, Worker}
use Rattle.pl_machine.specs.declared.entry.Mode.TheVariants.{Invalid, Started, Done}
use Rattle.pl_machine.specs.declared.entry.Pending.{Pending}
use Rattle.pl_machine.specs.declared.entry.Mode.{Mode}
use Rattle.pl_tech.specs.Technology.{Meaning}
use Rattle.pl_machine.specs.Each.{length-each_slot, get_or-each_slot}
use Rattle.pl_machine.specs.Machine.{Machine, IsActor, IsSound, IsCoherent, IsPendingAt, IsReady, MayCall, Starts, Drops, is_gone, is_invalid, without, Stands, seat_of, pending_of, mode_of, epoch_of, started, finished, freed, called, modes_after, epochs_after}
use Rattle.std.specs.declared.option.Option.{Option}

pub seat_below : (a : Actor) → IsActor a → seat_of a < 24
seat_below (Session i) h = omega arith
seat_below (Worker k) h = omega arith

pub same_seat : (a b : Actor) → IsActor a → IsActor b → seat_of a ≡ seat_of b → a ≡ b
same_seat (Session i) (Session j) h k e = ap Session (omega arith)
same_seat (Session i) (Worker j) h k e = absurd (omega arith)
same_seat (Worker i) (Session j) h k e = absurd (omega arith)
same_seat (Worker i) (Worker j) h k e = ap Worker (omega arith)

none_is_some : {A : Type 0} {x : A} → None ≡ Some x → ⊥
none_is_some e = cc

of_some : {A : Type 0} {x y : A} → Some x ≡ Some y → x ≡ y
of_some e = cc

-- what is pending is one pair
abbrev pair : ℕ → ℕ → Pending
pair slot epoch = record { slot = slot; epoch = epoch }

of_pair : (s t since later : ℕ) → Some (pair s since) ≡ Some (pair t later) → (s ≡ t) × (since ≡ later)
of_pair s t since later e = let same = of_some e in (ap (λ p. p.slot) same, ap (λ p. p.epoch) same)

calls_rise : (calls : List ℕ) (i : ℕ) → i < length calls → sum (set calls i (get_or calls i 0 + 1)) ≡ sum calls + 1
calls_rise calls i h = omega (arith, sum_by-set (λ x. x) calls i (get_or calls i 0 + 1) 0 h)

cond_rises : (b : Bool) (n : ℕ) → n ≤ cond b (n + 1) n
cond_rises true n = omega arith
cond_rises false n = omega arith

cond_rises_most : (b : Bool) (n : ℕ) → cond b (n + 1) n ≤ n + 1
cond_rises_most true n = omega arith
cond_rises_most false n = omega arith

module _ {P : Type 0} where
  pub mode_after : (st : Machine P) (hit : ℕ → Bool) (k : ℕ) → k < 100 → get_or (modes_after st hit) k Invalid ≡ cond (hit k) Invalid (mode_of st k)
  mode_after st hit k low = get_or-each_slot (λ j. cond (hit j) Invalid (mode_of st j)) k Invalid low

  pub epoch_after : (st : Machine P) (hit : ℕ → Bool) (k : ℕ) → k < 100 → get_or (epochs_after st hit) k 0 ≡ cond (hit k) (epoch_of st k + 1) (epoch_of st k)
  epoch_after st hit k low = get_or-each_slot (λ j. cond (hit j) (epoch_of st j + 1) (epoch_of st j)) k 0 low

module _ {A : Type 0} where
  -- a write of the default at i, read at i
  pub get_or-set_default : (xs : List A) (i : ℕ) (d : A) → get_or (set xs i d) i d ≡ d
  get_or-set_default xs i d = elim (cases_lt i (length xs)) [
    | inl within ↦ get_or-set_same xs i d d within
    | inr out ↦ get_or-eq_default (set xs i d) d (rw length-set out)
  ]

  -- a place of n copies of the default has the default
  get_or-copies : (n i : ℕ) (d : A) → get_or (replicate n d) i d ≡ d
  get_or-copies n i d = elim (cases_lt i n) [
    | inl within ↦ get_or-replicate n i d d within
    | inr out ↦ get_or-eq_default (replicate n d) d (rw length-replicate out)
  ]

-- another actor's pending pair is read as before
other_pending : (xs : List (Option Pending)) (a b : Actor) (v : Option Pending) → seat_of b ≢ seat_of a
    → get_or (set xs (seat_of a) v) (seat_of b) None ≡ get_or xs (seat_of b) None
other_pending xs a b v ne = get_or-set_other xs (seat_of a) (seat_of b) v None ne

module _ {P E R O : Type 0} (m : Meaning P E R O) where
  -- one slot's mode is written that was not Done before, and the slot is ready
  ready_written : (st st' : Machine P) (slot : ℕ) (v : Mode) → st'.modes ≡ set st.modes slot v → st'.applied ≡ st.applied → mode_of st slot ≢ Done
      → IsReady m st slot → ((k : ℕ) → is_invalid (mode_of st k) ≡ false → IsReady m st k)
      → (k : ℕ) → is_invalid (mode_of st' k) ≡ false → IsReady m st' k
  ready_written st st' slot v modes applied not_done here old k held = elim (eqb_tells k slot) [
    | inl same ↦ again (subst (IsReady m st) (sym same.1) here)
    | inr other ↦ again (old k (ap is_invalid (sym (ap (λ ms. get_or ms k Invalid) modes ∙ get_or-set_other st.modes slot k v Invalid other.1)) ∙ held))
  ]
    where
      still_done : (n : ℕ) → mode_of st n ≡ Done → mode_of st' n ≡ Done
      still_done n done = elim (eqb_tells n slot) [
        | inl same ↦ absurd (not_done (ap (mode_of st) (sym same.1) ∙ done))
        | inr other ↦ ap (λ ms. get_or ms n Invalid) modes ∙ get_or-set_other st.modes slot n v Invalid other.1 ∙ done
      ]

      again : IsReady m st k → IsReady m st' k
      again r = record {
        present = ap (λ p. m.present p k) applied ∙ r.present;
        needed = λ n need. still_done n (r.needed n (ap (λ p. m.needs p k n) (sym applied) ∙ need));
      }

  pub coherent-blank : (e a : P) →
      IsCoherent m (record { edited = e; applied = a; modes = replicate 100 Invalid; epochs = replicate 100 0; calls = replicate 16 0; left = replicate 16 false; pending = replicate 24 None })
  coherent-blank e a = record {
    modes_long = length-replicate 100 Invalid;
    epochs_long = length-replicate {A = ℕ} 100 0;
    calls_long = length-replicate {A = ℕ} 16 0;
    left_long = length-replicate {A = Bool} 16 false;
    pending_long = length-replicate {A = Option Pending} 24 None;
    pending_stands = λ b p h is. absurd (none_is_some (sym (get_or-copies 24 (seat_of b) None) ∙ is));
    started_pending = λ k b is. absurd (let e : Invalid ≡ Started b = sym (get_or-copies 100 k Invalid) ∙ is in cc);
    left_idle = λ i from to gone. get_or-copies 24 (i - 1) None;
    held_ready = λ k held. absurd (let e : true ≡ false = ap is_invalid (sym (get_or-copies 100 k Invalid)) ∙ held in cc);
  }

  pub sound-blank : (e a : P) →
      IsSound m (record { edited = e; applied = a; modes = replicate 100 Invalid; epochs = replicate 100 0; calls = replicate 16 0; left = replicate 16 false; pending = replicate 24 None })
  sound-blank e a = record {
    kept = coherent-blank e a;
    calls_fit = All-replicate (λ n. n ≤ 2 ^ 32 - 1) 16 0 (omega arith);
    epochs_low = λ k. let z = get_or-copies {A = ℕ} 100 k 0 in omega (arith, z);
  }

  -- who has dropped what was pending has nothing pending, and neither has who had left
  idle_freed : (st : Machine P) (a : Actor) (i : ℕ) → pending_of st (Session i) ≡ None → get_or (set st.pending (seat_of a) None) (i - 1) None ≡ None
  idle_freed st a i idle = elim (eqb_tells (i - 1) (seat_of a)) [
    | inl same ↦ ap (λ n. get_or (set st.pending (seat_of a) None) n None) same.1 ∙ get_or-set_default st.pending (seat_of a) None
    | inr other ↦ other_pending st.pending a (Session i) None other.1 ∙ idle
  ]

  -- what is pending late was not started
  pub coherent-freed : (st : Machine P) (a : Actor) (slot since now : ℕ) → Drops st a slot since now → IsCoherent m st → IsCoherent m (freed st a)
  coherent-freed st a slot since now drops kept = record {
    modes_long = kept.modes_long;
    epochs_long = kept.epochs_long;
    calls_long = kept.calls_long;
    left_long = kept.left_long;
    pending_long = length-set st.pending (seat_of a) None ∙ kept.pending_long;
    pending_stands = λ b p k is. elim (eqb_tells (seat_of b) (seat_of a)) [
      | inl same ↦ absurd (none_is_some (sym (ap (λ n. get_or (set st.pending (seat_of a) None) n None) same.1 ∙ get_or-set_default st.pending (seat_of a) None) ∙ is))
      | inr other ↦ kept.pending_stands b p k (sym (other_pending st.pending a b None other.1) ∙ is)
    ];
    started_pending = λ k b is.
        let old = kept.started_pending k b is in
        elim (eqb_tells (seat_of b) (seat_of a)) [
          | inl same ↦ absurd (not_late k b (same_seat b a old.actor_is drops.actor_is same.1) old)
          | inr other ↦ record { actor_is = old.actor_is; pending = other_pending st.pending a b None other.1 ∙ old.pending }
        ];
    left_idle = λ i from to gone. idle_freed st a i (kept.left_idle i from to gone);
    held_ready = λ k held. let r = kept.held_ready k held in record { present = r.present; needed = r.needed };
  }
    where
      not_late : (k : ℕ) (b : Actor) → b ≡ a → IsPendingAt st b k → ⊥
      not_late k b who old =
          let one = of_pair k slot (epoch_of st k) since (sym old.pending ∙ ap (pending_of st) who ∙ drops.pending) in
          let here : epoch_of st k ≡ epoch_of st slot = ap (epoch_of st) one.0 in
          omega (arith, one.1, here, drops.current, drops.later)

  -- who leaves has nothing pending, and keeps nothing from others
  pub coherent-without : (st : Machine P) (i : ℕ) → MayCall st i → IsCoherent m st → IsCoherent m (without st i)
  coherent-without st i may kept = record {
    modes_long = kept.modes_long;
    epochs_long = kept.epochs_long;
    calls_long = kept.calls_long;
    left_long = length-set st.left (i - 1) true ∙ kept.left_long;
    pending_long = kept.pending_long;
    pending_stands = kept.pending_stands;
    started_pending = λ k b is. let old = kept.started_pending k b is in record { actor_is = old.actor_is; pending = old.pending };
    left_idle = λ j from to gone. elim (eqb_tells (j - 1) (i - 1)) [
      | inl same ↦ ap (λ n. get_or st.pending n None) same.1 ∙ may.free
      | inr other ↦ kept.left_idle j from to (sym (get_or-set_other st.left (i - 1) (j - 1) true false other.1) ∙ gone)
    ];
    held_ready = λ k held. let r = kept.held_ready k held in record { present = r.present; needed = r.needed };
  }

  stands_finished : (st : Machine P) (a b : Actor) (slot : ℕ) (q : Pending) → mode_of st slot ≡ Started a → a ≢ b → Stands st b q → Stands (finished st a slot) b q
  stands_finished st a b slot q was ne (inl above) = inl above
  stands_finished st a b slot q was ne (inr (mode, epoch)) = elim (eqb_tells q.slot slot) [
    | inl same ↦ absurd (ne (let e : Started a ≡ Started b = sym was ∙ ap (mode_of st) (sym same.1) ∙ mode in cc))
    | inr other ↦ inr (get_or-set_other st.modes slot q.slot Done Invalid other.1 ∙ mode, epoch)
  ]

  mode_place : (st : Machine P) (k : ℕ) (a : Actor) → mode_of st k ≡ Started a → k < length st.modes
  mode_place st k a is = elim (cases_lt k (length st.modes)) [
    | inl here ↦ here
    | inr out ↦ absurd (let e : Invalid ≡ Started a = sym (get_or-eq_default st.modes Invalid out) ∙ is in cc)
  ]

  pub coherent-finished : (st : Machine P) (a : Actor) (slot : ℕ) → mode_of st slot ≡ Started a → IsCoherent m st → IsCoherent m (finished st a slot)
  coherent-finished st a slot was kept = record {
    modes_long = length-set st.modes slot Done ∙ kept.modes_long;
    epochs_long = kept.epochs_long;
    calls_long = kept.calls_long;
    left_long = kept.left_long;
    pending_long = length-set st.pending (seat_of a) None ∙ kept.pending_long;
    pending_stands = λ b p k is. elim (eqb_tells (seat_of b) (seat_of a)) [
      | inl same ↦ absurd (none_is_some (sym (ap (λ n. get_or (set st.pending (seat_of a) None) n None) same.1 ∙ get_or-set_default st.pending (seat_of a) None) ∙ is))
      | inr other ↦ stands_finished st a b slot p was (λ e. other.1 (ap seat_of (sym e))) (kept.pending_stands b p k (sym (other_pending st.pending a b None other.1) ∙ is))
    ];
    started_pending = λ k b is. elim (eqb_tells k slot) [
      | inl same ↦ absurd (let e : Done ≡ Started b = sym (get_or-set_same st.modes slot Done Invalid (mode_place st slot a was)) ∙ ap (mode_of (finished st a slot)) (sym same.1) ∙ is in cc)
      | inr other ↦
          let old = kept.started_pending k b (sym (get_or-set_other st.modes slot k Done Invalid other.1) ∙ is) in
          record { actor_is = old.actor_is; pending = other_pending st.pending a b None (λ s. other.1 (one_at_once k b s old)) ∙ old.pending }
    ];
    left_idle = λ i from to gone. idle_freed st a i (kept.left_idle i from to gone);
    held_ready = λ k held. ready_written st (finished st a slot) slot Done refl refl (λ d. let e : Started a ≡ Done = sym was ∙ d in cc)
        (kept.held_ready slot (ap is_invalid was)) kept.held_ready k held;
  }
    where
      one_at_once : (k : ℕ) (b : Actor) → seat_of b ≡ seat_of a → IsPendingAt st b k → k ≡ slot
      one_at_once k b s old =
          let mine = kept.started_pending slot a was in
          (of_pair k slot (epoch_of st k) (epoch_of st slot) (sym old.pending ∙ ap (λ n. get_or st.pending n None) s ∙ mine.pending)).0

  stands_started : (st : Machine P) (a b : Actor) (slot e : ℕ) (q : Pending) → mode_of st slot ≡ Invalid → Stands st b q → Stands (started st a slot e) b q
  stands_started st a b slot e q was (inl above) = inl above
  stands_started st a b slot e q was (inr (mode, epoch)) = elim (eqb_tells q.slot slot) [
    | inl same ↦ absurd (let e : Invalid ≡ Started b = sym was ∙ ap (mode_of st) (sym same.1) ∙ mode in cc)
    | inr other ↦ inr (get_or-set_other st.modes slot q.slot (Started a) Invalid other.1 ∙ mode, epoch)
  ]

  pub coherent-started : (st : Machine P) (a : Actor) (slot e : ℕ) → slot < 100 → Starts m st a slot e → IsCoherent m st → IsCoherent m (started st a slot e)
  coherent-started st a slot e within starts kept = record {
    modes_long = length-set st.modes slot (Started a) ∙ kept.modes_long;
    epochs_long = kept.epochs_long;
    calls_long = kept.calls_long;
    left_long = kept.left_long;
    pending_long = length-set st.pending (seat_of a) (Some (pair slot e)) ∙ kept.pending_long;
    pending_stands = λ b p k is. elim (eqb_tells (seat_of b) (seat_of a)) [
      | inl same ↦
          let who : b ≡ a = same_seat b a k starts.actor_is same.1 in
          let mine : p ≡ pair slot e = of_some (sym is ∙ ap (λ n. get_or (set st.pending (seat_of a) (Some (pair slot e))) n None) same.1 ∙ here) in
          subst (λ q. Stands (started st a slot e) b q) (sym mine) (inr (mode ∙ ap Started (sym who), starts.current))
      | inr other ↦ stands_started st a b slot e p starts.can.invalid (kept.pending_stands b p k (sym (other_pending st.pending a b (Some (pair slot e)) other.1) ∙ is))
    ];
    started_pending = λ k b is. elim (eqb_tells k slot) [
      | inl same ↦
          let f : Started a ≡ Started b = sym mode ∙ ap (mode_of (started st a slot e)) (sym same.1) ∙ is in
          let who : a ≡ b = cc in
          subst (λ x. IsPendingAt (started st a slot e) x k) who (record {
            actor_is = starts.actor_is;
            pending = here ∙ ap (λ n. Some (pair slot n)) (sym starts.current) ∙ ap (λ n. Some (pair n (epoch_of st n))) (sym same.1);
          })
      | inr other ↦
          let old = kept.started_pending k b (sym (get_or-set_other st.modes slot k (Started a) Invalid other.1) ∙ is) in
          record {
            actor_is = old.actor_is;
            pending = other_pending st.pending a b (Some (pair slot e)) (λ s. none_is_some (sym starts.free ∙ ap (λ n. get_or st.pending n None) (sym s) ∙ old.pending)) ∙ old.pending;
          }
    ];
    left_idle = λ i from to gone. elim (eqb_tells (i - 1) (seat_of a)) [
      | inl same ↦ absurd (let f : true ≡ false = sym gone ∙ ap (is_gone st) (same_seat (Session i) a (from, to) starts.actor_is same.1) ∙ starts.stays in cc)
      | inr other ↦ other_pending st.pending a (Session i) (Some (pair slot e)) other.1 ∙ kept.left_idle i from to gone
    ];
    held_ready = λ k held. ready_written st (started st a slot e) slot (Started a) refl refl (λ d. let e : Invalid ≡ Done = sym starts.can.invalid ∙ d in cc)
        starts.can.ready kept.held_ready k held;
  }
    where
      here : get_or (set st.pending (seat_of a) (Some (pair slot e))) (seat_of a) None ≡ Some (pair slot e)
      here = get_or-set_same st.pending (seat_of a) (Some (pair slot e)) None (let low = seat_below a starts.actor_is in omega (arith, kept.pending_long))

      mode : mode_of (started st a slot e) slot ≡ Started a
      mode = get_or-set_same st.modes slot (Started a) Invalid (omega (arith, kept.modes_long))

  -- a step that leaves the calls and the epochs
  pub sound_still : (st st' : Machine P) → st'.calls ≡ st.calls → st'.epochs ≡ st.epochs → IsSound m st → IsCoherent m st' → IsSound m st'
  sound_still st st' calls epochs sound kept = record {
    kept = kept;
    calls_fit = subst (All (λ n. n ≤ 2 ^ 32 - 1)) (sym calls) sound.calls_fit;
    epochs_low = λ k. let e = ap (λ l. get_or l k 0) epochs in let c = ap sum calls in omega (arith, e, c, sound.epochs_low k);
  }

  -- what is pending and not late may be finished
  pub may_finish : (st : Machine P) (a : Actor) (p : Pending) → IsSound m st → IsActor a → pending_of st a ≡ Some p → epoch_of st p.slot ≤ p.epoch
      → (mode_of st p.slot ≡ Started a) × (epoch_of st p.slot ≡ p.epoch)
  may_finish st a p sound h is low = of_stands (sound.kept.pending_stands a p h is)
    where
      of_stands : Stands st a p → (mode_of st p.slot ≡ Started a) × (epoch_of st p.slot ≡ p.epoch)
      of_stands (inl above) = absurd (omega arith)
      of_stands (inr both) = both

  epoch_place : (st : Machine P) (k n : ℕ) → n < epoch_of st k → k < length st.epochs
  epoch_place st k n above = elim (cases_lt k (length st.epochs)) [
    | inl here ↦ here
    | inr out ↦ absurd (let z = get_or-eq_default st.epochs 0 out in omega (arith, z))
  ]

  abbrev fallen : Machine P → P → P → (ℕ → Bool) → ℕ → Machine P
  fallen st edited applied hit i = called (record st { edited = edited; applied = applied; modes = modes_after st hit; epochs = epochs_after st hit }) i

  -- what is held and does not fall stays ready
  abbrev pub StayReady : Machine P → P → (ℕ → Bool) → Type 0
  StayReady st applied hit = (k : ℕ) → k < 100 → hit k ≡ false → is_invalid (mode_of st k) ≡ false
      → (m.present applied k ≡ true) × ((n : ℕ) → m.needs applied k n ≡ true → (n < 100) × (hit n ≡ false) × (mode_of st n ≡ Done))

  ready_fallen : (st : Machine P) (edited applied : P) (hit : ℕ → Bool) (i : ℕ) → StayReady st applied hit
      → (k : ℕ) → is_invalid (get_or (modes_after st hit) k Invalid) ≡ false → IsReady m (fallen st edited applied hit i) k
  ready_fallen st edited applied hit i stay k held = elim (cases_lt k 100) [
    | inr far ↦ absurd (let z = get_or-eq_default (modes_after st hit) Invalid (let l : length (modes_after st hit) ≤ k = rw length-each_slot far in l) in let e : true ≡ false = ap is_invalid (sym z) ∙ held in cc)
    | inl low ↦ elim (hit k) as (λ v. hit k ≡ v → IsReady m (fallen st edited applied hit i) k) [
      | true ↦ λ is. absurd (let e : true ≡ false = ap is_invalid (sym (mode_after st hit k low ∙ ap (λ v. cond v Invalid (mode_of st k)) is)) ∙ held in cc)
      | false ↦ λ is.
          let kept = mode_after st hit k low ∙ ap (λ v. cond v Invalid (mode_of st k)) is in
          let r = stay k low is (ap is_invalid (sym kept) ∙ held) in
          record {
            present = r.0;
            needed = λ n need. let d = r.1 n need in mode_after st hit n d.0 ∙ ap (λ v. cond v Invalid (mode_of st n)) d.1 ∙ d.2;
          }
    ] refl
  ]

  -- a session's command that makes the slots of hit fall
  pub coherent-fallen : (st : Machine P) (edited applied : P) (hit : ℕ → Bool) (i : ℕ) → StayReady st applied hit → IsCoherent m st → IsCoherent m (fallen st edited applied hit i)
  coherent-fallen st edited applied hit i stay kept = record {
    modes_long = length-each_slot _;
    epochs_long = length-each_slot _;
    calls_long = length-set st.calls (i - 1) _ ∙ kept.calls_long;
    left_long = kept.left_long;
    pending_long = kept.pending_long;
    pending_stands = λ b p h is. falls p b (kept.pending_stands b p h is);
    started_pending = λ k b is. elim (cases_lt k 100) [
      | inr far ↦ absurd (let z = get_or-eq_default (modes_after st hit) Invalid (let l : length (modes_after st hit) ≤ k = rw length-each_slot far in l) in let e : Invalid ≡ Started b = sym z ∙ is in cc)
      | inl low ↦ pending_at k b low is
    ];
    left_idle = kept.left_idle;
    held_ready = λ k held. ready_fallen st edited applied hit i stay k held;
  }
    where
      falls : (p : Pending) (b : Actor) → Stands st b p → Stands (fallen st edited applied hit i) b p
      falls p b (inl above) =
          let low : p.slot < 100 = let w = epoch_place st p.slot p.epoch above in omega (arith, w, kept.epochs_long) in
          let e = epoch_after st hit p.slot low in let r = cond_rises (hit p.slot) (epoch_of st p.slot) in inl (omega (arith, above, e, r))
      falls p b (inr both) =
          let low : p.slot < 100 = let w = mode_place st p.slot b both.0 in omega (arith, w, kept.modes_long) in
          let e = epoch_after st hit p.slot low in
          let m = mode_after st hit p.slot low in
          elim (hit p.slot) as (λ v. hit p.slot ≡ v → Stands (fallen st edited applied hit i) b p) [
            | true ↦ λ is. inl (let f = ap (λ v. cond v (epoch_of st p.slot + 1) (epoch_of st p.slot)) is in omega (arith, e, f, both.1))
            | false ↦ λ is. inr (m ∙ ap (λ v. cond v Invalid (mode_of st p.slot)) is ∙ both.0, e ∙ ap (λ v. cond v (epoch_of st p.slot + 1) (epoch_of st p.slot)) is ∙ both.1)
          ] refl

      pending_at : (k : ℕ) (b : Actor) → k < 100 → get_or (modes_after st hit) k Invalid ≡ Started b → IsPendingAt (fallen st edited applied hit i) b k
      pending_at k b low is =
          let mode = sym (mode_after st hit k low) ∙ is in
          let epoch = epoch_after st hit k low in
          elim (hit k) as (λ v. hit k ≡ v → IsPendingAt (fallen st edited applied hit i) b k) [
            | true ↦ λ h. absurd (let e : Invalid ≡ Started b = sym (ap (λ v. cond v Invalid (mode_of st k)) h) ∙ mode in cc)
            | false ↦ λ h.
                let old = kept.started_pending k b (sym (ap (λ v. cond v Invalid (mode_of st k)) h) ∙ mode) in
                record {
                  actor_is = old.actor_is;
                  pending = old.pending ∙ ap (λ n. Some (pair k n)) (sym (epoch ∙ ap (λ v. cond v (epoch_of st k + 1) (epoch_of st k)) h));
                }
          ] refl

  pub sound-fallen : (st : Machine P) (edited applied : P) (hit : ℕ → Bool) (i : ℕ) → 1 ≤ i → i ≤ 16 → get_or st.calls (i - 1) 0 < 2 ^ 32 - 1 → StayReady st applied hit
      → IsSound m st → IsSound m (fallen st edited applied hit i)
  sound-fallen st edited applied hit i from to room stay sound = record {
    kept = coherent-fallen st edited applied hit i stay sound.kept;
    calls_fit = All-set (λ n. n ≤ 2 ^ 32 - 1) st.calls (i - 1) (get_or st.calls (i - 1) 0 + 1) (omega (arith, room)) sound.calls_fit;
    epochs_low = λ k. elim (cases_lt k 100) [
      | inl low ↦ let e = epoch_after st hit k low in let r = cond_rises_most (hit k) (epoch_of st k) in omega (arith, e, r, rise, sound.epochs_low k)
      | inr far ↦ let z = get_or-eq_default (epochs_after st hit) 0 (let n = length-each_slot (λ j. cond (hit j) (epoch_of st j + 1) (epoch_of st j)) in let l : length (epochs_after st hit) ≤ k = omega (arith, n) in l) in omega (arith, z)
    ];
  }
    where
      rise : sum (set st.calls (i - 1) (get_or st.calls (i - 1) 0 + 1)) ≡ sum st.calls + 1
      rise = calls_rise st.calls (i - 1) (omega (arith, sound.kept.calls_long))

  -- a session's command that changes the plate alone
  pub coherent-edited : (st : Machine P) (edited : P) (i : ℕ) → IsCoherent m st → IsCoherent m (called (record st { edited = edited }) i)
  coherent-edited st edited i kept = record {
    modes_long = kept.modes_long;
    epochs_long = kept.epochs_long;
    calls_long = length-set st.calls (i - 1) _ ∙ kept.calls_long;
    left_long = kept.left_long;
    pending_long = kept.pending_long;
    pending_stands = kept.pending_stands;
    started_pending = λ k b is. let old = kept.started_pending k b is in record { actor_is = old.actor_is; pending = old.pending };
    left_idle = kept.left_idle;
    held_ready = λ k held. let r = kept.held_ready k held in record { present = r.present; needed = r.needed };
  }

  pub sound-edited : (st : Machine P) (edited : P) (i : ℕ) → 1 ≤ i → i ≤ 16 → get_or st.calls (i - 1) 0 < 2 ^ 32 - 1 → IsSound m st → IsSound m (called (record st { edited = edited }) i)
  sound-edited st edited i from to room sound = record {
    kept = coherent-edited st edited i sound.kept;
    calls_fit = All-set (λ n. n ≤ 2 ^ 32 - 1) st.calls (i - 1) (get_or st.calls (i - 1) 0 + 1) (omega (arith, room)) sound.calls_fit;
    epochs_low = λ k. let rise = calls_rise st.calls (i - 1) (omega (arith, sound.kept.calls_long)) in omega (arith, rise, sound.epochs_low k);
  }

  -- no epoch is at its type's end
  pub epochs_fit : (st : Machine P) (k : ℕ) → IsSound m st → epoch_of st k < 2 ^ 64 - 1
  epochs_fit st k sound =
      let most = sum_by-le (λ n. n) (2 ^ 32 - 1) st.calls sound.calls_fit in
      let wide : length st.calls * (2 ^ 32 - 1) ≤ 16 * (2 ^ 32 - 1) = rw sound.kept.calls_long (omega arith) in
      omega (arith, sound.epochs_low k, most, wide)
