-- Each step of the machine keeps the slots that are held, or raises their epochs.
use Rattle.std.proofs.Common.{◌≡◌, ℕ, ◌+◌, ◌<◌, ◌≤◌, ◌⊎◌, inl, inr, Bool, true, false, not, ◌&&◌, cond, List, [], ◌∷◌, length, get_or, refl, ap, sym, ◌∙◌, subst, arith, get_or-set_same, get_or-set_other}
use Rattle.std.proofs.Math.ListN.{get_or-eq_default}
use Rattle.std.proofs.lemmas.List.{get_or-replicate}
use Rattle.std.proofs.lemmas.Bool.{cases_lt}
use Rattle.std.proofs.lemmas.Bool.Decides.{eqb_tells}
use Rattle.pl_tech.specs.Technology.{Meaning, IsLawful}
use Rattle.pl_ports.specs.declared.gate.Actor.{Actor}
use Rattle.pl_machine.specs.declared.entry.Mode.{Mode}
use Rattle.pl_machine.specs.declared.entry.Mode.TheVariants.{Invalid, Started, Done}
use Rattle.pl_machine.specs.declared.entry.Command.{Command}
use Rattle.pl_machine.specs.declared.entry.Command.TheVariants.{Edit, Apply, Export, Status, Cancel, After}
use Rattle.pl_machine.specs.declared.entry.What.{What}
use Rattle.pl_machine.specs.declared.entry.What.TheVariants.{Call, Start, Finish, Late, Bye}
use Rattle.pl_machine.specs.declared.entry.Entry.{Entry}
use Rattle.pl_machine.specs.Each.{get_or-each_slot}
use Rattle.pl_machine.specs.Machine.{Machine, blank, mode_of, epoch_of, is_invalid, is_started, is_hit, modes_after, epochs_after, called, after_command, session_of, next, Allows, finished}
use Rattle.pl_machine.specs.History.{replay, replay_from, IsRunFrom}
use Rattle.pl_machine.proofs.Runs.{run_split, replay_split}
use Rattle.pl_machine.specs.Stability.{KeepsSlot, IsStable}

pub and_not : (a b : Bool) → (a && not b) ≡ false → b ≡ false → a ≡ false
and_not true true h k = k
and_not true false h k = h
and_not false b h k = refl

module _ {P E R O : Type 0} (m : Meaning P E R O) (laws : IsLawful m) where
  -- a slot that is held is present
  abbrev pub HeldArePresent : Machine P → Type 0
  HeldArePresent st = (k : ℕ) → k < 100 → is_invalid (mode_of st k) ≡ false → m.present st.applied k ≡ true

  -- a slot falls to Invalid and its epoch rises, or it stays with all that it has
  abbrev FallsOrStays : Machine P → Machine P → ℕ → Type 0
  FallsOrStays st st' k =
      ((epoch_of st k < epoch_of st' k) × (is_invalid (mode_of st' k) ≡ true))
      ⊎ ((epoch_of st' k ≡ epoch_of st k) × (is_invalid (mode_of st' k) ≡ false) × KeepsSlot m st st' k)

  -- the same modes, epochs and applied plate
  stays : (st st' : Machine P) (k : ℕ) → k < 100 → HeldArePresent st → is_invalid (mode_of st k) ≡ false
      → mode_of st' k ≡ mode_of st k → epoch_of st' k ≡ epoch_of st k → st'.applied ≡ st.applied → FallsOrStays st st' k
  stays st st' k low present held mode epoch applied =
      inr (epoch, ap is_invalid mode ∙ held, record { mode = inr mode; present = ap (λ p. m.present p k) applied ∙ present k low held; value = ap (λ p. m.value p k) applied })

  pub untouched_present : (a b : P) (k : ℕ) → m.touched a b k ≡ false → m.present a k ≡ true → m.present b k ≡ true
  untouched_present a b k un pa = elim (m.present b k) as (λ v. m.present b k ≡ v → v ≡ true) [
    | true ↦ λ _. refl
    | false ↦ λ pb. absurd (let t : m.touched a b k ≡ true = laws.changed_touched a b k (λ e. let f : true ≡ false = sym pa ∙ e ∙ pb in cc) in cc)
  ] refl

  pub mode_after : (st : Machine P) (hit : ℕ → Bool) (k : ℕ) → k < 100 → get_or (modes_after st hit) k Invalid ≡ cond (hit k) Invalid (mode_of st k)
  mode_after st hit k low = get_or-each_slot (λ j. cond (hit j) Invalid (mode_of st j)) k Invalid low

  epoch_after : (st : Machine P) (hit : ℕ → Bool) (k : ℕ) → k < 100 → get_or (epochs_after st hit) k 0 ≡ cond (hit k) (epoch_of st k + 1) (epoch_of st k)
  epoch_after st hit k low = get_or-each_slot (λ j. cond (hit j) (epoch_of st j + 1) (epoch_of st j)) k 0 low

  falls_at : (st : Machine P) (hit : ℕ → Bool) (applied' : P) (i k : ℕ) → k < 100 → is_invalid (mode_of st k) ≡ false
      → (hit k ≡ false → (m.present applied' k ≡ true) × (m.value applied' k ≡ m.value st.applied k))
      → FallsOrStays st (called (record st { applied = applied'; modes = modes_after st hit; epochs = epochs_after st hit }) i) k
  falls_at st hit applied' i k low held same =
      let mode = mode_after st hit k low in
      let epoch = epoch_after st hit k low in
      elim (hit k) as (λ v. hit k ≡ v → FallsOrStays st (called (record st { applied = applied'; modes = modes_after st hit; epochs = epochs_after st hit }) i) k) [
        | true ↦ λ is. inl (
          (let e = epoch ∙ ap (λ v. cond v (epoch_of st k + 1) (epoch_of st k)) is in omega (arith, e)),
          ap is_invalid (mode ∙ ap (λ v. cond v Invalid (mode_of st k)) is),
        )
        | false ↦ λ is.
            let kept = mode ∙ ap (λ v. cond v Invalid (mode_of st k)) is in
            inr (epoch ∙ ap (λ v. cond v (epoch_of st k + 1) (epoch_of st k)) is, ap is_invalid kept ∙ held, record { mode = inr kept; present = (same is).0; value = (same is).1 })
      ] refl

  command_stays : (st : Machine P) (c : Command E) (i k : ℕ) → k < 100 → HeldArePresent st → is_invalid (mode_of st k) ≡ false
      → FallsOrStays st (called (after_command m st c) i) k
  command_stays st (Edit e) i k low present held = stays st _ k low present held refl refl refl
  command_stays st Apply i k low present held = falls_at st (is_hit m st) st.edited i k low held (λ no.
      let un = and_not (m.touched st.applied st.edited k) (is_invalid (mode_of st k)) no held in
      let there = untouched_present st.applied st.edited k un (present k low held) in
      (there, sym (laws.kept_value st.applied st.edited k (present k low held) there un)))
  command_stays st Cancel i k low present held = falls_at st (λ j. is_started (mode_of st j)) st.applied i k low held (λ no. (present k low held, refl))
  command_stays st Export i k low present held = stays st _ k low present held refl refl refl
  command_stays st Status i k low present held = stays st _ k low present held refl refl refl
  command_stays st (After s n) i k low present held = stays st _ k low present held refl refl refl

  -- a slot that is not held is not held after a command
  cond_invalid : (b : Bool) (mode : Mode) → is_invalid mode ≡ true → is_invalid (cond b Invalid mode) ≡ true
  cond_invalid true mode h = refl
  cond_invalid false mode h = h

  command_free : (st : Machine P) (c : Command E) (k : ℕ) → k < 100 → is_invalid (mode_of st k) ≡ true → is_invalid (mode_of (after_command m st c) k) ≡ true
  command_free st (Edit e) k low free = free
  command_free st Apply k low free = ap is_invalid (mode_after st (is_hit m st) k low) ∙ cond_invalid (is_hit m st k) (mode_of st k) free
  command_free st Cancel k low free = ap is_invalid (mode_after st (λ j. is_started (mode_of st j)) k low) ∙ cond_invalid (is_started (mode_of st k)) (mode_of st k) free
  command_free st Export k low free = free
  command_free st Status k low free = free
  command_free st (After s n) k low free = free

  cond_rises : (b : Bool) (n : ℕ) → n ≤ cond b (n + 1) n
  cond_rises true n = omega arith
  cond_rises false n = omega arith

  command_rises : (st : Machine P) (c : Command E) (k : ℕ) → k < 100 → epoch_of st k ≤ epoch_of (after_command m st c) k
  command_rises st (Edit e) k low = omega arith
  command_rises st Apply k low = let e = epoch_after st (is_hit m st) k low in let r = cond_rises (is_hit m st k) (epoch_of st k) in omega (arith, e, r)
  command_rises st Cancel k low = let e = epoch_after st (λ j. is_started (mode_of st j)) k low in let r = cond_rises (is_started (mode_of st k)) (epoch_of st k) in omega (arith, e, r)
  command_rises st Export k low = omega arith
  command_rises st Status k low = omega arith
  command_rises st (After s n) k low = omega arith

  joined : (a b c : Machine P) (k : ℕ) → KeepsSlot m a b k → KeepsSlot m b c k → KeepsSlot m a c k
  joined a b c k ab bc = record { mode = modes ab.mode bc.mode; present = bc.present; value = bc.value ∙ ab.value }
    where
      modes : (mode_of b k ≡ Done) ⊎ (mode_of b k ≡ mode_of a k) → (mode_of c k ≡ Done) ⊎ (mode_of c k ≡ mode_of b k) → (mode_of c k ≡ Done) ⊎ (mode_of c k ≡ mode_of a k)
      modes x (inl done) = inl done
      modes (inl done) (inr same) = inl (same ∙ done)
      modes (inr was) (inr same) = inr (same ∙ was)

  pub blank_present : HeldArePresent (blank m)
  blank_present k low held = absurd (let f : true ≡ false = ap is_invalid (sym (get_or-replicate 100 k Invalid Invalid low)) ∙ held in cc)

  module _ {T J B : Type 0} where
    step_stays : (st : Machine P) (a : Actor) (w : What T P E R O J B) (k : ℕ) → k < 100 → Allows m st a w → HeldArePresent st → is_invalid (mode_of st k) ≡ false
        → FallsOrStays st (next m st a w) k
    step_stays st a (Call command reply) k low may present held = command_stays st command (session_of a) k low present held
    step_stays st a (Start slot e) k low may present held = elim (eqb_tells k slot) [
      | inl same ↦ absurd (let f : true ≡ false = ap is_invalid (sym may.can.invalid ∙ ap (mode_of st) (sym same.1)) ∙ held in cc)
      | inr other ↦ stays st _ k low present held (get_or-set_other st.modes slot k (Started a) Invalid other.1) refl refl
    ]
    step_stays st a (Finish slot e) k low may present held = elim (eqb_tells k slot) [
      | inl same ↦ elim (cases_lt slot (length st.modes)) [
        | inl within ↦
            let done : mode_of (finished st a slot) k ≡ Done = ap (mode_of (finished st a slot)) same.1 ∙ get_or-set_same st.modes slot Done Invalid within in
            inr (refl, ap is_invalid done, record { mode = inl done; present = present k low held; value = refl })
        | inr out ↦ absurd (let f : Invalid ≡ Started a = sym (get_or-eq_default st.modes Invalid out) ∙ may.started_by in cc)
      ]
      | inr other ↦ stays st _ k low present held (get_or-set_other st.modes slot k Done Invalid other.1) refl refl
    ]
    step_stays st a (Late slot since now) k low may present held = stays st _ k low present held refl refl refl
    step_stays st a Bye k low may present held = stays st _ k low present held refl refl refl

    step_rises : (st : Machine P) (a : Actor) (w : What T P E R O J B) (k : ℕ) → k < 100 → epoch_of st k ≤ epoch_of (next m st a w) k
    step_rises st a (Call command reply) k low = command_rises st command k low
    step_rises st a (Start slot e) k low = omega arith
    step_rises st a (Finish slot e) k low = omega arith
    step_rises st a (Late slot since now) k low = omega arith
    step_rises st a Bye k low = omega arith

    -- a slot that comes to be held is present
    newly_present : (st : Machine P) (a : Actor) (w : What T P E R O J B) (k : ℕ) → k < 100 → Allows m st a w → is_invalid (mode_of st k) ≡ true
        → is_invalid (mode_of (next m st a w) k) ≡ false → m.present (next m st a w).applied k ≡ true
    newly_present st a (Call command reply) k low may free held = absurd (let f : true ≡ false = sym (command_free st command k low free) ∙ held in cc)
    newly_present st a (Start slot e) k low may free held = elim (eqb_tells k slot) [
      | inl same ↦ ap (m.present st.applied) same.1 ∙ may.can.ready.present
      | inr other ↦ absurd (let f : true ≡ false = sym free ∙ ap is_invalid (sym (get_or-set_other st.modes slot k (Started a) Invalid other.1)) ∙ held in cc)
    ]
    newly_present st a (Finish slot e) k low may free held = elim (eqb_tells k slot) [
      | inl same ↦ absurd (let f : true ≡ false = sym free ∙ ap is_invalid (ap (mode_of st) same.1 ∙ may.started_by) in cc)
      | inr other ↦ absurd (let f : true ≡ false = sym free ∙ ap is_invalid (sym (get_or-set_other st.modes slot k Done Invalid other.1)) ∙ held in cc)
    ]
    newly_present st a (Late slot since now) k low may free held = absurd (let f : true ≡ false = sym free ∙ held in cc)
    newly_present st a Bye k low may free held = absurd (let f : true ≡ false = sym free ∙ held in cc)

    step_present : (st : Machine P) (a : Actor) (w : What T P E R O J B) → Allows m st a w → HeldArePresent st → HeldArePresent (next m st a w)
    step_present st a w may present k low held' = elim (is_invalid (mode_of st k)) as (λ v. is_invalid (mode_of st k) ≡ v → m.present (next m st a w).applied k ≡ true) [
      | true ↦ λ free. newly_present st a w k low may free held'
      | false ↦ λ held. elim (step_stays st a w k low may present held) [
        | inl fell ↦ absurd (let f : true ≡ false = sym fell.1 ∙ held' in cc)
        | inr kept ↦ kept.2.present
      ]
    ] refl

    run_rises : (st : Machine P) (es : List (Entry T P E R O J B)) (k : ℕ) → k < 100 → epoch_of st k ≤ epoch_of (replay_from m st es) k
    run_rises st [] k low = omega arith
    run_rises st (e ∷ es) k low = omega (arith, step_rises st e.actor e.what k low, run_rises (next m st e.actor e.what) es k low)

    pub run_present : (st : Machine P) (es : List (Entry T P E R O J B)) → IsRunFrom m st es → HeldArePresent st → HeldArePresent (replay_from m st es)
    run_present st [] run present = present
    run_present st (e ∷ es) run present = run_present (next m st e.actor e.what) es run.1 (step_present st e.actor e.what run.0 present)

    run_stays : (st : Machine P) (es : List (Entry T P E R O J B)) (k : ℕ) → k < 100 → IsRunFrom m st es → HeldArePresent st → is_invalid (mode_of st k) ≡ false
        → (epoch_of st k < epoch_of (replay_from m st es) k) ⊎ KeepsSlot m st (replay_from m st es) k
    run_stays st [] k low run present held = inr (record { mode = inr refl; present = present k low held; value = refl })
    run_stays st (e ∷ es) k low run present held = elim (step_stays st e.actor e.what k low run.0 present held) [
      | inl fell ↦ inl (omega (arith, fell.0, run_rises (next m st e.actor e.what) es k low))
      | inr kept ↦ elim (run_stays (next m st e.actor e.what) es k low run.1 (step_present st e.actor e.what run.0 present) kept.1) [
        | inl later ↦ inl (omega (arith, later, kept.0))
        | inr last ↦ inr (joined st (next m st e.actor e.what) (replay_from m (next m st e.actor e.what) es) k kept.2 last)
      ]
    ]

    pub is_stable : (history more : List (Entry T P E R O J B)) → IsStable m history more
    is_stable history more legal slot low held same =
        let runs = run_split m (blank m) history more legal in
        let there = replay_split m (blank m) history more in
        subst (λ st. KeepsSlot m (replay m history) st slot) (sym there)
        (elim (run_stays (replay m history) more slot low runs.1 (run_present (blank m) history runs.0 blank_present) held) [
          | inl later ↦ absurd (let e = ap (λ st. epoch_of st slot) there in omega (arith, later, e, same))
          | inr kept ↦ kept
        ])
