-- What a step does to a slot.
use Rattle.std.proofs.Common.{◌≡◌, ℕ, ◌+◌, ◌<◌, ◌≤◌, ◌&&◌, ◌⊎◌, eqb, inl, inr, Bool, true, false, not, cond, [], ◌∷◌, get_or, set, refl, ap, sym, ◌∙◌, arith, get_or-set_same, get_or-set_other}
use Rattle.std.proofs.Math.ListN.{get_or-eq_default}
use Rattle.std.proofs.lemmas.Bool.{cases_lt}
use Rattle.std.proofs.lemmas.Bool.Decides.{eqb_tells}
use Rattle.pl_tech.specs.Technology.{Meaning, IsLawful}
use Rattle.pl_ports.specs.declared.gate.Actor.{Actor}
use Rattle.pl_ports.specs.declared.gate.Actor.TheVariants.{Session, Worker}
use Rattle.pl_machine.specs.declared.entry.Mode.{Mode}
use Rattle.pl_machine.specs.declared.entry.Mode.TheVariants.{Invalid, Started, Done}
use Rattle.pl_machine.specs.declared.entry.Command.{Command}
use Rattle.pl_machine.specs.declared.entry.Command.TheVariants.{Edit, Apply, Export, Status, Cancel, After}
use Rattle.pl_machine.specs.declared.entry.Reply.{Reply}
use Rattle.pl_machine.specs.declared.entry.Reply.TheVariants.{Edited, Unchanged, Changed, Invalidated, Cancelled, Modes, Gcode, Refused, Passed}
use Rattle.pl_machine.specs.declared.entry.What.{What}
use Rattle.pl_machine.specs.declared.entry.What.TheVariants.{Call, Start, Finish, Late, Bye}
use Rattle.pl_machine.specs.declared.entry.Entry.{Entry}
use Rattle.pl_machine.specs.Machine.{Machine, IsCoherent, Allows, Replies, next, mode_of, epoch_of, is_invalid, is_started, is_hit, modes_after, epochs_after}
use Rattle.pl_machine.proofs.Sound.{mode_after, epoch_after}
use Rattle.pl_machine.proofs.Coherence.{coherent_run}
use Rattle.pl_bounds.specs.Counts.{is_change, is_start_at}
use Rattle.pl_bounds.specs.Stopping.{Invalidates}

both_hold : (b c : Bool) → (b && c) ≡ true → (b ≡ true) × (c ≡ true)
both_hold true c h = (refl, h)
both_hold false c h = absurd (let f : false ≡ true = h in cc)

started_held : (mode : Mode) → is_started mode ≡ true → is_invalid mode ≡ false
started_held Invalid h = absurd (let f : false ≡ true = h in cc)
started_held (Started a) h = refl
started_held Done h = refl

not_invalid : (b : Bool) → not b ≡ true → b ≡ false
not_invalid true h = absurd (let f : false ≡ true = h in cc)
not_invalid false h = refl

module _ {P E R O : Type 0} (m : Meaning P E R O) where
  -- slots from 100 on are Invalid, at epoch 0
  pub far_state : (st : Machine P) (slot : ℕ) → 100 ≤ slot → IsCoherent m st → (mode_of st slot ≡ Invalid) × (epoch_of st slot ≡ 0)
  far_state st slot far kept = (get_or-eq_default st.modes Invalid (omega (arith, far, kept.modes_long)), get_or-eq_default st.epochs 0 (omega (arith, far, kept.epochs_long)))

module _ {T P E R O J B : Type 0} where
  -- the start of this slot, at whatever epoch
  abbrev pub is_start_of : ℕ → What T P E R O J B → Bool
  is_start_of slot (Call command reply) = false
  is_start_of slot (Start s epoch) = eqb s slot
  is_start_of slot (Finish s epoch) = false
  is_start_of slot (Late s since now) = false
  is_start_of slot Bye = false

  -- the step leaves the slot's epoch, and whether the slot is Invalid
  pub record Stays (slot : ℕ) (st : Machine P) (w : What T P E R O J B) (later : Machine P) : Type 0 where
    pub epoch : epoch_of later slot ≡ epoch_of st slot
    pub invalid : is_invalid (mode_of later slot) ≡ is_invalid (mode_of st slot)
    pub no_start : is_start_of slot w ≡ false

  -- the step starts the slot
  pub record Opens (slot : ℕ) (st : Machine P) (w : What T P E R O J B) (later : Machine P) : Type 0 where
    pub what : w ≡ Start slot (epoch_of st slot)
    pub epoch : epoch_of later slot ≡ epoch_of st slot
    pub was : is_invalid (mode_of st slot) ≡ true
    pub becomes : is_invalid (mode_of later slot) ≡ false

  -- the step makes the slot Invalid
  pub record Falls (slot : ℕ) (st : Machine P) (w : What T P E R O J B) (later : Machine P) : Type 0 where
    pub by : Invalidates st w slot
    pub epoch : epoch_of later slot ≡ epoch_of st slot + 1
    pub was : is_invalid (mode_of st slot) ≡ false
    pub becomes : is_invalid (mode_of later slot) ≡ true
    pub no_start : is_start_of slot w ≡ false

  -- one of the three
  abbrev pub Does : ℕ → Machine P → What T P E R O J B → Machine P → Type 0
  Does slot st w later = Stays slot st w later ⊎ Opens slot st w later ⊎ Falls slot st w later

  -- what makes a slot Invalid is an apply or a cancel
  pub by_change : (st : Machine P) (w : What T P E R O J B) (slot : ℕ) → Invalidates st w slot → is_change w ≡ true
  by_change st (Call Apply reply) slot by = refl
  by_change st (Call Cancel reply) slot by = refl
  by_change st (Call (Edit e) reply) slot by = absurd by
  by_change st (Call Export reply) slot by = absurd by
  by_change st (Call Status reply) slot by = absurd by
  by_change st (Call (After s n) reply) slot by = absurd by
  by_change st (Start s epoch) slot by = absurd by
  by_change st (Finish s epoch) slot by = absurd by
  by_change st (Late s since now) slot by = absurd by
  by_change st Bye slot by = absurd by

  pub no_start_at : (slot epoch : ℕ) (w : What T P E R O J B) → is_start_of slot w ≡ false → is_start_at slot epoch w ≡ false
  no_start_at slot epoch (Call c reply) none = refl
  no_start_at slot epoch (Start s e) none = ap (λ b. b && eqb e epoch) none
  no_start_at slot epoch (Finish s e) none = refl
  no_start_at slot epoch (Late s since now) none = refl
  no_start_at slot epoch Bye none = refl

  module _ (m : Meaning P E R O) (laws : IsLawful m) where
    -- an apply that hits the slot names it in its reply
    named : (st : Machine P) (reply : Reply T P E R O J B) (slot : ℕ) → slot < 100 → Replies m st Apply reply → is_hit m st slot ≡ true → Invalidates st (Call Apply reply) slot
    named st Unchanged slot low may hit =
        let touched = (both_hold (m.touched st.applied st.edited slot) _ hit).0 in
        let f : true ≡ false = sym touched ∙ laws.same_untouched st.applied st.edited may slot in cc
    named st Changed slot low may hit = let f : true ≡ false = sym hit ∙ may.1 slot low in cc
    named st (Invalidated set) slot low may hit = may.1 slot ∙ hit
    named st (Edited r) slot low may hit = absurd may
    named st (Cancelled n) slot low may hit = absurd may
    named st (Modes a b c) slot low may hit = absurd may
    named st (Gcode o) slot low may hit = absurd may
    named st (Refused p) slot low may hit = absurd may
    named st Passed slot low may hit = absurd may

    -- a command makes the slots of hit Invalid and raises their epochs
    hit_or_not : (st later : Machine P) (w : What T P E R O J B) (hit : ℕ → Bool) (slot : ℕ) → slot < 100
        → later.modes ≡ modes_after st hit → later.epochs ≡ epochs_after st hit → is_start_of slot w ≡ false
        → (hit slot ≡ true → Invalidates st w slot × (is_invalid (mode_of st slot) ≡ false)) → Does slot st w later
    hit_or_not st later w hit slot low modes epochs none by =
        let mode = ap (λ l. get_or l slot Invalid) modes ∙ mode_after st hit slot low in
        let epoch = ap (λ l. get_or l slot 0) epochs ∙ epoch_after st hit slot low in
        elim (hit slot) as (λ v. hit slot ≡ v → Does slot st w later) [
          | true ↦ λ is. inr (inr (record {
            by = (by is).0;
            epoch = epoch ∙ ap (λ v. cond v (epoch_of st slot + 1) (epoch_of st slot)) is;
            was = (by is).1;
            becomes = ap is_invalid (mode ∙ ap (λ v. cond v Invalid (mode_of st slot)) is);
            no_start = none;
          }))
          | false ↦ λ is. inl (record {
            epoch = epoch ∙ ap (λ v. cond v (epoch_of st slot + 1) (epoch_of st slot)) is;
            invalid = ap is_invalid (mode ∙ ap (λ v. cond v Invalid (mode_of st slot)) is);
            no_start = none;
          })
        ] refl

    call_does : (st : Machine P) (a : Actor) (c : Command E) (reply : Reply T P E R O J B) (slot : ℕ) → slot < 100 → Replies m st c reply
        → Does slot st (Call c reply) (next m st a (Call c reply))
    call_does st a (Edit e) reply slot low may = inl (record { epoch = refl; invalid = refl; no_start = refl })
    call_does st a Apply reply slot low may = hit_or_not st _ (Call Apply reply) (is_hit m st) slot low refl refl refl
        (λ hit. (named st reply slot low may hit, not_invalid (is_invalid (mode_of st slot)) (both_hold (m.touched st.applied st.edited slot) _ hit).1))
    call_does st a Cancel reply slot low may = hit_or_not st _ (Call Cancel reply) (λ k. is_started (mode_of st k)) slot low refl refl refl
        (λ hit. (hit, started_held (mode_of st slot) hit))
    call_does st a Export reply slot low may = inl (record { epoch = refl; invalid = refl; no_start = refl })
    call_does st a Status reply slot low may = inl (record { epoch = refl; invalid = refl; no_start = refl })
    call_does st a (After s n) reply slot low may = inl (record { epoch = refl; invalid = refl; no_start = refl })

    session_replies : (st : Machine P) (a : Actor) (c : Command E) (reply : Reply T P E R O J B) → Allows m st a (Call c reply) → Replies m st c reply
    session_replies st (Session i) c reply may = may.1
    session_replies st (Worker k) c reply may = absurd may

    -- a step at a slot from 0 to 99
    near_does : (st : Machine P) (a : Actor) (w : What T P E R O J B) (slot : ℕ) → slot < 100 → IsCoherent m st → Allows m st a w → Does slot st w (next m st a w)
    near_does st a (Call c reply) slot low kept may = call_does st a c reply slot low (session_replies st a c reply may)
    near_does st a (Start s e) slot low kept may = elim (eqb_tells s slot) [
      | inl same ↦ inr (inl (record {
        what = ap (λ n. Start n e) same.1 ∙ ap (λ n. Start slot n) (sym may.current ∙ ap (epoch_of st) same.1);
        epoch = refl;
        was = ap is_invalid (ap (mode_of st) (sym same.1) ∙ may.can.invalid);
        becomes = ap is_invalid (ap (λ n. get_or (set st.modes s (Started a)) n Invalid) (sym same.1)
            ∙ get_or-set_same st.modes s (Started a) Invalid (omega (arith, low, kept.modes_long, same.1)));
      }))
      | inr other ↦ inl (record { epoch = refl; invalid = ap is_invalid (get_or-set_other st.modes s slot (Started a) Invalid (λ e. other.1 (sym e))); no_start = other.0 })
    ]
    near_does st a (Finish s e) slot low kept may = elim (eqb_tells s slot) [
      | inl same ↦ inl (record {
        epoch = refl;
        invalid = ap is_invalid (ap (λ n. get_or (set st.modes s Done) n Invalid) (sym same.1) ∙ get_or-set_same st.modes s Done Invalid (omega (arith, low, kept.modes_long, same.1)))
            ∙ sym (ap is_invalid (ap (mode_of st) (sym same.1) ∙ may.started_by));
        no_start = refl;
      })
      | inr other ↦ inl (record { epoch = refl; invalid = ap is_invalid (get_or-set_other st.modes s slot Done Invalid (λ e. other.1 (sym e))); no_start = refl })
    ]
    near_does st a (Late s since now) slot low kept may = inl (record { epoch = refl; invalid = refl; no_start = refl })
    near_does st a Bye slot low kept may = inl (record { epoch = refl; invalid = refl; no_start = refl })

    far_start : (st : Machine P) (a : Actor) (w : What T P E R O J B) (slot : ℕ) → 100 ≤ slot → Allows m st a w → is_start_of slot w ≡ false
    far_start st a (Call c reply) slot far may = refl
    far_start st a (Start s e) slot far may = elim (eqb_tells s slot) [
      | inl same ↦ absurd (let low = laws.present_below st.applied s may.can.ready.present in omega (arith, low, far, same.1))
      | inr other ↦ other.0
    ]
    far_start st a (Finish s e) slot far may = refl
    far_start st a (Late s since now) slot far may = refl
    far_start st a Bye slot far may = refl

    pub still_coherent : (st : Machine P) (e : Entry T P E R O J B) → Allows m st e.actor e.what → IsCoherent m st → IsCoherent m (next m st e.actor e.what)
    still_coherent st e may kept = coherent_run m laws st (e ∷ []) (may, tt) kept

    pub step_does : (st : Machine P) (e : Entry T P E R O J B) (slot : ℕ) → IsCoherent m st → Allows m st e.actor e.what → Does slot st e.what (next m st e.actor e.what)
    step_does st e slot kept may = elim (cases_lt slot 100) [
      | inl low ↦ near_does st e.actor e.what slot low kept may
      | inr far ↦
          let old = far_state m st slot far kept in
          let new = far_state m (next m st e.actor e.what) slot far (still_coherent st e may kept) in
          inl (record { epoch = new.1 ∙ sym old.1; invalid = ap is_invalid (new.0 ∙ sym old.0); no_start = far_start st e.actor e.what slot far may })
    ]
