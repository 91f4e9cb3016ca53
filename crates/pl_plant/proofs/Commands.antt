-- A session's command keeps that a plant stands for its journal.
use Rattle.std.proofs.Common.{◌≡◌, ◌≢◌, ℕ, ◌<◌, true, false, ◌&&◌, not, cond, List, [], ◌∷◌, ◌++◌, refl, ap, sym, subst, ◌∙◌, None, Some, arith, Bor}
use Rattle.std.specs.Option.{option_map, option_copied}
use Rattle.std.specs.declared.sync.Arc.{Arc}
use Rattle.std.specs.Arc.{arc_value}
use Rattle.std.specs.declared.option.Option.{Option}
use Rattle.pl_tech.specs.Technology.{Meaning, IsLawful}
use Rattle.pl_tech.specs.Kept.{kept_at}
use Rattle.pl_ports.specs.declared.gate.Actor.TheVariants.{Session}
use Rattle.pl_machine.specs.declared.entry.Mode.TheVariants.{Invalid, Done}
use Rattle.pl_machine.specs.declared.entry.Command.{Command}
use Rattle.pl_machine.specs.declared.entry.Command.TheVariants.{Edit, Apply, Export, Status, Cancel, After}
use Rattle.pl_machine.specs.declared.entry.Reply.{Reply}
use Rattle.pl_machine.specs.declared.entry.Reply.TheVariants.{Edited, Unchanged, Changed, Invalidated, Cancelled, Modes, Gcode, Refused, Passed}
use Rattle.pl_machine.specs.declared.entry.What.TheVariants.{Call}
use Rattle.pl_machine.specs.declared.entry.Entry.{Entry}
use Rattle.pl_machine.specs.Calls.{IsGiven}
use Rattle.pl_machine.specs.Machine.{Machine, MayCall, Replies, after_command, called, blank, is_hit, is_invalid, is_started, mode_of}
use Rattle.pl_machine.proofs.Runs.{replay_from-append, run_goes_on}
use Rattle.pl_machine.proofs.Lasting.{HeldArePresent, and_not, blank_present, mode_after, run_present, untouched_present}
use Rattle.pl_plant.specs.Keeping.{Forgets, IsHandedOut, IsLastGiven, KeepsAfter}
use Rattle.pl_plant.specs.Planted.{StandsFor}

-- what is kept are the values of the slots that are Done
record KeepsDone {P E R O : Type 0} (m : Meaning P E R O) (st : Machine P) (kept : List (Option O)) : Type 0 where
  keeps : (k : ℕ) → k < 100 → mode_of st k ≡ Done → kept_at kept k ≡ Some (m.value st.applied k)
  keeps_no_other : (k : ℕ) → k < 100 → mode_of st k ≢ Done → kept_at kept k ≡ None

invalid_not_done : Invalid ≡ Done → ⊥
invalid_not_done e = cc

module _ {P E R O : Type 0} (m : Meaning P E R O) (laws : IsLawful m) where
  keeps-apply : (st : Machine P) (i : ℕ) (old new : List (Option O)) → HeldArePresent m laws st → KeepsAfter m st Apply old new → KeepsDone m st old
      → KeepsDone m (called (after_command m st Apply) i) new
  keeps-apply st i old new present after done = record { keeps = keeps; keeps_no_other = no_other }
    where
      keeps : (k : ℕ) → k < 100 → mode_of (after_command m st Apply) k ≡ Done → kept_at new k ≡ Some (m.value st.edited k)
      keeps k low is = elim (is_hit m st k) as (λ v. is_hit m st k ≡ v → kept_at new k ≡ Some (m.value st.edited k)) [
        | true ↦ λ hit. absurd (invalid_not_done (sym (mode_after m laws st (is_hit m st) k low ∙ ap (λ v. cond v Invalid (mode_of st k)) hit) ∙ is))
        | false ↦ λ no.
            let was : mode_of st k ≡ Done = sym (mode_after m laws st (is_hit m st) k low ∙ ap (λ v. cond v Invalid (mode_of st k)) no) ∙ is in
            let held : is_invalid (mode_of st k) ≡ false = ap is_invalid was in
            let here : m.present st.applied k ≡ true = present k low held in
            let un : m.touched st.applied st.edited k ≡ false = and_not (m.touched st.applied st.edited k) (is_invalid (mode_of st k)) no held in
            let there : m.present st.edited k ≡ true = untouched_present m laws st.applied st.edited k un here in
            after k low ∙ ap (λ v. cond v None (kept_at old k)) no ∙ done.keeps k low was ∙ ap Some (laws.kept_value st.applied st.edited k here there un)
      ] refl

      no_other : (k : ℕ) → k < 100 → mode_of (after_command m st Apply) k ≢ Done → kept_at new k ≡ None
      no_other k low ne = elim (is_hit m st k) as (λ v. is_hit m st k ≡ v → kept_at new k ≡ None) [
        | true ↦ λ hit. after k low ∙ ap (λ v. cond v None (kept_at old k)) hit
        | false ↦ λ no. after k low ∙ ap (λ v. cond v None (kept_at old k)) no
            ∙ done.keeps_no_other k low (λ d. ne (mode_after m laws st (is_hit m st) k low ∙ ap (λ v. cond v Invalid (mode_of st k)) no ∙ d))
      ] refl

  keeps-cancel : (st : Machine P) (i : ℕ) (old : List (Option O)) → KeepsDone m st old → KeepsDone m (called (after_command m st Cancel) i) old
  keeps-cancel st i old done = record { keeps = keeps; keeps_no_other = no_other }
    where
      after : (k : ℕ) → k < 100 → mode_of (after_command m st Cancel) k ≡ cond (is_started (mode_of st k)) Invalid (mode_of st k)
      after k low = mode_after m laws st (λ j. is_started (mode_of st j)) k low

      keeps : (k : ℕ) → k < 100 → mode_of (after_command m st Cancel) k ≡ Done → kept_at old k ≡ Some (m.value st.applied k)
      keeps k low is = elim (is_started (mode_of st k)) as (λ v. is_started (mode_of st k) ≡ v → kept_at old k ≡ Some (m.value st.applied k)) [
        | true ↦ λ fell. absurd (invalid_not_done (sym (after k low ∙ ap (λ v. cond v Invalid (mode_of st k)) fell) ∙ is))
        | false ↦ λ no. done.keeps k low (sym (after k low ∙ ap (λ v. cond v Invalid (mode_of st k)) no) ∙ is)
      ] refl

      no_other : (k : ℕ) → k < 100 → mode_of (after_command m st Cancel) k ≢ Done → kept_at old k ≡ None
      no_other k low ne = done.keeps_no_other k low (λ d. ne (after k low ∙ ap (λ v. cond (is_started v) Invalid v) d))

  keeps-command : (st : Machine P) (c : Command E) (i : ℕ) (old new : List (Option O)) → HeldArePresent m laws st → KeepsAfter m st c old new → KeepsDone m st old
      → KeepsDone m (called (after_command m st c) i) new
  keeps-command st Apply i old new present after done = keeps-apply st i old new present after done
  keeps-command st Cancel i old new present after done = subst (KeepsDone m (called (after_command m st Cancel) i)) (sym after) (keeps-cancel st i old done)
  keeps-command st (Edit e) i old new present after done = subst (KeepsDone m (called (after_command m st (Edit e)) i)) (sym after) (record { keeps = done.keeps; keeps_no_other = done.keeps_no_other })
  keeps-command st Export i old new present after done = subst (KeepsDone m (called st i)) (sym after) (record { keeps = done.keeps; keeps_no_other = done.keeps_no_other })
  keeps-command st Status i old new present after done = subst (KeepsDone m (called st i)) (sym after) (record { keeps = done.keeps; keeps_no_other = done.keeps_no_other })
  keeps-command st (After s n) i old new present after done = subst (KeepsDone m (called st i)) (sym after) (record { keeps = done.keeps; keeps_no_other = done.keeps_no_other })

  -- where both plates are equal, an apply makes no slot Invalid
  pub none_hit : (st : Machine P) (k : ℕ) → m.same st.applied st.edited ≡ true → is_hit m st k ≡ false
  none_hit st k same = ap (λ t. t && not (is_invalid (mode_of st k))) (laws.same_untouched st.applied st.edited same k)

  -- an apply that names no fallen slot leaves what is kept
  nothing_falls : (st : Machine P) (old new : List (Option O)) → new ≡ old → ((k : ℕ) → k < 100 → is_hit m st k ≡ false) → KeepsAfter m st Apply old new
  nothing_falls st old new same none k low = ap (λ l. kept_at l k) same ∙ ap (λ v. cond v None (kept_at old k)) (sym (none k low))

  module _ {T J B : Type 0} where
    pub stands-called : {counts raised : List ℕ} (st : Machine P) (js : List (Entry T P E R O J B)) (old new : List (Option O)) (i : ℕ) (c : Command E) (r : Reply T P E R O J B)
        → MayCall st i → Replies m st c r → KeepsAfter m st c old new → raised ≡ (after_command m st c).epochs → StandsFor m st js old counts
        → StandsFor m (called (after_command m st c) i) (js ++ record { actor = Session i; what = Call c r } ∷ []) new raised
    stands-called st js old new i c r may replies after rise stands =
        let held : HeldArePresent m laws st = subst (HeldArePresent m laws) (sym stands.replayed) (run_present m laws (blank m) js stands.legal (blank_present m laws)) in
        let kept = keeps-command st c i old new held after (record { keeps = stands.keeps; keeps_no_other = stands.keeps_no_other }) in
        record {
          legal = run_goes_on m (blank m) js entry stands.legal (subst (λ s. MayCall s i × Replies m s c r) stands.replayed (may, replies));
          replayed = ap (λ s. called (after_command m s c) i) stands.replayed ∙ sym (replay_from-append m (blank m) js entry);
          keeps = kept.keeps;
          keeps_no_other = kept.keeps_no_other;
          counted = rise;
        }
      where
        entry : Entry T P E R O J B
        entry = record { actor = Session i; what = Call c r }

    -- to forget what a reply names is to keep what the command leaves
    pub keeps_after : (st : Machine P) (c : Command E) (r : Reply T P E R O J B) (old new : List (Option O)) → Replies m st c r → Forgets r old new → KeepsAfter m st c old new
    keeps_after st Apply Unchanged old new replies kept = nothing_falls st old new kept (λ k low. none_hit st k replies)
    keeps_after st Apply Changed old new replies kept = nothing_falls st old new kept replies.1
    keeps_after st Apply (Invalidated set) old new replies kept = λ k low. kept k low ∙ ap (λ v. cond v None (kept_at old k)) (replies.1 k)
    keeps_after st Apply (Edited r) old new replies kept = absurd replies
    keeps_after st Apply (Cancelled n) old new replies kept = absurd replies
    keeps_after st Apply (Modes p s f) old new replies kept = absurd replies
    keeps_after st Apply (Gcode o) old new replies kept = absurd replies
    keeps_after st Apply (Refused p) old new replies kept = absurd replies
    keeps_after st Apply Passed old new replies kept = absurd replies
    keeps_after st (Edit e) (Invalidated set) old new replies kept = absurd replies
    keeps_after st (Edit e) r old new replies kept = kept
    keeps_after st Export (Invalidated set) old new replies kept = absurd replies
    keeps_after st Export r old new replies kept = kept
    keeps_after st Status (Invalidated set) old new replies kept = absurd replies
    keeps_after st Status r old new replies kept = kept
    keeps_after st Cancel (Invalidated set) old new replies kept = absurd replies
    keeps_after st Cancel r old new replies kept = kept
    keeps_after st (After s n) (Invalidated set) old new replies kept = absurd replies
    keeps_after st (After s n) r old new replies kept = kept

-- what is lent of an owner holds what the owner holds
lent_value : {O Z : Type 0} (lent : Option (Bor (Arc O Z))) (owner : Option (Arc O Z)) → option_copied lent ≡ owner
    → option_map (λ x. arc_value x.now) lent ≡ option_map arc_value owner
lent_value None owner is = ap (option_map arc_value) is
lent_value (Some x) owner is = ap (option_map arc_value) is

module _ {T P E R O J B : Type 0} (m : Meaning P E R O) where
  -- what is kept for slot 99 is what an export hands out
  is_given : {counts : List ℕ} (st : Machine P) (js : List (Entry T P E R O J B)) (kept : List (Option O)) (c : Command E) (given : Option O)
      → StandsFor m st js kept counts → IsLastGiven c kept given → IsGiven m st c given
  is_given st js kept Export given stands is = λ none done. is ∙ stands.keeps 99 (omega arith) done
  is_given st js kept (Edit e) given stands is = tt
  is_given st js kept Apply given stands is = tt
  is_given st js kept Status given stands is = tt
  is_given st js kept Cancel given stands is = tt
  is_given st js kept (After s n) given stands is = tt

  pub is_lent : {Z : Type 0} {counts : List ℕ} (st : Machine P) (js : List (Entry T P E R O J B)) (kept : List (Option O)) (c : Command E) (lent : Option (Bor (Arc O Z))) (owner : Option (Arc O Z))
      → StandsFor m st js kept counts → option_copied lent ≡ owner → IsLastGiven c kept (option_map arc_value owner) → IsGiven m st c (option_map (λ x. arc_value x.now) lent)
  is_lent st js kept c lent owner stands same is = subst (IsGiven m st c) (sym (lent_value lent owner same)) (is_given st js kept c (option_map arc_value owner) stands is)

  -- the result that a reply hands out is the one that was given
  handed_out : (st : Machine P) (c : Command E) (r : Reply T P E R O J B) (given : Option O) → IsGiven m st c given → Replies m st c r → IsHandedOut r given
  handed_out st Export (Gcode o) given is replies = is replies.0 replies.1 ∙ ap Some (sym replies.2)
  handed_out st (Edit e) (Gcode o) given is replies = absurd replies
  handed_out st Apply (Gcode o) given is replies = absurd replies
  handed_out st Status (Gcode o) given is replies = absurd replies
  handed_out st Cancel (Gcode o) given is replies = absurd replies
  handed_out st (After s n) (Gcode o) given is replies = absurd replies
  handed_out st c (Edited r) given is replies = tt
  handed_out st c Unchanged given is replies = tt
  handed_out st c Changed given is replies = tt
  handed_out st c (Invalidated set) given is replies = tt
  handed_out st c (Cancelled n) given is replies = tt
  handed_out st c (Modes p s f) given is replies = tt
  handed_out st c (Refused p) given is replies = tt
  handed_out st c Passed given is replies = tt

  pub is_handed_out : {counts : List ℕ} (st : Machine P) (js : List (Entry T P E R O J B)) (kept : List (Option O)) (c : Command E) (r : Reply T P E R O J B) (given : Option O)
      → StandsFor m st js kept counts → IsLastGiven c kept given → Replies m st c r → IsHandedOut r given
  is_handed_out st js kept c r given stands is replies = handed_out st c r given (is_given st js kept c given stands is) replies
