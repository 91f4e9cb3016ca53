-- What an apply answers and does.
use Rattle.std.proofs.Common.{◌≡◌, ℕ, ◌+◌, ◌<◌, Bool, true, false, not, ◌&&◌, cond, refl, ap, sym, ◌∙◌}
use Rattle.pl_tech.specs.Technology.{Meaning, IsLawful}
use Rattle.pl_tech.specs.Slots.{has}
use Rattle.pl_machine.specs.declared.entry.Mode.{Mode}
use Rattle.pl_machine.specs.declared.entry.Mode.TheVariants.{Invalid, Started, Done}
use Rattle.pl_machine.specs.declared.entry.Command.TheVariants.{Apply, Cancel}
use Rattle.pl_machine.specs.declared.entry.Reply.{Reply}
use Rattle.pl_machine.specs.declared.entry.Reply.TheVariants.{Edited, Unchanged, Changed, Invalidated, Cancelled, Modes, Gcode, Refused, Passed}
use Rattle.pl_machine.specs.Each.{each_slot, is_each_slot, length-each_slot, get_or-each_slot}
use Rattle.pl_machine.specs.Applied.{IsApplied}
use Rattle.pl_machine.proofs.Sound.{StayReady}
use Rattle.pl_machine.proofs.Lasting.{and_not, untouched_present}
use Rattle.pl_machine.specs.Machine.{Machine, IsCoherent, is_started, Replies, is_hit, is_invalid, mode_of, epoch_of, modes_after, epochs_after, called, after_command}

same_each : {A : Type 0} (f g : ℕ → A) (d : A) → ((k : ℕ) → f k ≡ g k) → each_slot f ≡ each_slot g
same_each f g d same = is_each_slot g (each_slot f) d (length-each_slot f) (λ k low. get_or-each_slot f k d low ∙ same k)

module _ {P E R O : Type 0} (m : Meaning P E R O) where
  pub apply_is : (st : Machine P) (hit i : ℕ) → ((k : ℕ) → has hit k ≡ is_hit m st k)
      → called (record st { applied = st.edited; modes = modes_after st (has hit); epochs = epochs_after st (has hit) }) i ≡ called (after_command m st Apply) i
  apply_is st hit i same =
      ap (λ ms. called (record st { applied = st.edited; modes = ms; epochs = epochs_after st (has hit) }) i)
      (same_each (λ k. cond (has hit k) Invalid (mode_of st k)) (λ k. cond (is_hit m st k) Invalid (mode_of st k)) Invalid (λ k. ap (λ b. cond b Invalid (mode_of st k)) (same k)))
      ∙ ap (λ es. called (record st { applied = st.edited; modes = modes_after st (is_hit m st); epochs = es }) i)
      (same_each (λ k. cond (has hit k) (epoch_of st k + 1) (epoch_of st k)) (λ k. cond (is_hit m st k) (epoch_of st k + 1) (epoch_of st k)) 0 (λ k. ap (λ b. cond b (epoch_of st k + 1) (epoch_of st k)) (same k)))

  pub applied_replies : {T J B : Type 0} (st : Machine P) (r : Reply T P E R O J B) (hit : ℕ) → ((k : ℕ) → has hit k ≡ is_hit m st k)
      → IsApplied r (m.same st.applied st.edited) hit → Replies m st Apply r
  applied_replies st Unchanged hit same h = h
  applied_replies st Changed hit same h = (h.0, λ k low. sym (same k) ∙ h.1 k)
  applied_replies st (Invalidated set) hit same h = (h.0, (λ k. ap (λ s. has s k) h.1 ∙ same k), ((h.2).0, sym (same (h.2).0) ∙ (h.2).1))
  applied_replies st (Edited r) hit same h = absurd h
  applied_replies st (Cancelled n) hit same h = absurd h
  applied_replies st (Modes p s f) hit same h = absurd h
  applied_replies st (Gcode o) hit same h = absurd h
  applied_replies st (Refused p) hit same h = absurd h
  applied_replies st Passed hit same h = absurd h

  pub hits : (st : Machine P) (touched hit : ℕ) → ((k : ℕ) → has touched k ≡ m.touched st.applied st.edited k)
      → ((k : ℕ) → has hit k ≡ (has touched k && not (is_invalid (mode_of st k)))) → (k : ℕ) → has hit k ≡ is_hit m st k
  hits st touched hit a b k = b k ∙ ap (λ t. t && not (is_invalid (mode_of st k))) (a k)

  -- an apply leaves what is held and untouched ready
  pub apply_ready : IsLawful m → (st : Machine P) (hit : ℕ → Bool) → ((k : ℕ) → hit k ≡ is_hit m st k) → IsCoherent m st → StayReady m st st.edited hit
  apply_ready laws st hit same kept k low not_hit held =
      let a = st.applied in
      let b = st.edited in
      let r = kept.held_ready k held in
      let un : m.touched a b k ≡ false = and_not (m.touched a b k) (is_invalid (mode_of st k)) (sym (same k) ∙ not_hit) held in
      let there : m.present b k ≡ true = untouched_present m laws a b k un r.present in
      (there, λ n need. stay n (r.needed n (laws.kept_needs a b k r.present there un n ∙ need)) (laws.needs_present b k n there need) need un there)
    where
      stay : (n : ℕ) → mode_of st n ≡ Done → m.present st.edited n ≡ true → m.needs st.edited k n ≡ true → m.touched st.applied st.edited k ≡ false → m.present st.edited k ≡ true
          → (n < 100) × (hit n ≡ false) × (mode_of st n ≡ Done)
      stay n done present need un there = (laws.present_below st.edited n present, same n ∙ no_hit, done)
        where
          no_hit : is_hit m st n ≡ false
          no_hit = elim (m.touched st.applied st.edited n) as (λ v. m.touched st.applied st.edited n ≡ v → (v && not (is_invalid (mode_of st n))) ≡ false) [
            | true ↦ λ is. absurd (let e : true ≡ false = sym (laws.touched_up st.applied st.edited k n there present need is) ∙ un in cc)
            | false ↦ λ is. refl
          ] refl

  -- a cancel leaves what is Done ready
  pub cancel_ready : IsLawful m → (st : Machine P) (hit : ℕ → Bool) → ((k : ℕ) → hit k ≡ is_started (mode_of st k)) → IsCoherent m st → StayReady m st st.applied hit
  cancel_ready laws st hit same kept k low not_hit held =
      let r = kept.held_ready k held in
      (r.present, λ n need. (laws.present_below st.applied n (laws.needs_present st.applied k n r.present need), same n ∙ ap is_started (r.needed n need), r.needed n need))

  pub cancel_is : (st : Machine P) (hit : ℕ) (i : ℕ) → ((k : ℕ) → has hit k ≡ is_started (mode_of st k))
      → called (record st { modes = modes_after st (has hit); epochs = epochs_after st (has hit) }) i ≡ called (after_command m st Cancel) i
  cancel_is st hit i same =
      ap (λ ms. called (record st { modes = ms; epochs = epochs_after st (has hit) }) i)
      (same_each (λ k. cond (has hit k) Invalid (mode_of st k)) (λ k. cond (is_started (mode_of st k)) Invalid (mode_of st k)) Invalid (λ k. ap (λ b. cond b Invalid (mode_of st k)) (same k)))
      ∙ ap (λ es. called (record st { modes = modes_after st (λ k. is_started (mode_of st k)); epochs = es }) i)
      (same_each (λ k. cond (has hit k) (epoch_of st k + 1) (epoch_of st k)) (λ k. cond (is_started (mode_of st k)) (epoch_of st k + 1) (epoch_of st k)) 0 (λ k. ap (λ b. cond b (epoch_of st k + 1) (epoch_of st k)) (same k)))

  -- a started slot is present
  pub started_present : (st : Machine P) (k : ℕ) → IsCoherent m st → (m.present st.applied k && is_started (mode_of st k)) ≡ is_started (mode_of st k)
  started_present st k kept = of_mode (mode_of st k) refl
    where
      and_true : (b : Bool) → b ≡ true → (b && true) ≡ true
      and_true b is = ap (λ v. v && true) is

      and_false : (b : Bool) → (b && false) ≡ false
      and_false true = refl
      and_false false = refl

      of_mode : (mode : Mode) → mode_of st k ≡ mode → (m.present st.applied k && is_started mode) ≡ is_started mode
      of_mode Invalid is = and_false (m.present st.applied k)
      of_mode (Started a) is = and_true (m.present st.applied k) (kept.held_ready k (ap is_invalid is)).present
      of_mode Done is = and_false (m.present st.applied k)
