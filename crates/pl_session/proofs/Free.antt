-- What each move of a session that is alone leaves.
use Rattle.std.proofs.Common.{◌≡◌, ◌≢◌, ℕ, ◌+◌, ◌<◌, ◌≤◌, inl, inr, Bool, true, false, not, cond, List, length, get_or, set, replicate, refl, ap, ◌∙◌, None, Some, arith, get_or-set_same, get_or-set_other}
use Rattle.std.proofs.lemmas.List.{get_or-replicate, get_or_past, length-set, length-replicate, set-set}
use Rattle.std.proofs.lemmas.List.Sums.{sum_by-set}
use Rattle.std.proofs.lemmas.Bool.{cases_lt}
use Rattle.std.proofs.lemmas.Bool.Decides.{eqb_tells}
use Rattle.std.specs.declared.option.Option.{Option}
use Rattle.pl_tech.specs.Technology.{Meaning, IsLawful}
use Rattle.pl_ports.specs.declared.gate.Actor.TheVariants.{Session}
use Rattle.pl_machine.specs.declared.entry.Mode.{Mode}
use Rattle.pl_machine.specs.declared.entry.Mode.TheVariants.{Invalid, Started, Done}
use Rattle.pl_machine.specs.declared.entry.Pending.{Pending}
use Rattle.pl_machine.specs.declared.entry.Command.{Command}
use Rattle.pl_machine.specs.declared.entry.Command.TheVariants.{Edit, Apply, Export, Status, Cancel, After}
use Rattle.pl_machine.specs.Each.{length-each_slot}
use Rattle.pl_machine.specs.Machine.{Machine, blank, mode_of, epoch_of, seat_of, is_started, is_done, is_hit, modes_after, epochs_after, called, after_command, started, finished, MayCall, CanStart, Starts, Finishes}
use Rattle.pl_machine.specs.Calls.{IsNotYet}
use Rattle.pl_machine.specs.Startable.{HasNone}
use Rattle.pl_machine.proofs.Sound.{mode_after, get_or-set_default}
use Rattle.pl_session.specs.UnderWay.{undone_in, IsFree}

-- a place of copies of the default
pub copied : {A : Type 0} (n i : ℕ) (d : A) → get_or (replicate n d) i d ≡ d
copied n i d = elim (cases_lt i n) [
  | inl within ↦ get_or-replicate n i d d within
  | inr out ↦ get_or_past (replicate n d) i d (rw length-replicate out)
]

-- one more at the front of a list is at most one more
counted : (calls : List ℕ) → get_or (set calls 0 (get_or calls 0 0 + 1)) 0 0 ≤ get_or calls 0 0 + 1
counted calls = elim (cases_lt 0 (length calls)) [
  | inl within ↦ let e = get_or-set_same calls 0 (get_or calls 0 0 + 1) 0 within in omega (arith, e)
  | inr out ↦ let e = get_or_past (set calls 0 (get_or calls 0 0 + 1)) 0 0 (rw length-set out) in omega (arith, e)
]

done_unstarted : (modes : List Mode) (slot : ℕ) → is_started (get_or (set modes slot Done) slot Invalid) ≡ false
done_unstarted modes slot = elim (cases_lt slot (length modes)) [
  | inl within ↦ ap is_started (get_or-set_same modes slot Done Invalid within)
  | inr out ↦ ap is_started (get_or_past (set modes slot Done) slot Invalid (rw length-set out))
]

only_invalid : (mode : Mode) → is_started mode ≡ false → mode ≢ Done → mode ≡ Invalid
only_invalid Invalid unstarted undone = refl
only_invalid (Started actor) unstarted undone = cc
only_invalid Done unstarted undone = absurd (undone refl)

module _ {P : Type 0} where
  fallen_unstarted : (st : Machine P) (hit : ℕ → Bool) (k : ℕ) → is_started (mode_of st k) ≡ false → is_started (get_or (modes_after st hit) k Invalid) ≡ false
  fallen_unstarted st hit k unstarted = elim (cases_lt k 100) [
    | inl low ↦ ap is_started (mode_after st hit k low) ∙ either (hit k)
    | inr far ↦ ap is_started (get_or_past (modes_after st hit) k Invalid (rw length-each_slot far))
  ]
    where
      either : (b : Bool) → is_started (cond b Invalid (mode_of st k)) ≡ false
      either true = refl
      either false = unstarted

  pub may_call : (st : Machine P) (made : ℕ) → IsFree st made → MayCall st 1
  may_call st made free = record { from_1 = omega arith; to_16 = omega arith; stays = free.stays; free = free.idle (Session 1) }

  pub free_done : (st : Machine P) (slot epoch made : ℕ) → IsFree st made → IsFree (finished (started st (Session 1) slot epoch) (Session 1) slot) made
  free_done st slot epoch made free = record {
    modes_long = length-set (set st.modes slot (Started (Session 1))) slot Done ∙ length-set st.modes slot (Started (Session 1)) ∙ free.modes_long;
    pending_long = length-set (set st.pending 0 (Some pair)) 0 None ∙ length-set st.pending 0 (Some pair) ∙ free.pending_long;
    stays = free.stays;
    idle = λ actor. elim (eqb_tells (seat_of actor) 0) [
      | inl same ↦ ap (λ n. get_or (set (set st.pending 0 (Some pair)) 0 None) n None) same.1 ∙ get_or-set_default (set st.pending 0 (Some pair)) 0 None
      | inr other ↦ get_or-set_other (set st.pending 0 (Some pair)) 0 (seat_of actor) None None other.1
          ∙ get_or-set_other st.pending 0 (seat_of actor) (Some pair) None other.1 ∙ free.idle actor
    ];
    unstarted = λ k. elim (eqb_tells k slot) [
      | inl same ↦ ap (λ n. is_started (get_or (set (set st.modes slot (Started (Session 1))) slot Done) n Invalid)) same.1
          ∙ done_unstarted (set st.modes slot (Started (Session 1))) slot
      | inr other ↦ ap is_started (get_or-set_other (set st.modes slot (Started (Session 1))) slot k Done Invalid other.1
          ∙ get_or-set_other st.modes slot k (Started (Session 1)) Invalid other.1) ∙ free.unstarted k
    ];
    few = free.few;
  }
    where
      pair : Pending
      pair = record { slot = slot; epoch = epoch }

  -- what was just started may be finished
  pub finishes : (st : Machine P) (slot epoch made : ℕ) → slot < 100 → epoch_of st slot ≡ epoch → IsFree st made
      → Finishes (started st (Session 1) slot epoch) (Session 1) slot epoch
  finishes st slot epoch made low current free = record {
    actor_is = (omega arith, omega arith);
    pending = get_or-set_same st.pending 0 (Some (record { slot = slot; epoch = epoch })) None (omega (arith, free.pending_long));
    started_by = get_or-set_same st.modes slot (Started (Session 1)) Invalid (omega (arith, free.modes_long));
    current = current;
  }

  pub fewer_undone : (st : Machine P) (slot epoch made : ℕ) → slot < 100 → mode_of st slot ≡ Invalid → IsFree st made
      → undone_in (finished (started st (Session 1) slot epoch) (Session 1) slot) < undone_in st
  unfolding undone_in
  fewer_undone st slot epoch made low was free =
      let within : slot < length st.modes = omega (arith, free.modes_long) in
      let one = sum_by-set (λ mode. cond (not (is_done mode)) 1 0) st.modes slot Done Invalid within in
      let had : cond (not (is_done (mode_of st slot))) 1 0 ≡ ◌+◌ 0 1 = ap (λ mode. cond (not (is_done mode)) 1 0) was in
      rw (set-set st.modes slot (Started (Session 1)) Done) (omega (arith, one, had))

module _ {P E R O : Type 0} (m : Meaning P E R O) where
  pub free_blank : IsFree (blank m) 0
  free_blank = record {
    modes_long = length-replicate {A = Mode} 100 Invalid;
    pending_long = length-replicate {A = Option Pending} 24 None;
    stays = copied 16 0 false;
    idle = λ actor. copied 24 (seat_of actor) None;
    unstarted = λ k. ap is_started (copied 100 k Invalid);
    few = (let e = copied {A = ℕ} 16 0 0 in omega (arith, e));
  }

  -- what every command leaves
  pub record CommandKeeps (st st' : Machine P) : Type 0 where
    pub modes_long : length st.modes ≡ 100 → length st'.modes ≡ 100
    pub pending : st'.pending ≡ st.pending
    pub left : st'.left ≡ st.left
    pub calls : st'.calls ≡ st.calls
    pub unstarted : (k : ℕ) → is_started (mode_of st k) ≡ false → is_started (mode_of st' k) ≡ false

  edited_keeps : (st : Machine P) (edited : P) → CommandKeeps st (record st { edited = edited })
  edited_keeps st edited = record { modes_long = λ long. long; pending = refl; left = refl; calls = refl; unstarted = λ k unstarted. unstarted }

  fallen_keeps : (st : Machine P) (applied : P) (hit : ℕ → Bool) → CommandKeeps st (record st { applied = applied; modes = modes_after st hit; epochs = epochs_after st hit })
  fallen_keeps st applied hit = record { modes_long = λ long. length-each_slot _; pending = refl; left = refl; calls = refl; unstarted = fallen_unstarted st hit }

  pub command_keeps : (st : Machine P) (c : Command E) → CommandKeeps st (after_command m st c)
  command_keeps st (Edit e) = edited_keeps st (m.edited st.edited e)
  command_keeps st Apply = fallen_keeps st st.edited (is_hit m st)
  command_keeps st Cancel = fallen_keeps st st.applied (λ k. is_started (mode_of st k))
  command_keeps st Export = edited_keeps st st.edited
  command_keeps st Status = edited_keeps st st.edited
  command_keeps st (After s n) = edited_keeps st st.edited

  pub free_called : (st : Machine P) (c : Command E) (made : ℕ) → IsFree st made → IsFree (called (after_command m st c) 1) (made + 1)
  free_called st c made free =
      let keeps = command_keeps st c in
      record {
        modes_long = keeps.modes_long free.modes_long;
        pending_long = ap length keeps.pending ∙ free.pending_long;
        stays = ap (λ left. get_or left 0 false) keeps.left ∙ free.stays;
        idle = λ actor. ap (λ pending. get_or pending (seat_of actor) None) keeps.pending ∙ free.idle actor;
        unstarted = λ k. keeps.unstarted k (free.unstarted k);
        few = (let more = counted (after_command m st c).calls in let same = ap (λ calls. get_or calls 0 0) keeps.calls in omega (arith, more, same, free.few));
      }

  pub may_start : (st : Machine P) (slot made : ℕ) → IsFree st made → CanStart m st slot → Starts m st (Session 1) slot (epoch_of st slot)
  may_start st slot made free can = record { actor_is = (omega arith, omega arith); stays = free.stays; free = free.idle (Session 1); can = can; current = refl }

  -- an export that waits has a slot that may be started
  pub never_waits : IsLawful m → (st : Machine P) (made : ℕ) → IsFree st made → HasNone m st → (slot : ℕ) → IsNotYet m st slot → ⊥
  never_waits laws st made free none slot waits =
      let undone = waits.1 in
      none slot (record {
        no_problem = waits.0;
        invalid = only_invalid (mode_of st slot) (free.unstarted slot) undone.undone;
        ready = record {
          present = undone.present;
          needed = λ n need. undone.least n (laws.needs_below st.applied slot n undone.present need) (laws.needs_present st.applied slot n undone.present need);
        };
      })
