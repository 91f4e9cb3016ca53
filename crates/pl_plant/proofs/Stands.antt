-- Each step keeps that a plant stands for its journal.
use Rattle.std.proofs.Common.{◌≡◌, ◌≢◌, ℕ, ◌<◌, inl, inr, List, [], ◌∷◌, ◌++◌, length, get_or, set, replicate, refl, ap, sym, subst, ◌∙◌, None, Some, arith, get_or-set_same, get_or-set_other}
use Rattle.std.proofs.Math.ListN.{get_or-eq_default}
use Rattle.std.proofs.lemmas.List.{append-nil, get_or-replicate, length-set}
use Rattle.std.proofs.lemmas.Bool.{cases_lt}
use Rattle.std.proofs.lemmas.Bool.Decides.{eqb_tells}
use Rattle.std.specs.declared.option.Option.{Option}
use Rattle.pl_tech.specs.Technology.{Meaning}
use Rattle.pl_ports.specs.declared.gate.Actor.{Actor}
use Rattle.pl_ports.specs.declared.gate.Actor.TheVariants.{Session}
use Rattle.pl_machine.specs.declared.entry.Mode.{Mode}
use Rattle.pl_machine.specs.declared.entry.Mode.TheVariants.{Invalid, Started, Done}
use Rattle.pl_machine.specs.declared.entry.Entry.{Entry}
use Rattle.pl_machine.specs.declared.entry.What.TheVariants.{Finish, Late, Bye}
use Rattle.pl_machine.specs.Machine.{Machine, MayCall, blank, mode_of, Starts, started, Finishes, finished, Drops, freed, without}
use Rattle.pl_machine.specs.Tickets.{start_of, StandsIn}
use Rattle.pl_machine.proofs.Runs.{replay_from-append, run_goes_on}
use Rattle.pl_plant.specs.Planted.{StandsFor}

-- a mode after a write of one that is not Done, where the mode was not Done
not_done_set : (modes : List Mode) (slot : ℕ) (v : Mode) → v ≢ Done → get_or modes slot Invalid ≢ Done → get_or (set modes slot v) slot Invalid ≢ Done
not_done_set modes slot v new old is = elim (cases_lt slot (length modes)) [
  | inl within ↦ new (sym (get_or-set_same modes slot v Invalid within) ∙ is)
  | inr out ↦ invalid_is_done (sym (get_or-eq_default (set modes slot v) Invalid (rw length-set out)) ∙ is)
]
  where
    invalid_is_done : Invalid ≡ Done → ⊥
    invalid_is_done e = cc

-- a place that is Started is in the list
is_place : (modes : List Mode) (k : ℕ) (a : Actor) → get_or modes k Invalid ≡ Started a → k < length modes
is_place modes k a is = elim (cases_lt k (length modes)) [
  | inl here ↦ here
  | inr out ↦ absurd (let e : Invalid ≡ Started a = sym (get_or-eq_default modes Invalid out) ∙ is in cc)
]

module _ {T P E R O J B : Type 0} (m : Meaning P E R O) where
  pub stands-new : StandsFor {T = T} {J = J} {B = B} m (blank m) [] (replicate 100 None) (replicate 100 0)
  stands-new = record {
    legal = tt;
    replayed = refl;
    keeps = λ k low is. absurd (let e : Invalid ≡ Done = sym (get_or-replicate 100 k Invalid Invalid low) ∙ is in cc);
    keeps_no_other = λ k low ne. get_or-replicate 100 k None None low;
    counted = refl;
  }

  pub stands-started : (st : Machine P) (js : List (Entry T P E R O J B)) (kept : List (Option O)) (counts : List ℕ) (actor : Actor) (slot e : ℕ)
      → Starts m st actor slot e → StandsFor m st js kept counts → StandsFor m (started st actor slot e) (js ++ start_of actor slot e ∷ []) kept counts
  stands-started st js kept counts actor slot e starts stands = record {
    legal = run_goes_on m (blank m) js (start_of actor slot e) stands.legal (subst (λ s. Starts m s actor slot e) stands.replayed starts);
    replayed = ap (λ s. started s actor slot e) stands.replayed ∙ sym (replay_from-append m (blank m) js (start_of actor slot e));
    keeps = λ k low is. elim (eqb_tells k slot) [
      | inl same ↦ absurd (not_done_set st.modes slot (Started actor) (λ e. cc) (λ d. let e : Invalid ≡ Done = sym starts.can.invalid ∙ d in cc) (ap (mode_of (started st actor slot e)) (sym same.1) ∙ is))
      | inr other ↦ stands.keeps k low (sym (get_or-set_other st.modes slot k (Started actor) Invalid other.1) ∙ is)
    ];
    keeps_no_other = λ k low ne. elim (eqb_tells k slot) [
      | inl same ↦ stands.keeps_no_other k low (λ d. let e : Invalid ≡ Done = sym starts.can.invalid ∙ ap (mode_of st) (sym same.1) ∙ d in cc)
      | inr other ↦ stands.keeps_no_other k low (λ d. ne (get_or-set_other st.modes slot k (Started actor) Invalid other.1 ∙ d))
    ];
    counted = stands.counted;
  }

  pub stands-finished : (st : Machine P) (js : List (Entry T P E R O J B)) (kept : List (Option O)) (counts : List ℕ) (actor : Actor) (slot e : ℕ) → length kept ≡ 100 → slot < 100
      → Finishes st actor slot e → StandsFor m st js kept counts
      → StandsFor m (finished st actor slot) (js ++ record { actor = actor; what = Finish slot e } ∷ []) (set kept slot (Some (m.value st.applied slot))) counts
  stands-finished st js kept counts actor slot e long low fin stands = record {
    legal = run_goes_on m (blank m) js entry stands.legal (subst (λ s. Finishes s actor slot e) stands.replayed fin);
    replayed = ap (λ s. finished s actor slot) stands.replayed ∙ sym (replay_from-append m (blank m) js entry);
    keeps = λ k lk is. elim (eqb_tells k slot) [
      | inl same ↦ ap (λ n. get_or (set kept slot (Some (m.value st.applied slot))) n None) same.1
          ∙ get_or-set_same kept slot (Some (m.value st.applied slot)) None (omega (arith, long)) ∙ ap (λ n. Some (m.value st.applied n)) (sym same.1)
      | inr other ↦ get_or-set_other kept slot k (Some (m.value st.applied slot)) None other.1
          ∙ stands.keeps k lk (sym (get_or-set_other st.modes slot k Done Invalid other.1) ∙ is)
    ];
    keeps_no_other = λ k lk ne. elim (eqb_tells k slot) [
      | inl same ↦ absurd (ne (ap (λ n. get_or (set st.modes slot Done) n Invalid) same.1 ∙ get_or-set_same st.modes slot Done Invalid (is_place st.modes slot actor fin.started_by)))
      | inr other ↦ get_or-set_other kept slot k (Some (m.value st.applied slot)) None other.1
          ∙ stands.keeps_no_other k lk (λ d. ne (get_or-set_other st.modes slot k Done Invalid other.1 ∙ d))
    ];
    counted = stands.counted;
  }
    where
      entry : Entry T P E R O J B
      entry = record { actor = actor; what = Finish slot e }

  pub stands-freed : (st : Machine P) (js : List (Entry T P E R O J B)) (kept : List (Option O)) (counts : List ℕ) (actor : Actor) (slot since now : ℕ)
      → Drops st actor slot since now → StandsFor m st js kept counts
      → StandsFor m (freed st actor) (js ++ record { actor = actor; what = Late slot since now } ∷ []) kept counts
  stands-freed st js kept counts actor slot since now drops stands = record {
    legal = run_goes_on m (blank m) js entry stands.legal (subst (λ s. Drops s actor slot since now) stands.replayed drops);
    replayed = ap (λ s. freed s actor) stands.replayed ∙ sym (replay_from-append m (blank m) js entry);
    keeps = stands.keeps;
    keeps_no_other = stands.keeps_no_other;
    counted = stands.counted;
  }
    where
      entry : Entry T P E R O J B
      entry = record { actor = actor; what = Late slot since now }

  pub stands-left : (st : Machine P) (js : List (Entry T P E R O J B)) (kept : List (Option O)) (counts : List ℕ) (i : ℕ)
      → MayCall st i → StandsFor m st js kept counts
      → StandsFor m (without st i) (js ++ record { actor = Session i; what = Bye } ∷ []) kept counts
  stands-left st js kept counts i may stands = record {
    legal = run_goes_on m (blank m) js entry stands.legal (subst (λ s. MayCall s i) stands.replayed may);
    replayed = ap (λ s. without s i) stands.replayed ∙ sym (replay_from-append m (blank m) js entry);
    keeps = stands.keeps;
    keeps_no_other = stands.keeps_no_other;
    counted = stands.counted;
  }
    where
      entry : Entry T P E R O J B
      entry = record { actor = Session i; what = Bye }

  -- a start that is the journal's last entry stands in it
  pub stands_in-started : (st : Machine P) (js : List (Entry T P E R O J B)) (kept : List (Option O)) (counts : List ℕ) (actor : Actor) (slot e : ℕ) (value : O)
      → StandsFor m st js kept counts → value ≡ m.value st.applied slot → StandsIn m (js ++ start_of actor slot e ∷ []) actor slot e value
  stands_in-started st js kept counts actor slot e value stands is = record {
    before = js;
    rest = [];
    split = sym (append-nil (js ++ start_of actor slot e ∷ []));
    unclosed = tt;
    value_is = is ∙ ap (λ s. m.value s.applied slot) (ap (λ s. started s actor slot e) stands.replayed ∙ sym (replay_from-append m (blank m) js (start_of actor slot e)));
  }
