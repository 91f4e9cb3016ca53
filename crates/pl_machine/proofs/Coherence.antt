-- What the state after every legal history keeps.
use Rattle.std.proofs.Common.{◌≡◌, ℕ, ◌-◌, ◌≤◌, inl, inr, Bool, true, false, List, [], ◌∷◌, ◌++◌, length, get_or, set, refl, ap, sym, subst, ◌∙◌, None, Some, arith, get_or-set_same, get_or-set_other}
use Rattle.std.proofs.lemmas.List.{get_or_past}
use Rattle.std.proofs.lemmas.Bool.{cases_lt}
use Rattle.std.proofs.lemmas.Bool.Decides.{eqb_tells}
use Rattle.pl_tech.specs.Technology.{Meaning, IsLawful}
use Rattle.pl_ports.specs.declared.gate.Actor.{Actor}
use Rattle.pl_ports.specs.declared.gate.Actor.TheVariants.{Session, Worker}
use Rattle.pl_machine.specs.declared.entry.Command.{Command}
use Rattle.pl_machine.specs.declared.entry.Command.TheVariants.{Edit, Apply, Export, Status, Cancel, After}
use Rattle.pl_machine.specs.declared.entry.What.{What}
use Rattle.pl_machine.specs.declared.entry.What.TheVariants.{Call, Start, Finish, Late, Bye}
use Rattle.pl_machine.specs.declared.entry.Entry.{Entry}
use Rattle.pl_machine.specs.Machine.{Machine, IsCoherent, Allows, MayCall, blank, next, called, after_command, session_of, mode_of, is_hit, is_started, has_left, without}
use Rattle.pl_machine.specs.History.{replay, replay_from, IsRunFrom, IsLegal}
use Rattle.pl_machine.specs.Tickets.{HasNoneBy}
use Rattle.pl_machine.proofs.Runs.{run_split}
use Rattle.pl_machine.proofs.Sound.{coherent-blank, coherent-edited, coherent-fallen, coherent-started, coherent-finished, coherent-freed, coherent-without}
use Rattle.pl_machine.proofs.Applying.{apply_ready, cancel_ready}

-- a place that holds true still does after true is written somewhere
still_true : (left : List Bool) (j k : ℕ) → get_or left k false ≡ true → get_or (set left j true) k false ≡ true
still_true left j k is = elim (eqb_tells k j) [
  | inl same ↦ elim (cases_lt j (length left)) [
    | inl within ↦ ap (λ n. get_or (set left j true) n false) same.1 ∙ get_or-set_same left j true false within
    | inr out ↦ absurd (let f : true ≡ false = sym is ∙ get_or_past left k false (omega (arith, same.1, out)) in cc)
  ]
  | inr other ↦ get_or-set_other left j k true false other.1 ∙ is
]

module _ {P E R O : Type 0} (m : Meaning P E R O) where
  -- a command leaves who has left
  pub command_left : (st : Machine P) (c : Command E) (i : ℕ) → (called (after_command m st c) i).left ≡ st.left
  command_left st (Edit e) i = refl
  command_left st Apply i = refl
  command_left st Cancel i = refl
  command_left st Export i = refl
  command_left st Status i = refl
  command_left st (After s n) i = refl

  -- a session that says bye has left
  pub left_by : (st : Machine P) (i : ℕ) → IsCoherent m st → MayCall st i → has_left (without st i) i ≡ true
  left_by st i kept may = get_or-set_same st.left (i - 1) true false (let from = may.from_1 in let to = may.to_16 in omega (arith, kept.left_long, from, to))

  module _ {T J B : Type 0} where
    -- who has left stays away
    pub still_away : (st : Machine P) (a : Actor) (w : What T P E R O J B) (i : ℕ) → has_left st i ≡ true → has_left (next m st a w) i ≡ true
    still_away st a (Call c reply) i is = ap (λ left. get_or left (i - 1) false) (command_left st c (session_of a)) ∙ is
    still_away st a (Start slot epoch) i is = is
    still_away st a (Finish slot epoch) i is = is
    still_away st a (Late slot since now) i is = is
    still_away st a Bye i is = still_true st.left _ (i - 1) is

    pub away_on : (st : Machine P) (es : List (Entry T P E R O J B)) (i : ℕ) → has_left st i ≡ true → has_left (replay_from m st es) i ≡ true
    away_on st [] i is = is
    away_on st (e ∷ es) i is = away_on (next m st e.actor e.what) es i (still_away st e.actor e.what i is)

    -- who has left makes no step
    no_step : (st : Machine P) (i : ℕ) (w : What T P E R O J B) → 1 ≤ i → i ≤ 16 → IsCoherent m st → has_left st i ≡ true → Allows m st (Session i) w → ⊥
    no_step st i (Call c reply) from to kept left may = let f : true ≡ false = sym left ∙ may.0.stays in cc
    no_step st i (Start slot epoch) from to kept left may = let f : true ≡ false = sym left ∙ may.stays in cc
    no_step st i (Finish slot epoch) from to kept left may = let f : None ≡ Some _ = sym (kept.left_idle i from to left) ∙ may.pending in cc
    no_step st i (Late slot since now) from to kept left may = let f : None ≡ Some _ = sym (kept.left_idle i from to left) ∙ may.pending in cc
    no_step st i Bye from to kept left may = let f : true ≡ false = sym left ∙ may.stays in cc

  module _ (laws : IsLawful m) where
    coherent-called : (st : Machine P) (c : Command E) (i : ℕ) → IsCoherent m st → IsCoherent m (called (after_command m st c) i)
    coherent-called st (Edit e) i kept = coherent-edited m st (m.edited st.edited e) i kept
    coherent-called st Apply i kept = coherent-fallen m st st.edited st.edited (is_hit m st) i (apply_ready m laws st (is_hit m st) (λ k. refl) kept) kept
    coherent-called st Cancel i kept =
        let hit : ℕ → Bool = λ k. is_started (mode_of st k) in
        coherent-fallen m st st.edited st.applied hit i (cancel_ready m laws st hit (λ k. refl) kept) kept
    coherent-called st Export i kept = coherent-edited m st st.edited i kept
    coherent-called st Status i kept = coherent-edited m st st.edited i kept
    coherent-called st (After s n) i kept = coherent-edited m st st.edited i kept

    module _ {T J B : Type 0} where
      coherent-next : (st : Machine P) (a : Actor) (w : What T P E R O J B) → Allows m st a w → IsCoherent m st → IsCoherent m (next m st a w)
      coherent-next st a (Call c reply) may kept = coherent-called st c (session_of a) kept
      coherent-next st a (Start slot epoch) may kept = coherent-started m st a slot epoch (laws.present_below st.applied slot may.can.ready.present) may kept
      coherent-next st a (Finish slot epoch) may kept = coherent-finished m st a slot may.started_by kept
      coherent-next st a (Late slot since now) may kept = coherent-freed m st a slot since now may kept
      coherent-next st (Session i) Bye may kept = coherent-without m st i may kept
      coherent-next st (Worker k) Bye may kept = absurd may

      pub coherent_run : (st : Machine P) (es : List (Entry T P E R O J B)) → IsRunFrom m st es → IsCoherent m st → IsCoherent m (replay_from m st es)
      coherent_run st [] run kept = kept
      coherent_run st (e ∷ es) run kept = coherent_run (next m st e.actor e.what) es run.1 (coherent-next st e.actor e.what run.0 kept)

      pub coherent_history : (es : List (Entry T P E R O J B)) → IsLegal m es → IsCoherent m (replay m es)
      coherent_history es legal = coherent_run (blank m) es legal (coherent-blank m m.blank m.blank)

      none_by : (st : Machine P) (es : List (Entry T P E R O J B)) (i : ℕ) → 1 ≤ i → i ≤ 16 → IsCoherent m st → has_left st i ≡ true → IsRunFrom m st es → HasNoneBy (Session i) es
      none_by st [] i from to kept left run = tt
      none_by st (e ∷ es) i from to kept left run = (
        (λ by. no_step st i e.what from to kept left (subst (λ a. Allows m st a e.what) by run.0)),
        none_by (next m st e.actor e.what) es i from to (coherent-next st e.actor e.what run.0 kept) (still_away st e.actor e.what i left) run.1,
      )

      pub bye_is_last : (actor : Actor) (before after : List (Entry T P E R O J B)) → IsLegal m (before ++ record { actor = actor; what = Bye } ∷ after) → HasNoneBy actor after
      bye_is_last (Worker k) before after legal = absurd (run_split m (blank m) before (record { actor = Worker k; what = Bye } ∷ after) legal).1.0
      bye_is_last (Session i) before after legal =
          let runs = run_split m (blank m) before (record { actor = Session i; what = Bye } ∷ after) legal in
          let st = replay m before in
          let kept = coherent_history before runs.0 in
          let may : MayCall st i = runs.1.0 in
          none_by (without st i) after i may.from_1 may.to_16 (coherent-without m st i may kept) (left_by st i kept may) runs.1.1
