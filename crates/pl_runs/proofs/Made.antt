-- The history of a lock that was closed was made by the runners whose passes were joined.
use Rattle.std.proofs.Common.{◌≡◌, ◌≢◌, ◌⊎◌, ℕ, ◌<◌, List, [], ◌++◌, length, map, get_or, refl, ap, sym, subst, ◌∙◌, inl, inr, ⊎_elim, arith, sum, Option, Some, None}
use Rattle.std.specs.Prelude.{All, Any}
use Rattle.std.proofs.lemmas.List.Elements.{All-append, All-cons, All-nil, All-weaker, All-map}
use Rattle.std.proofs.lemmas.Simd.{map-map}
use Rattle.pl_tech.specs.Technology.{Meaning}
use Rattle.pl_ports.specs.declared.gate.Actor.{Actor}
use Rattle.pl_ports.specs.declared.gate.Actor.TheVariants.{Session}
use Rattle.pl_machine.specs.declared.entry.Command.{Command}
use Rattle.pl_machine.specs.declared.entry.Entry.{Entry}
use Rattle.pl_machine.specs.History.{IsLegal}
use Rattle.pl_machine.specs.Tickets.{number_of}
use Rattle.pl_plant.specs.declared.plant.Plant.{Plant}
use Rattle.pl_turn.specs.declared.turned.Turned.{Ghosts}
use Rattle.pl_turn.specs.declared.lock.TurnLock.{TurnLock}
use Rattle.pl_turn.specs.declared.lock.Pass.{Pass}
use Rattle.pl_turn.specs.History.{made_by}
use Rattle.pl_turn.specs.Passes.{number, seen}
use Rattle.pl_turn.proofs.Histories.{has_made}
use Rattle.pl_session.specs.Complete.{runs_of, TakesPart}
use Rattle.pl_order.specs.Order.{number_in}
use Rattle.pl_order.specs.Ended.{Ended, HasEnded, IsMadeBy, commands_for}
use Rattle.pl_runs.specs.Places.{Place, IsPlaced, IsIdle, place_of, place_of_some}
use Rattle.pl_runs.specs.Seats.{AreSeated, HasFirst}
use Rattle.pl_runs.specs.Went.{HasEndedWith}
use Rattle.pl_runs.proofs.Lists.{all_holds, all_from_map, all_left, all_right, any_from_map, any_wider, pairs_from_map, pairs_to_map, any_to_map, get_or_itself}

module _ {T P E R O J B H X : Type 0} {g : Ghosts (Plant T P E R O J B) (Entry T P E R O J B) H} (m : Meaning P E R O) (commands : ℕ → List (Command E)) (workers : ℕ) (lock : TurnLock (Plant T P E R O J B) (Entry T P E R O J B) H)
    (actor : X → Actor) (pass : X → Pass (Plant T P E R O J B) (Entry T P E R O J B) H g) (runs : X → ℕ) where
  -- what is left of a runner
  abbrev pub ended_of : X → Ended T P E R O J B
  ended_of x = record { actor = actor x; seen = seen (pass x); runs = runs x }

  -- it has ended with its own commands
  abbrev pub HasDone : X → Type 0
  HasDone x = HasEndedWith m lock (commands_for commands (actor x)) (actor x) (pass x) (runs x)

  -- it is that of a runner, or it made nothing
  abbrev pub IsUsed : List (Ended T P E R O J B) → Place (Entry T P E R O J B) → Type 0
  IsUsed runners p = (p.own ≡ []) ⊎ Any (λ r. number_of r.actor ≡ p.number) runners

  has_ended : (history : List (Entry T P E R O J B)) (x : X) → HasDone x → IsPlaced number_in history (place_of (pass x)) → HasEnded m commands history (ended_of x)
  has_ended history x h placed = record {
    order = h.order;
    seen_is = placed.1;
    own = ap (λ n. made_by number_in n history) (sym h.number_is) ∙ (sym placed.0 ∙ h.own_are);
    runs = h.runs_are ∙ ap runs_of h.own_are;
    bye = h.bye;
  }

  made_by_one : (history : List (Entry T P E R O J B)) (runners : List (Ended T P E R O J B)) (places : List (Place (Entry T P E R O J B))) → All (IsPlaced number_in history) places → All (IsUsed runners) places
      → (k : ℕ) (d : Entry T P E R O J B) → k < length history → Any (λ p. p.number ≡ number_in (get_or history k d)) places → Any (λ r. number_of r.actor ≡ number_in (get_or history k d)) runners
  made_by_one history runners places placed used k d lt any =
      let n = number_in (get_or history k d) in
      let (p, both, is) = all_holds (λ p. IsPlaced number_in history p × IsUsed runners p) (λ p. p.number ≡ n) places (λ i e l. (placed i e l, used i e l)) any in
      ⊎_elim
      (λ (none : p.own ≡ []). absurd (has_made number_in history k d lt (sym (both.0.0 ∙ ap (λ i. made_by number_in i history) is) ∙ none)))
      (λ (by : Any (λ r. number_of r.actor ≡ p.number) runners). any_wider (λ r. number_of r.actor ≡ p.number) (λ r. number_of r.actor ≡ n) runners (λ r e. e ∙ is) by)
      both.1

  module _ (first : Option (Pass (Plant T P E R O J B) (Entry T P E R O J B) H g)) (xs : List X) (idle : List (Pass (Plant T P E R O J B) (Entry T P E R O J B) H g)) where
    abbrev pub all_places : List (Place (Entry T P E R O J B))
    all_places = (place_of_some first ++ map (λ x. place_of (pass x)) xs) ++ map (λ p. place_of p) idle

    abbrev runners : List (Ended T P E R O J B)
    runners = map ended_of xs

    -- the runner of an account is among them
    has_runner : (k : ℕ) (d : X) → k < length xs → Any (λ r. number_of r.actor ≡ number_of (actor (get_or xs k d))) runners
    has_runner k d lt = any_to_map (λ r. number_of r.actor ≡ number_of (actor (get_or xs k d))) ended_of xs (k, get_or xs k d, lt, get_or_itself xs k d lt, refl)

    used_first : (o : Option (Pass (Plant T P E R O J B) (Entry T P E R O J B) H g)) → HasFirst lock o (map actor xs) → All (IsUsed runners) (place_of_some o)
    used_first None h = All-nil (IsUsed runners)
    used_first (Some p) h = All-cons (IsUsed runners) (place_of p) [] (inl h.0.own_are) (All-nil (IsUsed runners))

    used_by : All HasDone xs → All (IsUsed runners) (map (λ x. place_of (pass x)) xs)
    used_by done = All-map (IsUsed runners) (λ x. place_of (pass x)) xs (λ k d lt. inr (any_wider (λ r. number_of r.actor ≡ number_of (actor (get_or xs k d))) (λ r. number_of r.actor ≡ number (pass (get_or xs k d))) runners
        (λ r e. e ∙ sym (done k d lt).number_is) (has_runner k d lt)))

    used_idle : All (λ p. IsIdle lock p) idle → All (IsUsed runners) (map (λ p. place_of p) idle)
    used_idle none = All-map (IsUsed runners) (λ p. place_of p) idle (All-weaker (λ p. IsIdle lock p) (λ p. IsUsed runners (place_of p)) (λ p h. inl h.1) idle none)

    pub is_made : (history : List (Entry T P E R O J B)) → IsLegal m history → HasFirst lock first (map actor xs) → All (λ p. IsIdle lock p) idle → AreSeated commands workers 25 (map actor xs) (map (λ p. number p) idle) → All HasDone xs
        → All (IsPlaced number_in history) all_places → All (λ e. Any (λ p. p.number ≡ number_in e) all_places) history → IsMadeBy m commands workers runners history
    is_made history legal one none seated done placed makers =
        let own_placed = all_from_map (IsPlaced number_in history) (λ x. place_of (pass x)) xs (all_right (IsPlaced number_in history) (place_of_some first) (map (λ x. place_of (pass x)) xs)
        (all_left (IsPlaced number_in history) (place_of_some first ++ map (λ x. place_of (pass x)) xs) (map (λ p. place_of p) idle) placed)) in
        let used = All-append (IsUsed runners) (place_of_some first ++ map (λ x. place_of (pass x)) xs) (map (λ p. place_of p) idle)
        (All-append (IsUsed runners) (place_of_some first) (map (λ x. place_of (pass x)) xs) (used_first first one) (used_by done)) (used_idle none) in
        record {
          legal = legal;
          ended = All-map (HasEnded m commands history) ended_of xs (λ k d lt. has_ended history _ (done k d lt) (own_placed k d lt));
          part = All-map (λ r. TakesPart commands workers r.actor) ended_of xs (all_from_map (TakesPart commands workers) actor xs seated.part);
          different = pairs_to_map (λ r other. r.actor ≢ other.actor) ended_of xs (pairs_from_map (λ a b. a ≢ b) actor xs seated.different);
          sessions = λ i low high some. any_to_map (λ r. r.actor ≡ Session i) ended_of xs (any_from_map (λ a. a ≡ Session i) actor xs (seated.sessions i low (omega arith) high some));
          entries = λ k d lt. made_by_one history runners all_places placed used k d lt (makers k d lt);
        }

    -- the same, of a history that was taken out
    pub is_made_of : (history log : List (Entry T P E R O J B)) → history ≡ log → IsLegal m history → HasFirst lock first (map actor xs) → All (λ p. IsIdle lock p) idle → AreSeated commands workers 25 (map actor xs) (map (λ p. number p) idle) → All HasDone xs
        → All (IsPlaced number_in log) all_places → All (λ e. Any (λ p. p.number ≡ number_in e) all_places) log → IsMadeBy m commands workers runners history
    is_made_of history log is legal one none seated done placed makers = is_made history legal one none seated done
        (subst (λ h. All (IsPlaced number_in h) all_places) (sym is) placed) (subst (λ h. All (λ e. Any (λ p. p.number ≡ number_in e) all_places) h) (sym is) makers)

    pub runs_of_all : sum (map (λ r. r.runs) runners) ≡ sum (map runs xs)
    runs_of_all = ap sum (map-map (λ r. r.runs) ended_of xs)
