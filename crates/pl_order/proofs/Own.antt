-- The entries of an actor in a history that goes on.
use Rattle.std.proofs.Common.{◌≡◌, ◌≢◌, ℕ, eqb, inl, inr, cond, List, [], ◌∷◌, ◌++◌, refl, ap, sym, ◌∙◌, arith}
use Rattle.std.proofs.lemmas.List.{append-nil}
use Rattle.std.proofs.lemmas.List.Elements.{filter-append, filter_map-append}
use Rattle.std.proofs.lemmas.Bool.Decides.{eqb_tells}
use Rattle.pl_ports.specs.declared.gate.Actor.{Actor}
use Rattle.pl_ports.specs.declared.gate.Actor.TheVariants.{Session, Worker}
use Rattle.pl_tech.specs.Technology.{Meaning}
use Rattle.pl_machine.specs.declared.entry.Command.{Command}
use Rattle.pl_machine.specs.declared.entry.What.{What}
use Rattle.pl_machine.specs.declared.entry.What.TheVariants.{Call, Start, Finish, Late, Bye}
use Rattle.pl_machine.specs.declared.entry.Entry.{Entry}
use Rattle.pl_machine.specs.Machine.{Machine, IsActor, Allows}
use Rattle.pl_machine.specs.History.{replay_from, IsRunFrom}
use Rattle.pl_machine.specs.Tickets.{number_of}
use Rattle.pl_machine.proofs.Runs.{run_split}
use Rattle.pl_session.specs.Complete.{command_of}
use Rattle.pl_order.specs.Order.{number_in, entries_of, calls_in, bye_of}
use Rattle.pl_order.proofs.Lists.{same_number}

pub same_actor : (a b : Actor) → IsActor a → IsActor b → number_of a ≡ number_of b → a ≡ b
same_actor (Session i) (Session j) h k e = ap Session (omega arith)
same_actor (Session i) (Worker j) h k e = absurd (omega arith)
same_actor (Worker i) (Session j) h k e = absurd (omega arith)
same_actor (Worker i) (Worker j) h k e = ap Worker (omega arith)

module _ {T P E R O J B : Type 0} where
  pub entries_append : (actor : Actor) (xs ys : List (Entry T P E R O J B)) → entries_of actor (xs ++ ys) ≡ entries_of actor xs ++ entries_of actor ys
  entries_append actor xs ys = filter-append (λ e. eqb (number_in e) (number_of actor)) xs ys

  pub calls_append : (xs ys : List (Entry T P E R O J B)) → calls_in (xs ++ ys) ≡ calls_in xs ++ calls_in ys
  calls_append xs ys = filter_map-append (λ e. command_of e.what) xs ys

  -- an entry of the actor is the first of its entries
  pub own_first : (actor : Actor) (e : Entry T P E R O J B) (es : List (Entry T P E R O J B)) → e.actor ≡ actor → entries_of actor (e ∷ es) ≡ e ∷ entries_of actor es
  own_first actor e es by = ap (λ b. cond b (e ∷ entries_of actor es) (entries_of actor es)) (ap (λ a. eqb (number_of a) (number_of actor)) by ∙ same_number (number_of actor))

  -- where the actor has no entry, no entry is of it
  pub not_own : (actor : Actor) (before : List (Entry T P E R O J B)) (e : Entry T P E R O J B) (after : List (Entry T P E R O J B))
      → entries_of actor (before ++ e ∷ after) ≡ [] → e.actor ≡ actor → ⊥
  not_own actor [] e after none by = let f : e ∷ entries_of actor after ≡ [] = sym (own_first actor e after by) ∙ none in cc
  not_own actor (b ∷ before) e after none by = elim (eqb_tells (number_in b) (number_of actor)) [
    | inl same ↦ absurd (let f : b ∷ entries_of actor (before ++ e ∷ after) ≡ [] = rw same.0 at none in cc)
    | inr other ↦ not_own actor before e after (rw other.0 at none) by
  ]

  -- all calls stand in front of the bye
  pub all_called : (commands : List (Command E)) (actor : Actor) (seen before after : List (Entry T P E R O J B))
      → seen ≡ before ++ bye_of actor ∷ after → calls_in (entries_of actor before) ≡ commands → entries_of actor after ≡ [] → calls_in (entries_of actor seen) ≡ commands
  all_called commands actor seen before after is called none =
      let entries : entries_of actor seen ≡ entries_of actor before ++ bye_of actor ∷ [] =
      ap (entries_of actor) is ∙ entries_append actor before (bye_of actor ∷ after)
      ∙ ap (λ l. entries_of actor before ++ l) (own_first actor (bye_of actor) after refl ∙ ap (λ l. bye_of actor ∷ l) none) in
      ap calls_in entries ∙ calls_append (entries_of actor before) (bye_of actor ∷ []) ∙ append-nil (calls_in (entries_of actor before)) ∙ called

  -- no entry has the number
  abbrev pub HasNoneOf : ℕ → List (Entry T P E R O J B) → Type 0
  HasNoneOf n [] = Unit {0}
  HasNoneOf n (e ∷ es) = (number_in e ≢ n) × HasNoneOf n es

  pub none_of : (actor : Actor) (es : List (Entry T P E R O J B)) → entries_of actor es ≡ [] → HasNoneOf (number_of actor) es
  none_of actor [] none = tt
  none_of actor (e ∷ es) none = elim (eqb_tells (number_in e) (number_of actor)) [
    | inl same ↦ absurd (let f : e ∷ entries_of actor es ≡ [] = rw same.0 at none in cc)
    | inr other ↦ (other.1, none_of actor es (rw other.0 at none))
  ]

  module _ (m : Meaning P E R O) where
    -- who makes a step is an actor
    pub actor_of_step : (st : Machine P) (a : Actor) (w : What T P E R O J B) → Allows m st a w → IsActor a
    actor_of_step st (Session i) (Call c reply) may = (may.0.from_1, may.0.to_16)
    actor_of_step st (Worker k) (Call c reply) may = absurd may
    actor_of_step st a (Start slot epoch) may = may.actor_is
    actor_of_step st a (Finish slot epoch) may = may.actor_is
    actor_of_step st a (Late slot since now) may = may.actor_is
    actor_of_step st (Session i) Bye may = (may.from_1, may.to_16)
    actor_of_step st (Worker k) Bye may = absurd may

    -- the step of an entry in a run
    pub step_at : (st : Machine P) (before : List (Entry T P E R O J B)) (e : Entry T P E R O J B) (after : List (Entry T P E R O J B))
        → IsRunFrom m st (before ++ e ∷ after) → Allows m (replay_from m st before) e.actor e.what
    step_at st before e after run = (run_split m st before (e ∷ after) run).1.0
