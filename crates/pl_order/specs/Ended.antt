-- When a runner has ended, and when a history was made by runners that have.
use Rattle.std.specs.Prelude.{◌≡◌, ◌≢◌, ℕ, ◌≤◌, List, [], All, AllPairs, Any}
use Rattle.std.specs.Prelude.{None}
use mathlib.Core.List.{IsPrefix}
use Rattle.pl_tech.specs.Technology.{Meaning}
use Rattle.pl_ports.specs.declared.gate.Actor.{Actor}
use Rattle.pl_ports.specs.declared.gate.Actor.TheVariants.{Session, Worker}
use Rattle.pl_machine.specs.declared.entry.Command.{Command}
use Rattle.pl_machine.specs.declared.entry.Entry.{Entry}
use Rattle.pl_machine.specs.History.{IsLegal}
use Rattle.pl_machine.specs.Tickets.{number_of}
use Rattle.pl_session.specs.Complete.{runs_of, TakesPart}
use Rattle.pl_order.specs.Order.{number_in, entries_of, HasSaidBye, IsInOrder}

-- the commands of an actor: a session has its own, a worker none
abbrev pub commands_for : {E : Type 0} → (ℕ → List (Command E)) → Actor → List (Command E)
commands_for commands (Session i) = commands i
commands_for commands (Worker k) = []

-- what is left of a runner: its actor, what it has seen, and how many jobs its bench has run
pub record Ended (T P E R O J B : Type 0) : Type 0 where
  pub actor : Actor
  pub seen : List (Entry T P E R O J B)
  pub runs : ℕ

-- a runner has ended in order, without work, in this history
pub record HasEnded {T P E R O J B : Type 0} (m : Meaning P E R O) (commands : ℕ → List (Command E)) (history : List (Entry T P E R O J B)) (r : Ended T P E R O J B) : Type 0 where
  pub order : IsInOrder m (commands_for commands r.actor) r.actor r.seen None
  pub seen_is : IsPrefix r.seen history
  -- it has made no entry that it has not seen
  pub own : entries_of r.actor history ≡ entries_of r.actor r.seen
  -- each of its starts was run
  pub runs : r.runs ≡ runs_of (entries_of r.actor r.seen)
  pub bye : HasSaidBye r.actor r.seen

-- the history was made by these runners, which have all ended in order
pub record IsMadeBy {T P E R O J B : Type 0} (m : Meaning P E R O) (commands : ℕ → List (Command E)) (workers : ℕ) (runners : List (Ended T P E R O J B)) (history : List (Entry T P E R O J B)) : Type 0 where
  pub legal : IsLegal m history
  pub ended : All (HasEnded m commands history) runners
  pub part : All (λ r. TakesPart commands workers r.actor) runners
  -- no two of them have one actor
  pub different : AllPairs (λ r other. r.actor ≢ other.actor) runners
  -- each session with a command has one
  pub sessions : (i : ℕ) → 1 ≤ i → i ≤ 16 → commands i ≢ [] → Any (λ r. r.actor ≡ Session i) runners
  -- each entry has the number of one of them
  pub entries : All (λ e. Any (λ r. number_of r.actor ≡ number_in e) runners) history
