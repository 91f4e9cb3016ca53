-- When a start that is not closed stands in a history.
use Rattle.std.specs.Prelude.{◌≡◌, ◌≢◌, ℕ, ◌+◌, Bool, true, false, List, [], ◌∷◌, ◌++◌}
use Rattle.pl_tech.specs.Technology.{Meaning}
use Rattle.pl_ports.specs.declared.gate.Actor.{Actor}
use Rattle.pl_ports.specs.declared.gate.Actor.TheVariants.{Session, Worker}
use Rattle.pl_machine.specs.declared.entry.What.{What}
use Rattle.pl_machine.specs.declared.entry.What.TheVariants.{Call, Start, Finish, Late, Bye}
use Rattle.pl_machine.specs.declared.entry.Entry.{Entry}
use Rattle.pl_machine.specs.History.{replay}

module _ {T P E R O J B : Type 0} where
  -- a done or a late entry
  abbrev pub closes : What T P E R O J B → Bool
  closes (Call command reply) = false
  closes (Start slot epoch) = false
  closes (Finish slot epoch) = true
  closes (Late slot since now) = true
  closes Bye = false

  -- none of these entries is a done or a late one of the actor
  abbrev pub HasNotClosed : Actor → List (Entry T P E R O J B) → Type 0
  HasNotClosed actor [] = Unit {0}
  HasNotClosed actor (e ∷ es) = (e.actor ≡ actor → closes e.what ≡ false) × HasNotClosed actor es

  -- none of these entries is the actor's
  abbrev pub HasNoneBy : Actor → List (Entry T P E R O J B) → Type 0
  HasNoneBy actor [] = Unit {0}
  HasNoneBy actor (e ∷ es) = (e.actor ≢ actor) × HasNoneBy actor es

  abbrev pub start_of : Actor → ℕ → ℕ → Entry T P E R O J B
  start_of actor slot epoch = record { actor = actor; what = Start slot epoch }

  -- the history has a start of the actor that it has not closed since, and the value is the slot's for the plate applied after it
  pub record StandsIn (m : Meaning P E R O) (history : List (Entry T P E R O J B)) (actor : Actor) (slot epoch : ℕ) (value : O) : Type 0 where
    pub before : List (Entry T P E R O J B)
    pub rest : List (Entry T P E R O J B)
    pub split : history ≡ (before ++ start_of actor slot epoch ∷ []) ++ rest
    pub unclosed : HasNotClosed actor rest
    pub value_is : value ≡ m.value (replay m (before ++ start_of actor slot epoch ∷ [])).applied slot

-- the number of an actor's entries
abbrev pub number_of : Actor → ℕ
number_of (Session i) = i
number_of (Worker k) = 16 + k
