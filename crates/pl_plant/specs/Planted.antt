-- What a plant is, and when it stands for its journal.
use Rattle.std.specs.Prelude.{◌≡◌, ◌≢◌, ℕ, ◌<◌, Bool, List}
use Rattle.std.specs.Prelude.{Option, None, Some}
use Rattle.pl_tech.specs.Technology.{Meaning}
use Rattle.pl_tech.specs.Kept.{kept_at}
use Rattle.pl_machine.specs.declared.entry.Entry.{Entry}
use Rattle.pl_machine.specs.declared.entry.Mode.TheVariants.{Done}
use Rattle.pl_machine.specs.Machine.{Machine, mode_of}
use Rattle.pl_machine.specs.History.{replay, IsLegal}
use Rattle.pl_epochs.specs.declared.seats.TableName.{TableName}

pub record Planted (T P E R O J B : Type 0) : Type 0 where
  pub state : Machine P
  pub journal : List (Entry T P E R O J B)
  -- what is kept for each slot
  pub kept : List (Option O)
  -- how many entries fit without memory
  pub spare : ℕ
  -- the table whose words its epochs are
  pub home : TableName
  -- whether nobody is to go on
  pub closed_down : Bool

-- the journal is a legal history, the state is that after it, what is kept are the values of the slots that are Done, and the
-- writer's counts are the epochs
pub record StandsFor {T P E R O J B : Type 0} (m : Meaning P E R O) (state : Machine P) (journal : List (Entry T P E R O J B)) (kept : List (Option O)) (counts : List ℕ) : Type 0 where
  pub legal : IsLegal m journal
  pub replayed : state ≡ replay m journal
  pub keeps : (k : ℕ) → k < 100 → mode_of state k ≡ Done → kept_at kept k ≡ Some (m.value state.applied k)
  pub keeps_no_other : (k : ℕ) → k < 100 → mode_of state k ≢ Done → kept_at kept k ≡ None
  pub counted : counts ≡ state.epochs

-- of a plant as callers see it
abbrev pub Stands : {T P E R O J B : Type 0} → Meaning P E R O → Planted T P E R O J B → Type 0
Stands m p = StandsFor m p.state p.journal p.kept p.state.epochs
