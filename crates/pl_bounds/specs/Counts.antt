-- How often things happen in a history.
use Rattle.std.specs.Prelude.{◌≡◌, ℕ, zero, suc, ◌+◌, ◌==◌, ◌&&◌, ◌⊎◌, Bool, true, false, List, [], ◌∷◌, ◌++◌, length, count_by}
use Rattle.pl_tech.specs.Technology.{Meaning}
use Rattle.pl_machine.specs.declared.entry.Command.{Command}
use Rattle.pl_machine.specs.declared.entry.Command.TheVariants.{Edit, Apply, Export, Status, Cancel, After}
use Rattle.pl_machine.specs.declared.entry.What.{What}
use Rattle.pl_machine.specs.declared.entry.What.TheVariants.{Call, Start, Finish, Late, Bye}
use Rattle.pl_machine.specs.declared.entry.Entry.{Entry}
use Rattle.pl_machine.specs.Machine.{epoch_of}
use Rattle.pl_machine.specs.History.{replay}

module _ {E : Type 0} where
  -- an apply or a cancel: the commands by which epochs may rise
  abbrev pub changes : Command E → Bool
  changes (Edit e) = false
  changes Apply = true
  changes Export = false
  changes Status = false
  changes Cancel = true
  changes (After session calls) = false

  -- how many commands sessions 1 to n have
  abbrev pub commands_to : (ℕ → List (Command E)) → ℕ → ℕ
  commands_to commands zero = 0
  commands_to commands (suc n) = commands_to commands n + length (commands (suc n))

module _ {T P E R O J B : Type 0} where
  -- the start of this slot at this epoch
  abbrev pub is_start_at : ℕ → ℕ → What T P E R O J B → Bool
  is_start_at slot epoch (Call command reply) = false
  is_start_at slot epoch (Start s e) = (s == slot) && (e == epoch)
  is_start_at slot epoch (Finish s e) = false
  is_start_at slot epoch (Late s since now) = false
  is_start_at slot epoch Bye = false

  -- a call of apply or of cancel
  abbrev pub is_change : What T P E R O J B → Bool
  is_change (Call command reply) = changes command
  is_change (Start slot epoch) = false
  is_change (Finish slot epoch) = false
  is_change (Late slot since now) = false
  is_change Bye = false

  -- how often a slot is started at an epoch
  abbrev pub starts_at : ℕ → ℕ → List (Entry T P E R O J B) → ℕ
  starts_at slot epoch history = count_by (λ e. is_start_at slot epoch e.what) history

  -- how many entries are calls of apply or of cancel
  abbrev pub changes_in : List (Entry T P E R O J B) → ℕ
  changes_in history = count_by (λ e. is_change e.what) history

  -- of an entry and the history before it: the slot's epoch stays, or it rises by one at a call of apply or of cancel
  abbrev pub RisesByChange : Meaning P E R O → ℕ → List (Entry T P E R O J B) → Entry T P E R O J B → Type 0
  RisesByChange m slot before e =
      (epoch_of (replay m (before ++ e ∷ [])) slot ≡ epoch_of (replay m before) slot)
      ⊎ ((is_change e.what ≡ true) × (epoch_of (replay m (before ++ e ∷ [])) slot ≡ epoch_of (replay m before) slot + 1))

  -- a call of whatever command
  abbrev pub is_call : What T P E R O J B → Bool
  is_call (Call command reply) = true
  is_call (Start slot epoch) = false
  is_call (Finish slot epoch) = false
  is_call (Late slot since now) = false
  is_call Bye = false

  -- how many entries are calls
  abbrev pub calls_in : List (Entry T P E R O J B) → ℕ
  calls_in history = count_by (λ e. is_call e.what) history
