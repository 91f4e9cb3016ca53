-- Sessions that run one after another.
use Rattle.std.specs.Prelude.{◌≡◌, ◌≢◌, ℕ, zero, suc, ◌+◌, ◌<◌, ◌≤◌, List, [], ◌++◌, length, map, slice_get}
use Rattle.std.specs.Prelude.{Option, None, Some}
use Rattle.std.specs.List.{filter_map}
use Rattle.pl_machine.specs.declared.entry.Command.{Command}
use Rattle.pl_machine.specs.declared.entry.Command.TheVariants.{After}
use Rattle.pl_machine.specs.declared.entry.What.{What}
use Rattle.pl_machine.specs.declared.entry.What.TheVariants.{Call, Start, Finish, Late, Bye}
use Rattle.pl_machine.specs.declared.entry.Entry.{Entry}
use Rattle.pl_machine.specs.Machine.{session_of}

-- sessions 1 to count have commands and no other has, and each but the first begins with a wait for all calls of the one before it
pub record IsRelay {E : Type 0} (commands : ℕ → List (Command E)) (count : ℕ) : Type 0 where
  pub few : count ≤ 16
  pub some : (i : ℕ) → 1 ≤ i → i ≤ count → commands i ≢ []
  pub others : (i : ℕ) → count < i → commands i ≡ []
  pub waits : (i : ℕ) → 1 ≤ i → i < count → slice_get (commands (i + 1)) 0 ≡ Some (After i (length (commands i)))

module _ {E : Type 0} where
  -- the calls of a session that has these commands
  abbrev pub calls_by : ℕ → List (Command E) → List (ℕ × Command E)
  calls_by i commands = map (λ c. (i, c)) commands

  -- the calls of session 1, then those of session 2, up to those of the last of this many
  abbrev pub relay_calls : (ℕ → List (Command E)) → ℕ → List (ℕ × Command E)
  relay_calls commands zero = []
  relay_calls commands (suc n) = relay_calls commands n ++ calls_by (suc n) (commands (suc n))

module _ {T P E R O J B : Type 0} where
  -- the session and the command of a call
  abbrev pub call_of : ℕ → What T P E R O J B → Option (ℕ × Command E)
  call_of i (Call command reply) = Some (i, command)
  call_of i (Start slot epoch) = None
  call_of i (Finish slot epoch) = None
  call_of i (Late slot since now) = None
  call_of i Bye = None

  -- the calls of a history, in order
  abbrev pub calls_made : List (Entry T P E R O J B) → List (ℕ × Command E)
  calls_made history = filter_map (λ e. call_of (session_of e.actor) e.what) history
