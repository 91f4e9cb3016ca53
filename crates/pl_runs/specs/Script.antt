-- Scripts: the commands of each session.
use Rattle.std.specs.Prelude.{ℕ, zero, suc, ◌≤◌, ◌-◌, ◌^◌, List, [], All, get_or, length}
use Rattle.pl_machine.specs.declared.entry.Command.{Command}
use Rattle.pl_machine.specs.Calls.{NamesSession}

-- the commands of session i are those of item i - 1, none where there is no such item
abbrev pub commands_at : {E : Type 0} → List (List (Command E)) → ℕ → List (Command E)
commands_at given zero = []
commands_at given (suc i) = get_or given i []

-- commands that one session may call: not too many to count, and each that waits is for a session from 1 to 16
abbrev pub IsCallable : {E : Type 0} → List (Command E) → Type 0
IsCallable commands = (length commands ≤ 2 ^ 32 - 1) × All NamesSession commands
