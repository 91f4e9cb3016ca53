-- The commands of a session that is alone.
use Rattle.std.specs.Prelude.{ℕ, ◌==◌, if◌then◌else◌, List, []}
use Rattle.pl_machine.specs.declared.entry.Command.{Command}
use Rattle.pl_machine.specs.declared.entry.Command.TheVariants.{After}

-- session 1 has these commands, and no other session has one
abbrev pub first_alone : {E : Type 0} → List (Command E) → ℕ → List (Command E)
first_alone commands i = if i == 1 then commands else []

-- the command does not wait for a session's calls
abbrev pub WaitsForNobody : {E : Type 0} → Command E → Type 0
WaitsForNobody (After session calls) = ⊥
WaitsForNobody command = Unit {0}
