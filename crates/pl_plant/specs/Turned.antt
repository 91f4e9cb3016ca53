-- How the journal of a plant grows in a turn.
use Rattle.std.specs.Prelude.{◌≡◌, ℕ, List, [], ◌∷◌, ◌++◌}
use Rattle.pl_machine.specs.declared.entry.Entry.{Entry}
use Rattle.pl_machine.specs.Tickets.{number_of}

-- the new journal is the old one and one more entry, of this number
abbrev pub GrewBy : {T P E R O J B : Type 0} → ℕ → List (Entry T P E R O J B) → List (Entry T P E R O J B) → Type 0
GrewBy {T} {P} {E} {R} {O} {J} {B} number old new = (e : Entry T P E R O J B) × (new ≡ old ++ e ∷ []) × (number_of e.actor ≡ number)
