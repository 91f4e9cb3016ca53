-- The words that the program takes.
use Rattle.std.specs.Prelude.{ℕ, if◌then◌else◌, List, [], ◌∷◌, Option, Some, None, IfSome, IsSome, ◌⊎◌, codes, String, string_bytes}
use Rattle.std.specs.Global.{Global}
use Rattle.std.specs.Str.{bytes_eq}
use Rattle.pl_script.specs.Forms.{whole_of}
use Rattle.pl_plater.specs.declared.words.Task.{Task}
use Rattle.pl_plater.specs.declared.words.Task.TheVariants.{Run, Slice}

-- what one word asks for
abbrev pub task_named : List ℕ → Option Task
task_named word = if bytes_eq word (codes "run") then Some Run else (if bytes_eq word (codes "slice") then Some Slice else None)

-- the command with an input that the words ask for
abbrev pub task_of : List (String Global) → Option Task
task_of (word ∷ []) = task_named (string_bytes word)
task_of _ = None

-- the number of the demo that a word and a number ask for: from 0 to 999 in decimal, without leading zeros
abbrev pub demo_named : List ℕ → List ℕ → Option ℕ
demo_named word number = if bytes_eq word (codes "demo") then whole_of 999 number else None

-- the number of the demo that the words ask for
abbrev pub demo_of : List (String Global) → Option ℕ
demo_of (word ∷ number ∷ []) = demo_named (string_bytes word) (string_bytes number)
demo_of _ = None

-- the words ask for something
abbrev pub IsTaken : List (String Global) → Type 0
IsTaken words = IsSome (task_of words) ⊎ IsSome (demo_of words)

-- what holds of the command that the words ask for, if they ask for one
abbrev pub OnTask : List (String Global) → (Task → Type 0) → Type 0
OnTask words P = IfSome (task_of words) P

-- what holds of the number of the demo that the words ask for, if they ask for one
abbrev pub OnDemo : List (String Global) → (ℕ → Type 0) → Type 0
OnDemo words P = IfSome (demo_of words) P
