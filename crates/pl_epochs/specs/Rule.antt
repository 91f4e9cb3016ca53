-- The rule of the table of epochs.
-- Each word is the writer's count of its slot. Each number in a reader's view, in a note's, and in a note that was joined into
-- the writer, is at most the word of its slot. A spent view is excepted.
use Rattle.std.specs.Prelude.{◌≡◌, ℕ, ◌≤◌, List, [], length, replicate, slice_index}
use mathlib.Core.Option.{some}
use lib.ListN.{get_elem?}
use Rattle.atomic_table.specs.Table.{State}
use Rattle.pl_epochs.specs.declared.view.View.{View}
use Rattle.pl_epochs.specs.declared.view.View.TheVariants.{Writes, Reads, Spent}

-- the words of a new table
abbrev pub zeros : List ℕ
zeros = replicate 100 0

-- the writer's view of a new table
abbrev pub opening_view : View
opening_view = Writes zeros []

-- the writer's count of each slot
abbrev pub counts_of : View → List ℕ
counts_of (Writes counts notes) = counts
counts_of _ = []

-- the notes that were joined into the writer
abbrev pub notes_of : View → List (List ℕ)
notes_of (Writes counts notes) = notes
notes_of _ = []

-- the number of each slot that a reader has read last
abbrev pub numbers_of : View → List ℕ
numbers_of (Reads numbers) = numbers
numbers_of _ = []

-- each number is at most the word of its slot
abbrev pub AtMost : List ℕ → List ℕ → Type 0
AtMost numbers words = (slot : ℕ) → slice_index numbers slot ≤ slice_index words slot

-- and so is each number in each note
abbrev pub AllAtMost : List (List ℕ) → List ℕ → Type 0
AllAtMost notes words = (k : ℕ) (numbers : List ℕ) → get_elem? notes k ≡ some numbers → AtMost numbers words

-- what a view at a seat knows is so; only the view at the writer's seat writes
abbrev pub Knows : ℕ → List ℕ → ℕ → View → Type 0
Knows writer words seat (Writes counts notes) = (seat ≡ writer) × (counts ≡ words) × AllAtMost notes words
Knows writer words seat (Reads numbers) = AtMost numbers words
Knows writer words seat Spent = Unit {0}

-- the rule: there are a hundred words, and what each view knows is so
pub record Counted (s : State ℕ View) : Type 0 where
  pub writer : ℕ
  pub wide : length s.words ≡ 100
  pub each : (seat : ℕ) (v : View) → get_elem? s.views seat ≡ some v → Knows writer s.words seat v
