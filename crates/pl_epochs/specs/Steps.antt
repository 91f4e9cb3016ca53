-- What each step on the table of epochs tells the seat that makes it.
use Rattle.std.specs.Prelude.{◌≡◌, ℕ, ◌+◌, ◌≤◌, ◌∷◌, slice_index, slice_set}
use Rattle.atomic_table.specs.Table.{Me, Step}
use Rattle.pl_epochs.specs.declared.view.View.{View}
use Rattle.pl_epochs.specs.declared.view.View.TheVariants.{Writes, Reads, Spent}
use Rattle.pl_epochs.specs.Rule.{zeros, counts_of, notes_of, numbers_of, AllAtMost}

-- what a seat knows, and the slots of the table that it holds, which are none
abbrev Holds : Type 0
Holds = Me ℕ View

-- a reader has read the word that was found, which is at least what it had read there
abbrev pub loaded : Step ℕ → Holds → ℕ → Holds → Type 0
loaded st m found m' = (m' ≡ (Reads (slice_set (numbers_of m.0) st.word found), m.1)) × (slice_index (numbers_of m.0) st.word ≤ found)

-- the word that was found is the writer's count, which is one more now
abbrev pub raised : Step ℕ → Holds → ℕ → Holds → Type 0
raised st m found m' = (m' ≡ (Writes (slice_set (counts_of m.0) st.word (found + 1)) (notes_of m.0), m.1)) × (found ≡ slice_index (counts_of m.0) st.word)

-- nothing changes; no number of a note that was joined is above the writer's count
abbrev pub compared : Step ℕ → Holds → ℕ → Holds → Type 0
compared st m found m' = (m' ≡ m) × AllAtMost (notes_of m.0) (counts_of m.0)

-- the view that a seat keeps where another is split off it, and the one of a reader that is split off a reader
abbrev pub itself : View → View
itself v = v

-- the view of the first reader, which has read 0 everywhere
abbrev pub new_reader : View → View
new_reader v = Reads zeros

-- the writer's view with a note that was joined into it
abbrev pub with_note : View → View → View
with_note v w = Writes (counts_of v) (numbers_of w ∷ notes_of v)

-- what is left of the note
abbrev pub spent_view : View
spent_view = Spent
