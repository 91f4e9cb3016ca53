-- What each step on the table of a lock tells the seat that makes it.
use Rattle.std.specs.Prelude.{◌≡◌, ◌≢◌, ℕ, ◌+◌, true, false, List, [], ◌∷◌, ◌++◌, Option, Some, None, length, ltb, if◌then◌else◌}
use Rattle.atomic_table.specs.Table.{Me, Step}
use Rattle.pl_turn.specs.declared.view.Joined.{Joined}
use Rattle.pl_turn.specs.declared.view.Stage.TheVariants.{Idle, Waits, Has}
use Rattle.pl_turn.specs.declared.view.View.{View}
use Rattle.pl_turn.specs.History.{made_by, FitsHistory, NumbersDiffer}

-- what a seat knows, and the slots that it holds
abbrev Holds : Type 0 → Type 0 → Type 0 → Type 0
Holds X E H = Me (Option X) (View E H)

module _ {X E H : Type 0} where
  -- a ticket is drawn where the word was the one expected, and else nothing is
  abbrev pub drawn_by : Step (Option X) → Holds X E H → ℕ → Holds X E H → Type 0
  drawn_by st m found m' = (found ≡ st.first → m' ≡ (record m.0 { stage = Waits found }, m.1)) × (found ≢ st.first → m' ≡ m)

  -- the seat has the turn and the slot with a value; the home is the one that it knew, and it fits the value's history
  abbrev pub HasFound : (X → List E) → (X → H) → (E → ℕ) → ℕ → Holds X E H → Holds X E H → Type 0
  HasFound history home caller t m m' = (x : X)
      × (m' ≡ (record m.0 { stage = Has t (history x) }, (0, Some x) ∷ m.1))
      × (m.0.home ≡ Some (home x)) × FitsHistory caller m.0 (history x)

  -- where the ticket is served the seat takes the slot, and else nothing changes
  abbrev pub looked : (X → List E) → (X → H) → (E → ℕ) → Step (Option X) → Holds X E H → ℕ → Holds X E H → Type 0
  looked history home caller st m found m' = (t : ℕ) → m.0.stage ≡ Waits t → (found ≡ t → HasFound history home caller t m m') × (found ≢ t → m' ≡ m)

  -- nothing changes; the entries that the seat knows stand in what it has seen, and the passes that were joined have numbers that differ
  abbrev pub confirmed : (E → ℕ) → Step (Option X) → Holds X E H → ℕ → Holds X E H → Type 0
  confirmed caller st m found m' = (m' ≡ m) × FitsHistory caller m.0 m.0.seen × NumbersDiffer m.0.joined

  -- a turn's view once it has given the value back
  abbrev pub after : (X → List E) → (E → ℕ) → View E H → X → View E H
  after history caller v x = record v { seen = history x; own = made_by caller v.number (history x); stage = Idle }

  -- the value is given back, and the seat has seen its whole history
  abbrev pub ended : (X → List E) → (E → ℕ) → Step (Option X) → Holds X E H → ℕ → Holds X E H → Type 0
  ended history caller st m n m' = (x : X) → m.1 ≡ (0, Some x) ∷ [] → (m' ≡ (after history caller m.0 x, [])) × FitsHistory caller (after history caller m.0 x) (history x)

-- the longer of two lists, the first where they are as long
abbrev pub longer : {E : Type 0} → List E → List E → List E
longer xs ys = if ltb (length xs) (length ys) then ys else xs

module _ {E H : Type 0} where
  -- the first pass after a split: it has given one number more
  abbrev pub with_split : View E H → View E H
  with_split v = record v { splits = v.splits + 1 }

  -- the pass that was split off: it has seen what the first one has, and has the next number and no entries
  abbrev pub newborn : View E H → View E H
  newborn v = record { live = true; number = v.splits + 2; seen = v.seen; own = []; splits = 0; home = v.home; stage = Idle; joined = [] }

  -- what is left of a pass that was joined into another
  abbrev pub spent_view : View E H
  spent_view = record { live = false; number = 0; seen = []; own = []; splits = 0; home = None; stage = Idle; joined = [] }

  -- what is kept of it; `found` is what the other had seen
  abbrev pub joined_of : List E → View E H → Joined E
  joined_of found v = record { number = v.number; own = v.own; seen = v.seen; found = found }

  -- a pass into which another was joined
  abbrev pub with_joined : View E H → View E H → View E H
  with_joined v w = record v { seen = longer v.seen w.seen; joined = v.joined ++ joined_of v.seen w ∷ w.joined }
