-- The rule of the table of a lock.
-- Word 0 is the next ticket, word 1 the ticket that is served. The one slot holds the value, or None while a turn has it out.
use Rattle.std.specs.Prelude.{◌≡◌, ◌≢◌, ℕ, ◌+◌, ◌<◌, ◌≤◌, true, List, [], ◌∷◌, Option, Some, All}
use mathlib.Core.Option.{some, none}
use mathlib.Core.Option as maybe
use lib.ListN.{get_elem?}
use Rattle.atomic_table.specs.Table.{State}
use Rattle.pl_turn.specs.declared.view.Joined.{Joined}
use Rattle.pl_turn.specs.declared.view.Stage.{Stage}
use Rattle.pl_turn.specs.declared.view.Stage.TheVariants.{Idle, Waits, Has}
use Rattle.pl_turn.specs.declared.view.View.{View}
use Rattle.pl_turn.specs.History.{made_by, FitsHistory, NumbersDiffer}

-- the view of the first pass, of a lock with this home
abbrev pub opening_view : {E H : Type 0} → H → View E H
opening_view h = record { live = true; number = 1; seen = []; own = []; splits = 0; home = Some h; stage = Idle; joined = [] }

-- the number was not given to any pass yet: it is 0, or too large for so many splits
abbrev pub IsNotGiven : ℕ → ℕ → Type 0
IsNotGiven splits n = 1 ≤ n → splits + 1 < n

module _ {E : Type 0} where
  -- a seat that is so far has no turn
  abbrev pub HasNoTurn : Stage E → Type 0
  HasNoTurn (Has t found) = ⊥
  HasNoTurn _ = Unit {0}

  -- a ticket that was drawn and not yet served is at the seat that `drawn` names;
  -- who has the turn has the ticket that is served, and found the whole history
  abbrev pub StageStands : List E → ℕ → ℕ → (ℕ → ℕ) → ℕ → Stage E → Type 0
  StageStands log ticket serving drawn seat Idle = Unit {0}
  StageStands log ticket serving drawn seat (Waits t) = (serving ≤ t) × (t < ticket) × (drawn t ≡ seat)
  StageStands log ticket serving drawn seat (Has t found) = (t ≡ serving) × (t < ticket) × (drawn t ≡ seat) × (found ≡ log)

  -- a seat that is so far has this ticket
  abbrev pub HasTicket : ℕ → Stage E → Type 0
  HasTicket t Idle = ⊥
  HasTicket t (Waits u) = u ≡ t
  HasTicket t (Has u found) = u ≡ t

module _ {E : Type 0} (seat : ℕ → maybe.Option ℕ) where
  -- the number of a pass that was joined into one at this seat, of this number, is at that seat too;
  -- it is another number, and not the first pass's
  abbrev pub IsJoinedAt : ℕ → ℕ → Joined E → Type 0
  IsJoinedAt at number j = (seat j.number ≡ some at) × (j.number ≢ number) × (j.number ≢ 1)

-- a live view is in order where it fits the history, and what it has seen of it; its number and those of the passes that
-- were joined into it differ, and are at its seat; it knows the home, and, for the first pass, how many were split off
pub record IsInOrder {E H : Type 0} (caller : E → ℕ) (log : List E) (ticket serving splits : ℕ) (there : H) (seat : ℕ → maybe.Option ℕ) (drawn : ℕ → ℕ) (at : ℕ) (v : View E H) : Type 0 where
  pub fits : FitsHistory caller v log
  pub fits_seen : FitsHistory caller v v.seen
  pub seated : seat v.number ≡ some at
  pub home : v.home ≡ Some there
  pub first : v.number ≡ 1 → v.splits ≡ splits
  pub stage : StageStands log ticket serving drawn at v.stage
  pub joined : All (IsJoinedAt seat at v.number) v.joined
  pub differ : NumbersDiffer v.joined

-- the ticket is in the view at this place
abbrev pub IsOut : {E H : Type 0} → List (View E H) → ℕ → ℕ → Type 0
IsOut {E} {H} views t at = (v : View E H) × (get_elem? views at ≡ some v) × (v.live ≡ true) × HasTicket t v.stage

module _ {X E H : Type 0} (history : X → List E) (home : X → H) (caller : E → ℕ) where
  -- the one slot is not held, and has a value with this history and this home
  abbrev pub AtHome : List E → H → List (maybe.Option (Option X)) → Type 0
  AtHome log there homes = (x : X) × (homes ≡ some (Some x) ∷ []) × (history x ≡ log) × (home x ≡ there)

  -- the rule: `log` is the whole history; `seat` says at which seat a number is, if it was given, with a live pass or one that
  -- was joined into it; `drawn` says at which seat a ticket is. A number that was not given has no entry. The tickets from
  -- `serving` to below `ticket` are each at a seat. Each live view is in order. While none has the turn, the value is at home
  pub record Turning (there : H) (s : State (Option X) (View E H)) : Type 0 where
    pub log : List E
    pub ticket : ℕ
    pub serving : ℕ
    pub splits : ℕ
    pub seat : ℕ → maybe.Option ℕ
    pub drawn : ℕ → ℕ
    pub words : s.words ≡ ticket ∷ serving ∷ []
    pub order : serving ≤ ticket
    pub unborn : (n : ℕ) → IsNotGiven splits n → (seat n ≡ none) × (made_by caller n log ≡ [])
    pub out : (t : ℕ) → serving ≤ t → t < ticket → IsOut s.views t (drawn t)
    pub each : (at : ℕ) (v : View E H) → get_elem? s.views at ≡ some v → v.live ≡ true → IsInOrder caller log ticket serving splits there seat drawn at v
    pub rest : ((at : ℕ) (v : View E H) → get_elem? s.views at ≡ some v → v.live ≡ true → HasNoTurn v.stage) → AtHome log there s.homes
