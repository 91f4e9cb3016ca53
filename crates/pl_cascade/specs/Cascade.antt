-- The cascade: what an invalid step takes with it.
use Rattle.std.specs.Prelude.{◌≡◌, ℕ, ◌==◌, Bool, true, ◌&&◌, ◌||◌, if◌then◌else◌, List, [], ◌∷◌}
use Rattle.std.specs.List.{list_any, range_with_len}
use Rattle.pl_keys.specs.Steps as steps
use Rattle.pl_cascade.specs.Slots.{is_object_slot, place_of, step_of, is_one_of}

-- the steps of the same object that a step takes
abbrev pub takes_here : ℕ → List ℕ
takes_here step =
    if step == steps.slice then steps.perimeters ∷ steps.prepare ∷ steps.infill ∷ steps.ironing ∷ steps.support ∷ []
    else if step == steps.perimeters then steps.prepare ∷ steps.infill ∷ steps.ironing ∷ []
    else if step == steps.prepare then steps.infill ∷ steps.ironing ∷ []
    else if step == steps.infill then steps.ironing ∷ []
    else []

-- the steps of the print that a step takes
abbrev pub takes_in_print : ℕ → List ℕ
takes_in_print step =
    if (step == steps.slice) || ((step == steps.perimeters) || ((step == steps.infill) || (step == steps.support))) then steps.tower ∷ steps.skirt ∷ steps.brim ∷ steps.export ∷ []
    else if (step == steps.prepare) || (step == steps.ironing) then steps.tower ∷ steps.export ∷ []
    else if (step == steps.tower) || (step == steps.brim) then steps.export ∷ []
    else if step == steps.skirt then steps.brim ∷ steps.export ∷ []
    else []

-- one slot takes the other
abbrev pub takes : ℕ → ℕ → Bool
takes slot taken =
    if is_object_slot taken
    then is_object_slot slot && ((place_of slot == place_of taken) && is_one_of (takes_here (step_of slot)) (step_of taken))
    else is_one_of (takes_in_print (step_of slot)) (step_of taken)

-- the least set that has all of a set, and all that its members take
pub record IsClosure (set closed : ℕ → Bool) : Type 0 where
  pub all : (slot : ℕ) → set slot ≡ true → closed slot ≡ true
  pub taken : (slot taken : ℕ) → closed slot ≡ true → takes slot taken ≡ true → closed taken ≡ true
  pub least : (other : ℕ → Bool) → ((slot : ℕ) → set slot ≡ true → other slot ≡ true) → ((slot taken : ℕ) → other slot ≡ true → takes slot taken ≡ true → other taken ≡ true) → (slot : ℕ) → closed slot ≡ true → other slot ≡ true

-- a set and what its members take
unfoldable pub with_taken : (ℕ → Bool) → ℕ → Bool
with_taken set slot = set slot || list_any (λ member. set member && takes member slot) (range_with_len 0 100)

-- what members take takes no more than one step further, so the closure is there after two steps
abbrev pub closure_of : (ℕ → Bool) → ℕ → Bool
closure_of set = with_taken (with_taken set)
