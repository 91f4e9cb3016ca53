-- What holds at each option of a map, and stays so.
use Rattle.std.proofs.Common.{◌≡◌, inl, inr, Option, Some, None, Result, Ok, Err, OnOk, OnErr, ap, subst, sym, ◌∙◌}
use Rattle.std.specs.FinMap as map
use Rattle.std.specs.FinMap.{get-empty}
use Rattle.std.specs.Option.{IfSome, IsSomeAnd}
use Rattle.pl_keys.specs.declared.key.Key.{Key}
use Rattle.pl_keys.specs.declared.value.Value.{Value}
use Rattle.pl_units.specs.declared.NoMemory.{NoMemory}
use Rattle.pl_options.specs.KeyMap.{KeyMap, key_cmp}
use Rattle.pl_options.proofs.KeyMaps.{insert_here, insert_apart, remove_here, remove_apart, one_or_other}

abbrev pub Each : (Key → Option Value → Type 0) → KeyMap → Type 0
Each P m = (q : Key) → P q (map.get m q)

pub each_empty : (P : Key → Option Value → Type 0) → ((q : Key) → P q None) → Each P map.empty
each_empty P h q = subst (P q) (sym (get-empty key_cmp q)) (h q)

pub each_put : (P : Key → Option Value → Type 0) (m : KeyMap) (key : Key) (value : Value) → Each P m → P key (Some value) → Each P (map.insert m key value)
each_put P m key value h new q =
    elim (one_or_other q key) [
      | inl same ↦ subst (λ k. P k (map.get (map.insert m key value) k)) (sym same) (subst (P key) (sym (insert_here m key value)) new)
      | inr other ↦ subst (P q) (sym (insert_apart m key value q other)) (h q)
    ]

pub each_removed : (P : Key → Option Value → Type 0) (m : KeyMap) (key : Key) → Each P m → P key None → Each P (map.remove m key)
each_removed P m key h none q =
    elim (one_or_other q key) [
      | inl same ↦ subst (λ k. P k (map.get (map.remove m key) k)) (sym same) (subst (P key) (sym (remove_here m key)) none)
      | inr other ↦ subst (P q) (sym (remove_apart m key q other)) (h q)
    ]

-- a value that is there meets what holds of it
pub is_there : (P : Value → Type 0) (o : Option Value) (value : Value) → o ≡ Some value → IfSome o P → IsSomeAnd o P
is_there P o value e h = subst (λ v. IsSomeAnd v P) (sym e) (subst (λ v. IfSome v P) e h)

-- the same after a call that puts a value or changes nothing
pub each_tried : (P : Key → Option Value → Type 0) (old new : KeyMap) (key : Key) (value : Value) (r : Result (Unit {0}) NoMemory) → OnOk r (new ≡ map.insert old key value) → OnErr r (new ≡ old) → Each P old → P key (Some value) → Each P new
each_tried P old new key value (Ok _) put same h new_value = subst (Each P) (sym put) (each_put P old key value h new_value)
each_tried P old new key value (Err _) put same h new_value = subst (Each P) (sym same) h

pub others_stay : (old new : KeyMap) (key : Key) (value : Value) (q : Key) (r : Result (Unit {0}) NoMemory) → OnOk r (new ≡ map.insert old key value) → OnErr r (new ≡ old) → (q ≡ key → ⊥) → map.get new q ≡ map.get old q
others_stay old new key value q (Ok _) put same apart = ap (λ m. map.get m q) put ∙ insert_apart old key value q apart
others_stay old new key value q (Err _) put same apart = ap (λ m. map.get m q) same

pub value_stands : (old new : KeyMap) (key : Key) (value : Value) (r : Result (Unit {0}) NoMemory) → OnOk r (new ≡ map.insert old key value) → OnOk r (map.get new key ≡ Some value)
value_stands old new key value (Ok _) put = ap (λ m. map.get m key) put ∙ insert_here old key value
value_stands old new key value (Err _) put = tt
