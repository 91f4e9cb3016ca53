-- Options by their names.
use Rattle.std.proofs.Common.{◌≡◌, ◌≢◌, ℕ, zero, suc, Bool, true, false, cond, List, [], ◌∷◌, Option, Some, None, IfSome, IfNone, slice_get, refl, sym, ap, ◌∙◌, ◌⊎◌, inl, inr}
use Rattle.std.specs.List.{find}
use Rattle.std.specs.Str.{bytes_eq}
use Rattle.std.proofs.lemmas.Slice.Eq.{bytes_eq-Decides}
use Rattle.pl_keys.specs.declared.key.Key.{Key}
use Rattle.pl_keys.specs.declared.key.Key.TheVariants.{LayerHeight}
use Rattle.pl_keys.specs.Keys.{keys, place}
use Rattle.pl_keys.specs.Table.{row, named}

-- each option stands at its place
pub there : (key : Key) → slice_get keys (place key) ≡ Some key
there LayerHeight = refl
there _ = refl

missed : (b : Bool) (key : Key) (rest : Option Key) → cond b (Some key) rest ≡ None → (b ≡ false) × (rest ≡ None)
missed true key rest none = absurd (cc)
missed false key rest none = (refl, none)

-- where nothing is found, each element fails
all_fail : (p : Key → Bool) (xs : List Key) (k : ℕ) (key : Key) → find p xs ≡ None → slice_get xs k ≡ Some key → p key ≡ false
all_fail p [] k key none here = absurd (cc)
all_fail p (x ∷ xs) zero key none here = let no = missed (p x) x (find p xs) none in let fails : p x ≡ false = no.0 in cc
all_fail p (x ∷ xs) (suc k) key none here = all_fail p xs k key (missed (p x) x (find p xs) none).1 here

unnamed : (name : List ℕ) → named name ≡ None → (key : Key) → (row key).name ≢ name
unnamed name none key same =
    let no : bytes_eq (row key).name name ≡ false = all_fail (λ k. bytes_eq (row k).name name) keys (place key) key none (there key) in
    let yes : bytes_eq (row key).name name ≡ true = (bytes_eq-Decides (row key).name name).1 same in
    cc

pub none_unnamed : (found : Option Key) (name : List ℕ) → found ≡ named name → IfNone found ((key : Key) → (row key).name ≢ name)
none_unnamed None name none = unnamed name (sym none)
none_unnamed (Some key) name some = tt

found_passes : (b : Bool) (p : Key → Bool) (key found : Key) (rest : Option Key) → p key ≡ b → cond b (Some key) rest ≡ Some found → (p found ≡ true) ⊎ (rest ≡ Some found)
found_passes true p key found rest passes e = let same : key ≡ found = cc in inl (cc)
found_passes false p key found rest passes e = inr e

-- what is found passes
passes : (p : Key → Bool) (xs : List Key) (found : Key) → find p xs ≡ Some found → p found ≡ true
passes p [] found e = absurd (cc)
passes p (x ∷ xs) found e = elim (found_passes (p x) p x found (find p xs) refl e) [ inl here ↦ here | inr later ↦ passes p xs found later ]

pub some_named : (found : Option Key) (name : List ℕ) → found ≡ named name → IfSome found (λ key. (row key).name ≡ name)
some_named None name none = tt
some_named (Some key) name some = (bytes_eq-Decides (row key).name name).0 (passes (λ k. bytes_eq (row k).name name) keys key (sym some))

-- each option is found by its name
by_name : (key : Key) → named (row key).name ≡ Some key
by_name LayerHeight = refl
by_name _ = refl

pub only_named : (found : Option Key) (name : List ℕ) → found ≡ named name → (key : Key) → (row key).name ≡ name → found ≡ Some key
only_named found name e key same = e ∙ sym (ap named same) ∙ by_name key
