-- A round over all options, one after another.
use Rattle.std.proofs.Common.{◌≡◌, ◌↔◌, Bool, true, false, IsTrue, MatchBool, ℕ, ◌+◌, ◌<◌, ◌≤◌, List, length, get_or, Option, Some, inl, inr, refl, sym, ap, subst, ◌∙◌, arith}
use Rattle.std.specs.List.{slice_get, AllWithin, HoldsAt}
use Rattle.std.proofs.lemmas.Bool.{cases_lt, false≢true}
use Rattle.std.proofs.lemmas.List.{get_or-map}
use Rattle.std.proofs.lemmas.List.FromFn.{get_or-range_with_len}
use Rattle.std.proofs.lemmas.Option.{slice_get_within, slice_get-get_or}
use Rattle.pl_keys.specs.declared.key.Key.{Key}
use Rattle.pl_keys.specs.declared.key.Key.TheVariants as k
use Rattle.pl_keys.specs.declared.value.Value.{Value}
use Rattle.pl_keys.specs.Keys.{keys, place}
use Rattle.std.specs.FinMap.{get}
use Rattle.pl_options.specs.KeyMap.{KeyMap}
use Rattle.pl_options.proofs.KeyMaps.{one_or_other, one_place, same_values}

Some-one : {X : Type 0} {x y : X} → Some x ≡ Some y → x ≡ y
Some-one e = cc

key_at : (key : Key) → slice_get keys (place key) ≡ Some key
key_at k.LayerHeight = refl
key_at k.FirstLayerHeight = refl
key_at k.Perimeters = refl
key_at k.TopSolidLayers = refl
key_at k.BottomSolidLayers = refl
key_at k.FillDensity = refl
key_at k.Ironing = refl
key_at k.SupportMaterial = refl
key_at k.SupportMaterialBuildplateOnly = refl
key_at k.Extruder = refl
key_at k.Skirts = refl
key_at k.SkirtDistance = refl
key_at k.SkirtHeight = refl
key_at k.BrimWidth = refl
key_at k.WipeTower = refl
key_at k.WipeTowerX = refl
key_at k.WipeTowerY = refl
key_at k.WipeTowerWidth = refl
key_at k.PerimeterSpeed = refl
key_at k.InfillSpeed = refl
key_at k.TravelSpeed = refl
key_at k.Temperature = refl
key_at k.FirstLayerTemperature = refl
key_at k.BedTemperature = refl
key_at k.FirstLayerBedTemperature = refl
key_at k.FilamentDiameter = refl
key_at k.ExtrusionMultiplier = refl
key_at k.StartGcode = refl
key_at k.EndGcode = refl
key_at k.Notes = refl

at_place : (key : Key) → get_or keys (place key) key ≡ key
at_place key = Some-one (sym (slice_get-get_or keys (place key) key (slice_get_within keys (place key) key (key_at key))) ∙ key_at key)

pub place_below : (key : Key) → place key < 30
place_below key = slice_get_within keys (place key) key (key_at key)

-- the option at a place, as the code reads it
abbrev pub at : List Key → ℕ → Key
at xs i = get_or xs i k.LayerHeight

pub place_at : (xs : List Key) (i : ℕ) → xs ≡ keys → i < length xs → place (at xs i) ≡ i
place_at xs i e lt =
    let within : i < 30 = subst (λ l. i < length l) e lt in
    ap (λ l. place (at l i)) e ∙ sym (get_or-map place keys i k.LayerHeight 0 within) ∙ get_or-range_with_len 0 30 i 0 within ∙ omega arith

-- what a round makes of m: f up to a place, and g from there on
pub record Done (m f g : Key → Option Value) (i : ℕ) : Type 0 where
  pub done : (q : Key) → place q < i → m q ≡ f q
  pub left : (q : Key) → i ≤ place q → m q ≡ g q

pub none_done : (m f g : Key → Option Value) → ((q : Key) → m q ≡ g q) → Done m f g 0
none_done m f g h = record { done = λ q lt. absurd (omega arith); left = λ q le. h q }

pub one_done : (m n f g : Key → Option Value) (xs : List Key) (i : ℕ) → xs ≡ keys → i < length xs → Done m f g i
    → n (at xs i) ≡ f (at xs i) → ((q : Key) → (q ≡ at xs i → ⊥) → n q ≡ m q) → Done n f g (i + 1)
one_done m n f g xs i e lt h here apart = record {
  done = λ q below.
      let there : place (at xs i) ≡ i = place_at xs i e lt in
      elim (one_or_other q (at xs i)) [
        | inl same ↦ subst (λ key. n key ≡ f key) (sym same) here
        | inr other ↦
            apart q other
            ∙ elim (cases_lt (place q) i) [
              | inl before ↦ h.done q before
              | inr after ↦ let same : place q ≡ i = omega arith in absurd (other (one_place q (at xs i) (same ∙ sym there)))
            ]
      ];
  left = λ q after.
      let there : place (at xs i) ≡ i = place_at xs i e lt in
      apart q (λ same. let within : place q ≡ i = ap place same ∙ there in absurd (omega arith)) ∙ h.left q (omega arith);
}

pub all_done : (m f g : Key → Option Value) (xs : List Key) (i : ℕ) → xs ≡ keys → length xs ≤ i → Done m f g i → (q : Key) → m q ≡ f q
all_done m f g xs i e le h q = h.done q (let below = place_below q in let all : 30 ≤ i = subst (λ l. length l ≤ i) e le in omega arith)

-- two maps are equal where each option answers alike, and where one does not they are not
pub all_alike : (r : Bool) (m n : KeyMap) (xs : List Key) → xs ≡ keys
    → MatchBool r (AllWithin (λ key. get m key ≡ get n key) xs 0 (length xs)) ((i : ℕ) × (i < length xs) × HoldsAt (λ key. get m key ≡ get n key → ⊥) xs i)
    → IsTrue r ↔ (m ≡ n)
all_alike true m n xs e h = (
  λ _. same_values m n (λ q.
      let alike = subst (λ l. AllWithin (λ key. get m key ≡ get n key) l 0 (length l)) e h in
      let there : get_or keys (place q) q ≡ q = at_place q in
      subst (λ key. get m key ≡ get n key) there (alike (place q) q (omega arith) (place_below q))),
  λ _. refl,
)
all_alike false m n xs e h = (λ t. absurd (false≢true t), λ same. absurd (h.2 k.LayerHeight (ap (λ v. get v (at xs h.0)) same)))
