-- The filled places.
use Rattle.std.proofs.Common.{◌≡◌, ℕ, zero, suc, ◌+◌, ◌<◌, true, true≢false, List, [], ◌∷◌, length, Option, Some, None, refl, sym, ap, ◌∙◌, arith}
use Rattle.std.specs.Prelude.{Contains, is_some}
use Rattle.std.specs.List.{range_with_len}
use Rattle.std.specs.List.Sorted.{IsStrictlyIncreasing}
use Rattle.std.proofs.lemmas.List.FromFn.{length-range_with_len, get_or-range_with_len}
use Rattle.std.proofs.lemmas.List.Kept.{IsStrictlyIncreasing-filter}
use Rattle.std.proofs.lemmas.Option.{none-some, same_Some, slice_get_within, slice_get-get_or}
use Rattle.pl_model.specs.declared.object.Object.{Object}
use Rattle.pl_model.specs.Contents.{Contents}
use Rattle.pl_model.specs.Editing.{IsAt}
use Rattle.pl_model.specs.Places.{place_in}
use Rattle.pl_values.specs.PrintValues.{places_of}
use Rattle.pl_values.proofs.Members.{Contains-filter, Contains-from_filter, Contains-range}

pub IsAt-from_place_in : (places : List (Option Object)) (place : ℕ) (object : Object) → place_in places place ≡ Some object → IsAt places place object
IsAt-from_place_in [] place object is = absurd (none-some object is)
IsAt-from_place_in (other ∷ places) zero object is = ap Some is
IsAt-from_place_in (other ∷ places) (suc place) object is = IsAt-from_place_in places place object is

pub place_in-from_IsAt : (places : List (Option Object)) (place : ℕ) (object : Object) → IsAt places place object → place_in places place ≡ Some object
place_in-from_IsAt places place object there =
    same_Some _ _ (sym (slice_get-get_or places place None (slice_get_within places place (Some object) there)) ∙ there)

object_in : (there : Option Object) → is_some there ≡ true → (object : Object) × (there ≡ Some object)
object_in None h = absurd (true≢false (sym h))
object_in (Some object) h = (object, refl)

pub object_at-from_Contains : (plate : Contents) (place : ℕ) → Contains (places_of plate) place → (object : Object) × IsAt plate.places place object
object_at-from_Contains plate place c =
    let found = Contains-from_filter (λ place. is_some (place_in plate.places place)) (range_with_len 0 (length plate.places)) place c in
    let some = object_in (place_in plate.places place) found.1 in
    (some.0, IsAt-from_place_in plate.places place some.0 some.1)

pub Contains-places_of : (plate : Contents) (place : ℕ) (object : Object) → IsAt plate.places place object → Contains (places_of plate) place
Contains-places_of plate place object there =
    Contains-filter (λ place. is_some (place_in plate.places place)) (range_with_len 0 (length plate.places)) place
    (Contains-range (length plate.places) place (slice_get_within plate.places place (Some object) there))
    (ap is_some (place_in-from_IsAt plate.places place object there))

range_rises : (n : ℕ) → IsStrictlyIncreasing (range_with_len 0 n)
range_rises n k less =
    let within : k + 1 < n = omega (arith, length-range_with_len 0 n) in
    omega (arith, get_or-range_with_len 0 n k 0 (omega arith), get_or-range_with_len 0 n (k + 1) 0 within)

pub places_rise : (plate : Contents) → IsStrictlyIncreasing (places_of plate)
places_rise plate = IsStrictlyIncreasing-filter (λ place. is_some (place_in plate.places place)) (range_with_len 0 (length plate.places)) (range_rises (length plate.places))
