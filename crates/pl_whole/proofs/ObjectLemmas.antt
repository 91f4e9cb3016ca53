-- The objects of a plate with all that they are printed as.
use Rattle.std.proofs.Common.{◌≡◌, ℕ, suc, ◌+◌, ◌<◌, List, [], ◌∷◌, ◌++◌, append-nil, length, map, take, get_or, slice_get, Option, Some, None, refl, sym, subst, ap, ◌∙◌, arith}
use Rattle.std.specs.Option.{IfSome, option_map}
use Rattle.std.specs.List.{All, filter_map}
use Rattle.std.proofs.lemmas.List.{take_more}
use Rattle.std.proofs.lemmas.List.Elements.{filter_map-append, All-nil, All-cons}
use Rattle.pl_grid.specs.Planes.{Cells}
use Rattle.pl_fill.specs.Surfaces.{layer_at}
use Rattle.pl_options.specs.KeyMap.{KeyMap}
use Rattle.pl_model.specs.declared.object.Object.{Object}
use Rattle.pl_model.specs.Contents.{Contents}
use Rattle.pl_model.specs.Editing.{IsAt}
use Rattle.pl_model.specs.Printable.{AreInBed, CanBePrinted}
use Rattle.pl_values.specs.ObjectValues.{slices_for, supports_for}
use Rattle.pl_values.specs.PrintValues.{objects_of}
use Rattle.pl_prints.specs.Footprints.{Footprint, footprint_in}
use Rattle.pl_parts.specs.Parts.{ObjectData, object_data}
use Rattle.pl_whole.specs.Printed.{Printed, printed_for, objects_for, plane_in, footprint_of, data_in}

-- ---- objects that can be printed

abbrev pub IsInside : Option Object → Type 0
IsInside place = IfSome place (λ object. AreInBed object (length object.instances))

each_place : (places : List (Option Object)) → ((k : ℕ) (object : Object) → k < length places → IsAt places k object → AreInBed object (length object.instances)) → All IsInside places
each_place [] inside = All-nil IsInside
each_place (None ∷ places) inside = All-cons IsInside None places tt (each_place places (λ k object less at. inside (suc k) object (omega arith) at))
each_place (Some object ∷ places) inside = All-cons IsInside (Some object) places (inside 0 object (omega arith) refl) (each_place places (λ k object less at. inside (suc k) object (omega arith) at))

all_inside : (plate : Contents) → CanBePrinted plate → All IsInside plate.places
all_inside plate can = each_place plate.places (λ k object less at. (can.printable k object less at).inside)

-- what stands at a place that is read
pub inside_at : (plate : Contents) (items : List (Option Object)) (i : ℕ) (place d : Option Object) → CanBePrinted plate → items ≡ plate.places → i < length items → place ≡ get_or items i d → IsInside place
inside_at plate items i place d can same less is = subst IsInside (sym (is ∙ ap (λ ps. get_or ps i d) same)) (all_inside plate can i d (rw (← same) less))

-- ---- footprints

module _ {X Y : Type 0} (f : X → Y) where
  pub none_of : (place : Option X) → ((x : X) → place ≡ Some x → ⊥) → filter_map (option_map f) (place ∷ []) ≡ []
  none_of None h = refl
  none_of (Some x) h = absurd (h x refl)

  pub some_of : (place : Option X) (x : X) (y : Y) → place ≡ Some x → y ≡ f x → filter_map (option_map f) (place ∷ []) ≡ y ∷ []
  some_of place x y is made = ap (λ p. filter_map (option_map f) (p ∷ [])) is ∙ ap (λ z. z ∷ []) (sym made)

module _ {X Y : Type 0} (h : X → Option Y) where
  kept_more : (xs : List X) (i : ℕ) (x d : X) → i < length xs → x ≡ get_or xs i d → filter_map h (take (i + 1) xs) ≡ filter_map h (take i xs) ++ filter_map h (x ∷ [])
  kept_more xs i x d less is =
      ap (filter_map h) (take_more xs i d less)
      ∙ filter_map-append h (take i xs) (get_or xs i d ∷ [])
      ∙ ap (λ y. filter_map h (take i xs) ++ filter_map h (y ∷ [])) (sym is)

  pub passed : (xs : List X) (i : ℕ) (x d : X) (old : List Y) → i < length xs → x ≡ get_or xs i d → old ≡ filter_map h (take i xs) → filter_map h (x ∷ []) ≡ [] → old ≡ filter_map h (take (i + 1) xs)
  passed xs i x d old less is before none = before ∙ sym (kept_more xs i x d less is ∙ ap (λ ys. filter_map h (take i xs) ++ ys) none ∙ append-nil (filter_map h (take i xs)))

  pub put : (xs : List X) (i : ℕ) (x d : X) (old new : List Y) (y : Y) → i < length xs → x ≡ get_or xs i d → old ≡ filter_map h (take i xs) → filter_map h (x ∷ []) ≡ y ∷ [] → new ≡ old ++ y ∷ [] → new ≡ filter_map h (take (i + 1) xs)
  put xs i x d old new y less is before some more = more ∙ ap (λ ys. ys ++ y ∷ []) before ∙ sym (kept_more xs i x d less is ∙ ap (λ ys. filter_map h (take i xs) ++ ys) some)

first_plane : (planes : List Cells) → plane_in (slice_get planes 0) ≡ layer_at planes 0
first_plane [] = refl
first_plane (plane ∷ planes) = refl

footprint_is : (config : KeyMap) (object : Object) → footprint_of (printed_for config object) ≡ footprint_in config object
footprint_is config object i = record { slice = first_plane (slices_for config object) i; support = first_plane (supports_for config object) i; instances = object.instances }

footprints_along : (config : KeyMap) (places : List (Option Object)) → filter_map (option_map footprint_of) (map (option_map (printed_for config)) places) ≡ map (footprint_in config) (filter_map (λ place. place) places)
footprints_along config [] = refl
footprints_along config (None ∷ places) = footprints_along config places
footprints_along config (Some object ∷ places) = λ i. footprint_is config object i ∷ footprints_along config places i

pub footprints_are : (plate : Contents) (objects : List (Option Printed)) (footprints seen : List Footprint) → objects ≡ objects_for plate → footprints ≡ filter_map (option_map footprint_of) objects → seen ≡ footprints → seen ≡ map (footprint_in plate.config) (objects_of plate)
footprints_are plate objects footprints seen is made same = same ∙ made ∙ ap (filter_map (option_map footprint_of)) is ∙ footprints_along plate.config plate.places

-- ---- what the G-code takes

data_along : (config : KeyMap) (places : List (Option Object)) → map (option_map data_in) (map (option_map (printed_for config)) places) ≡ map (option_map (object_data config)) places
data_along config [] = refl
data_along config (None ∷ places) = ap (λ rest. None ∷ rest) (data_along config places)
data_along config (Some object ∷ places) = ap (λ rest. Some (object_data config object) ∷ rest) (data_along config places)

pub data_are : (plate : Contents) (objects : List (Option Printed)) (parts : List (Option ObjectData)) → objects ≡ objects_for plate → parts ≡ map (option_map data_in) objects → parts ≡ map (option_map (object_data plate.config)) plate.places
data_are plate objects parts is made = made ∙ ap (map (option_map data_in)) is ∙ data_along plate.config plate.places
