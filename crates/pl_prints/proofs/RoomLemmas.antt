-- The objects of a plate without a problem lie in the bed.
use Rattle.std.proofs.Common.{◌≡◌, ℤ, ℕ, zero, suc, pos, ◌+ℤ◌, ◌-ℤ◌, ◌≤ℤ◌, ◌<◌, ◌≤◌, Bool, true, ◌||◌, T, List, [], ◌∷◌, length, map, slice_get, Option, Some, None, refl, sym, ◌∙◌, ap, subst, arith}
use Rattle.std.specs.Prelude.{int_le}
use Rattle.std.specs.Int.Signed.{le_z_yes}
use Rattle.std.specs.List.{All, list_any, filter_map, range_with_len}
use Rattle.std.proofs.lemmas.Bool.{and_parts}
use Rattle.std.proofs.lemmas.Int.{ints}
use Rattle.std.proofs.lemmas.List.Elements.{All-nil, All-cons, All-map}
use Rattle.pl_options.specs.KeyMap.{KeyMap}
use Rattle.pl_grid.specs.Extent.{Extent}
use Rattle.pl_grid.specs.Planes.{Cells}
use Rattle.pl_grid.proofs.PlaneLemmas.{same_tests}
use Rattle.pl_fill.specs.Surfaces.{layer_at}
use Rattle.pl_layers.specs.Slices.{slice_of}
use Rattle.pl_support.specs.Support.{support_at}
use Rattle.pl_adhesion.specs.Bed.{IsRoomFor}
use Rattle.pl_adhesion.proofs.BedLemmas.{room_for_box}
use Rattle.pl_model.specs.declared.instances.Shift.{Shift}
use Rattle.pl_model.specs.declared.object.Object.{Object}
use Rattle.pl_model.specs.Contents.{Contents}
use Rattle.pl_model.specs.Editing.{IsAt}
use Rattle.pl_model.specs.Problem.{cell_of, is_among, is_in_bed, heights_for}
use Rattle.pl_model.specs.Printable.{box_for, IsPrintable, CanBePrinted}
use Rattle.pl_keys.specs.declared.key.Key.TheVariants as key
use Rattle.pl_values.specs.Options.{flag_for}
use Rattle.pl_values.specs.ObjectValues.{layers_for, slices_for, supports_for, corner_for}
use Rattle.pl_values.specs.PrintValues.{bed, objects_of, ground_of, is_at_bottom, is_below}
use Rattle.pl_prints.specs.Footprints.{Footprint, footprint_in, covers, footing_of, IsPlaced}

-- ---- boxes

-- a box from 0 0 on that is no larger
record IsBoxed (box b : Extent) : Type 0 where
  pub left : b.x0 ≡ pos 0
  pub bottom : b.y0 ≡ pos 0
  pub wide : b.cols ≤ box.cols
  pub high : b.rows ≤ box.rows

first_box : (f : ℕ → Cells) (box : Extent) (n : ℕ) → IsBoxed box (f 0).bounds → IsBoxed box (layer_at (map f (range_with_len 0 n)) 0).bounds
first_box f box zero h = record { left = refl; bottom = refl; wide = omega arith; high = omega arith }
first_box f box (suc n) h = h

slice_boxed : (config : KeyMap) (object : Object) → IsBoxed (box_for object) (layer_at (slices_for config object) 0).bounds
slice_boxed config object =
    first_box (slice_of object.mesh object.quarter (heights_for config object)) (box_for object) (layers_for config object)
    (record { left = refl; bottom = refl; wide = omega arith; high = omega arith })

support_boxed : (config : KeyMap) (object : Object) → IsBoxed (box_for object) (layer_at (supports_for config object) 0).bounds
support_boxed config object =
    first_box (support_at (flag_for config object key.SupportMaterial) (flag_for config object key.SupportMaterialBuildplateOnly) (slices_for config object)) (box_for object) (length (slices_for config object))
    (slice_boxed config object)

-- ---- in the bed

record IsAmong (most : ℕ) (first : ℤ) (count : ℕ) : Type 0 where
  pub low : pos 0 ≤ℤ first
  pub high : (first +ℤ pos count) ≤ℤ pos most

holds : (b : Bool) → b ≡ true → T b
holds b e = subst T (sym e) tt

among : (most : ℕ) (first : ℤ) (count : ℕ) → is_among most first count ≡ true → IsAmong most first count
among most first count h =
    let both = and_parts (int_le (pos 0) first) (int_le (first +ℤ pos count) (pos most)) h in
    record { low = le_z_yes (holds _ both.0); high = le_z_yes (holds _ both.1) }

room : (cells : Cells) (box : Extent) (shift : Shift) → IsBoxed box cells.bounds → IsAmong 625 (cell_of shift.x) box.cols → IsAmong 525 (cell_of shift.y) box.rows → IsRoomFor cells (cell_of shift.x) (cell_of shift.y) bed
room cells box shift b across along =
    room_for_box cells (cell_of shift.x) (cell_of shift.y) bed (omega (arith, ints, b.left, across.low)) (omega (arith, ints, b.bottom, along.low)) (omega (arith, ints, b.left, b.wide, across.high)) (omega (arith, ints, b.bottom, b.high, along.high))

placed : (config : KeyMap) (object : Object) (shift : Shift) → is_in_bed (box_for object) shift ≡ true → IsPlaced (footprint_in config object) shift
placed config object shift h =
    let both = and_parts (is_among 625 (cell_of shift.x) (box_for object).cols) (is_among 525 (cell_of shift.y) (box_for object).rows) h in
    let across : IsAmong 625 (cell_of shift.x) (box_for object).cols = among 625 (cell_of shift.x) (box_for object).cols both.0 in
    let along : IsAmong 525 (cell_of shift.y) (box_for object).rows = among 525 (cell_of shift.y) (box_for object).rows both.1 in
    record {
      left = across.low;
      right = omega (arith, ints, across.high);
      bottom = along.low;
      top = omega (arith, ints, along.high);
      slice = room (layer_at (slices_for config object) 0) (box_for object) shift (slice_boxed config object) across along;
      support = room (layer_at (supports_for config object) 0) (box_for object) shift (support_boxed config object) across along;
    }

-- ---- all objects

each_shift : (Q : Shift → Type 0) (shifts : List Shift) → ((i : ℕ) (shift : Shift) → i < length shifts → slice_get shifts i ≡ Some shift → Q shift) → All Q shifts
each_shift Q [] h = All-nil Q
each_shift Q (shift ∷ shifts) h = All-cons Q shift shifts (h 0 shift (omega arith) refl) (each_shift Q shifts (λ i s less at. h (suc i) s (omega arith) at))

each_object : (Q : Object → Type 0) (places : List (Option Object)) → ((k : ℕ) (object : Object) → k < length places → IsAt places k object → Q object) → All Q (filter_map (λ p. p) places)
each_object Q [] h = All-nil Q
each_object Q (None ∷ places) h = each_object Q places (λ k o less at. h (suc k) o (omega arith) at)
each_object Q (Some object ∷ places) h = All-cons Q object (filter_map (λ p. p) places) (h 0 object (omega arith) refl) (each_object Q places (λ k o less at. h (suc k) o (omega arith) at))

all_placed : (plate : Contents) → CanBePrinted plate → All (λ f. All (IsPlaced f) f.instances) (map (footprint_in plate.config) (objects_of plate))
all_placed plate can =
    All-map (λ f. All (IsPlaced f) f.instances) (footprint_in plate.config) (objects_of plate)
    (each_object (λ object. All (IsPlaced (footprint_in plate.config object)) object.instances) plate.places (λ k object less at.
    let printable : IsPrintable plate.config object = can.printable k object less at in
    each_shift (IsPlaced (footprint_in plate.config object)) object.instances (λ i shift within there. placed plate.config object shift (printable.inside i shift within there))))

pub footprints_placed : (plate : Contents) (footprints : List Footprint) → CanBePrinted plate → footprints ≡ map (footprint_in plate.config) (objects_of plate) → All (λ f. All (IsPlaced f) f.instances) footprints
footprints_placed plate footprints can is = let P : List Footprint → Type 0 = λ fs. All (λ f. All (IsPlaced f) f.instances) fs in subst P (sym is) (all_placed plate can)

-- ---- the cells of the bed

pub any_map : {X Y : Type 0} (p : Y → Bool) (h : X → Y) (xs : List X) → list_any p (map h xs) ≡ list_any (λ x. p (h x)) xs
any_map p h [] = refl
any_map p h (x ∷ xs) = ap (λ b. p (h x) || b) (any_map p h xs)

same_any : {X : Type 0} (p q : X → Bool) (xs : List X) → ((x : X) → p x ≡ q x) → list_any p xs ≡ list_any q xs
same_any p q [] same = refl
same_any p q (x ∷ xs) same = ap (λ b. b || list_any p xs) (same x) ∙ ap (λ b. q x || b) (same_any p q xs same)

covers_is : (config : KeyMap) (x y : ℤ) (object : Object) → covers (footprint_in config object) x y ≡ is_below config object x y
covers_is config x y object = sym (any_map (λ corner. is_at_bottom config object (x -ℤ corner.x) (y -ℤ corner.y)) corner_for object.instances)

pub footing_is : (plate : Contents) (footprints : List Footprint) → footprints ≡ map (footprint_in plate.config) (objects_of plate) → footing_of footprints ≡ ground_of plate
footing_is plate footprints is =
    ap footing_of is
    ∙ same_tests bed (λ x y. list_any (λ f. covers f x y) (map (footprint_in plate.config) (objects_of plate))) (λ x y. list_any (λ object. is_below plate.config object x y) (objects_of plate)) (λ c r wide high.
    any_map (λ f. covers f (pos 0 +ℤ pos c) (pos 0 +ℤ pos r)) (footprint_in plate.config) (objects_of plate)
    ∙ same_any (λ object. covers (footprint_in plate.config object) (pos 0 +ℤ pos c) (pos 0 +ℤ pos r)) (λ object. is_below plate.config object (pos 0 +ℤ pos c) (pos 0 +ℤ pos r)) (objects_of plate) (covers_is plate.config (pos 0 +ℤ pos c) (pos 0 +ℤ pos r)))
