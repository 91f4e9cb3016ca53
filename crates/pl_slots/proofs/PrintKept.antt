-- The results of an untouched step of the print of two plates are equal.
use Rattle.std.proofs.Common.{◌≡◌, ℕ, ◌<◌, ◌≤◌, Bool, true, false, [], map, Option, Some, None, inl, inr, refl, sym, ap, ◌∙◌, arith}
use Rattle.std.specs.Prelude.{ℤ, ◌-◌, ◌-ℤ◌, ◌==◌, ◌&&◌, ◌||◌, is_some, position, if◌then◌else◌}
use Rattle.std.specs.Ordering.{int_eq}
use Rattle.std.specs.List.{range_with_len, list_any}
use Rattle.std.specs.Option.{option_map, option_map_or}
use Rattle.std.specs.FinMap.{get}
use Rattle.std.proofs.lemmas.Bool.{agree_below_at, cases_lt}
use Rattle.pl_keys.specs.declared.key.Key.{Key}
use Rattle.pl_keys.specs.declared.key.Key.TheVariants as key
use Rattle.pl_keys.specs.Keys.{is_object_key}
use Rattle.pl_keys.specs.Table.{touches}
use Rattle.pl_keys.specs.Steps as steps
use Rattle.pl_options.specs.KeyMap.{KeyMap}
use Rattle.pl_grid.specs.Planes.{filled, plane_of}
use Rattle.pl_fill.specs.Surfaces.{layer_at}
use Rattle.pl_layers.specs.Heights.{z_of, layer_count_of}
use Rattle.pl_adhesion.specs.Skirt.{skirt_of}
use Rattle.pl_adhesion.specs.Brim.{brim_of}
use Rattle.pl_tower.specs.Heights.{tools_along}
use Rattle.pl_tower.specs.Tower.{block_of}
use Rattle.pl_gcode.specs.SettingsOf.{whole_in}
use Rattle.pl_model.specs.declared.object.Object.{Object}
use Rattle.pl_model.specs.Contents.{Contents}
use Rattle.pl_model.specs.Effective.{value_for}
use Rattle.pl_model.specs.Places.{place_in}
use Rattle.pl_model.specs.Problem.{cell_of, length_in}
use Rattle.pl_cascade.specs.Slots.{print_slot}
use Rattle.pl_cascade.specs.Touched.{is_touched}
use Rattle.pl_cascade.proofs.Arrows.{reaches}
use Rattle.pl_cascade.proofs.Untouched.{same_places, same_instances, same_shapes, same_options, same_setting}
use Rattle.pl_values.specs.Options.{flag_in, cells_in}
use Rattle.pl_values.specs.Ascending.{ascending}
use Rattle.pl_values.specs.ObjectValues.{layers_for, tool_for, corner_for, corners_for, supports_for}
use Rattle.pl_values.specs.PrintValues.{places_of, objects_of, tops_for, tops_of, heights_of, layer_with_top, is_used, tool_set_of, tools_of, bed, is_below, ground_of, farther, skirt_for, brim_for, block_for, blocks_of}
use Rattle.pl_values.specs.Whole.{of_place}
use Rattle.pl_slots.specs.ObjectSteps.{sliced_for}
use Rattle.pl_slots.specs.Values.{sixteen, tower_for}
use Rattle.pl_slots.proofs.SameObjects.{same_slices, same_supports}
use Rattle.pl_slots.proofs.Gathered.{filled_alike, flat_alike, any_alike, option_alike, first_places, no_more_places}

-- a step is reached from slicing
from_slice : (step : ℕ) → step < 10 → reaches steps.slice step ≡ true
from_slice step below = agree_below_at (reaches steps.slice) (λ _. true) 10 step refl below

module _ (a b : Contents) (step : ℕ) (above : 6 ≤ step) (below : step < 10) (calm : is_touched a b (print_slot step) ≡ false) where
  -- ---- the objects at a place

  -- two objects that stand at one place
  pub record IsPair (x y : Object) : Type 0 where
    pub place : ℕ
    pub here : place < 16
    pub old : place_in a.places place ≡ Some x
    pub new : place_in b.places place ≡ Some y

  pub option_kept : (from : ℕ) (key : Key) → reaches from step ≡ true → is_object_key key ≡ true → touches key from ≡ true → (x y : Object) → IsPair x y → value_for a.config x key ≡ value_for b.config y key
  option_kept from key r own t x y pair = same_options a b from step key above below calm own t r pair.place x y pair.here pair.old pair.new

  pub sliced_kept : (x y : Object) → IsPair x y → sliced_for a.config x ≡ sliced_for b.config y
  sliced_kept x y pair =
      let shape = same_shapes a b step above below calm pair.place x y pair.here pair.old pair.new in
      let first = option_kept steps.slice key.FirstLayerHeight (from_slice step below) refl refl x y pair in
      let height = option_kept steps.slice key.LayerHeight (from_slice step below) refl refl x y pair in
      same_slices a.config b.config x y shape first height

  -- how many layers both have, and their tops
  pub layers_kept : (x y : Object) → IsPair x y → layers_for a.config x ≡ layers_for b.config y
  layers_kept x y pair =
      let mesh = (same_shapes a b step above below calm pair.place x y pair.here pair.old pair.new).0 in
      λ i. layer_count_of (sliced_kept x y pair i).heights (mesh i)

  pub object_tops_kept : (x y : Object) → IsPair x y → tops_for a.config x ≡ tops_for b.config y
  object_tops_kept x y pair = λ i. map (z_of (sliced_kept x y pair i).heights) (range_with_len 0 (layers_kept x y pair i))

  pub tool_kept : reaches steps.tower step ≡ true → (x y : Object) → IsPair x y → tool_for a.config x ≡ tool_for b.config y
  tool_kept r x y pair = ap (λ value. whole_in value - 1) (option_kept steps.tower key.Extruder r refl refl x y pair)

  pub corners_kept : (x y : Object) → IsPair x y → corners_for x ≡ corners_for y
  corners_kept x y pair = ap (map corner_for) (same_instances a b step above below calm pair.place x y pair.here pair.old pair.new)

  pub supports_kept : reaches steps.support step ≡ true → (x y : Object) → IsPair x y → supports_for a.config x ≡ supports_for b.config y
  supports_kept r x y pair =
      let on = option_kept steps.support key.SupportMaterial r refl refl x y pair in
      let only = option_kept steps.support key.SupportMaterialBuildplateOnly r refl refl x y pair in
      same_supports a.config b.config x y (sliced_kept x y pair) on only

  -- what both give at each place
  pub place_kept : {X : Type 0} (gives : KeyMap → Object → X) → ((x y : Object) → IsPair x y → gives a.config x ≡ gives b.config y) → (p : ℕ) → option_map (gives a.config) (place_in (sixteen a).places p) ≡ option_map (gives b.config) (place_in (sixteen b).places p)
  place_kept gives same p = elim (cases_lt p 16) [
    | inl here ↦
        ap (option_map (gives a.config)) (first_places a.places p here)
        ∙ option_alike (gives a.config) (gives b.config) (place_in a.places p) (place_in b.places p) (same_places a b step above below calm p here) (λ x y old new. same x y (record { place = p; here = here; old = old; new = new }))
        ∙ sym (ap (option_map (gives b.config)) (first_places b.places p here))
    | inr past ↦ ap (option_map (gives a.config)) (no_more_places a.places p past) ∙ sym (ap (option_map (gives b.config)) (no_more_places b.places p past))
  ]

  -- ---- heights and tools

  pub tops_kept : tops_of (sixteen a) ≡ tops_of (sixteen b)
  tops_kept = ap ascending (flat_alike (tops_for a.config) (tops_for b.config) (sixteen a).places (sixteen b).places (place_kept tops_for object_tops_kept))

  pub heights_kept : heights_of (sixteen a) ≡ heights_of (sixteen b)
  heights_kept = ap (map (λ z. record { 0 = z })) tops_kept

  used_kept : reaches steps.tower step ≡ true → (z : ℤ) (tool : ℕ) → is_used (sixteen a) z tool ≡ is_used (sixteen b) z tool
  used_kept r z tool =
      let uses : KeyMap → Object → Bool = λ config object. (tool_for config object == tool) && is_some (layer_with_top config object z) in
      any_alike (uses a.config) (uses b.config) (sixteen a).places (sixteen b).places
      (place_kept uses (λ x y pair i. (tool_kept r x y pair i == tool) && is_some (position (λ top. int_eq top z) (object_tops_kept x y pair i))))

  pub tools_kept : reaches steps.tower step ≡ true → tools_of (sixteen a) ≡ tools_of (sixteen b)
  tools_kept r = λ i. tools_along 0 (map (λ z. tool_set_of (λ tool. used_kept r z tool i)) (tops_kept i))

  -- ---- what stands on the bed

  below_kept : reaches steps.support step ≡ true → (cx cy : ℤ) (x y : Object) → IsPair x y → is_below a.config x cx cy ≡ is_below b.config y cx cy
  below_kept r cx cy x y pair = λ i.
      list_any (λ corner. filled (layer_at (sliced_kept x y pair i).planes 0) (cx -ℤ corner.x) (cy -ℤ corner.y) || filled (layer_at (supports_kept r x y pair i) 0) (cx -ℤ corner.x) (cy -ℤ corner.y)) (corners_kept x y pair i)

  standing_kept : reaches steps.support step ≡ true → (cx cy : ℤ) → list_any (λ object. is_below a.config object cx cy) (objects_of (sixteen a)) ≡ list_any (λ object. is_below b.config object cx cy) (objects_of (sixteen b))
  standing_kept r cx cy =
      let stands : KeyMap → Object → Bool = λ config object. is_below config object cx cy in
      any_alike (stands a.config) (stands b.config) (sixteen a).places (sixteen b).places (place_kept stands (below_kept r cx cy))

  ground_kept : reaches steps.support step ≡ true → ground_of (sixteen a) ≡ ground_of (sixteen b)
  ground_kept r = λ i. plane_of bed (λ cx cy. standing_kept r cx cy i)

  -- ---- the options of the print

  pub setting_kept : (from : ℕ) (key : Key) → 6 ≤ from → reaches from step ≡ true → is_object_key key ≡ false → touches key from ≡ true → get a.config key ≡ get b.config key
  setting_kept from key high r whole t = same_setting a b from step key above below calm whole t high r

  pub skirt_kept : reaches steps.support step ≡ true → reaches steps.skirt step ≡ true → skirt_for (sixteen a) ≡ skirt_for (sixteen b)
  skirt_kept r s =
      let distance = setting_kept steps.skirt key.SkirtDistance (omega arith) s refl refl in
      let width = setting_kept steps.skirt key.BrimWidth (omega arith) s refl refl in
      let count = setting_kept steps.skirt key.Skirts (omega arith) s refl refl in
      λ i. skirt_of (ground_kept r i) (cells_in (farther (length_in (distance i)) (length_in (width i)))) (whole_in (count i))

  pub brim_kept : reaches steps.support step ≡ true → reaches steps.brim step ≡ true → brim_for (sixteen a) ≡ brim_for (sixteen b)
  brim_kept r s =
      let width = setting_kept steps.brim key.BrimWidth (omega arith) s refl refl in
      λ i. brim_of (ground_kept r i) (cells_in (length_in (width i)))

  pub block_kept : reaches steps.tower step ≡ true → (change : ℕ) → block_for (sixteen a) change ≡ block_for (sixteen b) change
  block_kept r change =
      let on = setting_kept steps.tower key.WipeTower (omega arith) r refl refl in
      let left = setting_kept steps.tower key.WipeTowerX (omega arith) r refl refl in
      let front = setting_kept steps.tower key.WipeTowerY (omega arith) r refl refl in
      let width = setting_kept steps.tower key.WipeTowerWidth (omega arith) r refl refl in
      λ i. if flag_in (on i) then block_of (cell_of (length_in (left i))) (cell_of (length_in (front i))) (cells_in (length_in (width i))) change else []

  pub blocks_kept : reaches steps.tower step ≡ true → blocks_of (sixteen a) ≡ blocks_of (sixteen b)
  blocks_kept r = λ i. map (λ change. block_kept r change i) (range_with_len 0 4)

  pub tower_kept : reaches steps.tower step ≡ true → tower_for (sixteen a) ≡ tower_for (sixteen b)
  tower_kept r = λ i. record { heights = heights_kept i; tools = tools_kept r i; blocks = blocks_kept r i }

  -- ---- the places

  pub filled_kept : places_of (sixteen a) ≡ places_of (sixteen b)
  filled_kept =
      filled_alike (sixteen a).places (sixteen b).places
      (λ p. elim (cases_lt p 16) [
        | inl here ↦ ap is_some (first_places a.places p here) ∙ same_places a b step above below calm p here ∙ sym (ap is_some (first_places b.places p here))
        | inr past ↦ ap is_some (no_more_places a.places p past) ∙ sym (ap is_some (no_more_places b.places p past))
      ])

  or_nothing : {X : Type 0} (gives : Object → X) (o : Option Object) (nothing : X) → option_map_or gives o nothing ≡ option_map_or (λ x. x) (option_map gives o) nothing
  or_nothing gives None nothing = refl
  or_nothing gives (Some object) nothing = refl

  -- what the object of a place has, or nothing where there is none
  pub of_place_kept : {X : Type 0} (gives : KeyMap → Object → X) → ((x y : Object) → IsPair x y → gives a.config x ≡ gives b.config y) → (p : ℕ) (nothing : X) → of_place (sixteen a) p nothing (gives a.config) ≡ of_place (sixteen b) p nothing (gives b.config)
  of_place_kept gives same p nothing =
      or_nothing (gives a.config) (place_in (sixteen a).places p) nothing
      ∙ ap (λ given. option_map_or (λ x. x) given nothing) (place_kept gives same p)
      ∙ sym (or_nothing (gives b.config) (place_in (sixteen b).places p) nothing)
