-- The tools of the heights.
use Rattle.std.proofs.Common.{Option, true≢false, ◌≡◌, ℤ, ℕ, pos, ◌<◌, ◌≤◌, ◌==◌, ◌&&◌, Bool, true, false, [], length, map, Some, None, refl, sym, ap, subst, ◌∙◌, arith}
use Rattle.std.specs.Prelude.{Contains, is_some, slice_index_or}
use Rattle.std.proofs.lemmas.Bool.Decides.{nat_tests}
use Rattle.std.proofs.lemmas.List.{get_or-map, length-map}
use Rattle.std.proofs.lemmas.List.Elements.{Contains-get_or}
use Rattle.std.proofs.lemmas.List.Folds.{list_any_at, Any-from_list_any}
use Rattle.pl_tower.specs.Tools.{has, order_of}
use Rattle.pl_tower.specs.Heights.{tool_before}
use Rattle.pl_tower.proofs.HeightLemmas.{length_along, order_at}
use Rattle.pl_model.specs.declared.object.Object.{Object}
use Rattle.pl_model.specs.Contents.{Contents}
use Rattle.pl_values.specs.ObjectValues.{tool_for}
use Rattle.pl_values.specs.PrintValues.{objects_of, tops_of, layer_with_top, is_used, tool_set_of, tools_of}
use Rattle.pl_values.specs.Ranges.{IsInRange, IsTop, IsToolAt}
use Rattle.pl_values.proofs.Members.{Contains-filled, Contains-from_filled}
use Rattle.pl_values.proofs.OptionRanges.{tool_low}
use Rattle.pl_values.proofs.LayerLemmas.{has_layer, layer_is}
use Rattle.pl_values.proofs.ToolSets.{IsToolSet-tool_set_of, has-tool_set_of, few_in_order, some_in_order, Contains-order_of, Contains-from_order_of}
use Rattle.pl_values.proofs.Tops.{IsTop-from_Contains, IsOverrides-at}

-- ---- the tools of a height

-- the tool of the object of a top is used there
used_at : (plate : Contents) (z : ℤ) (t : IsTop plate z) → is_used plate z (tool_for plate.config t.object) ≡ true
used_at plate z t =
    let test : Object → Bool = λ object. (tool_for plate.config object == tool_for plate.config t.object) && is_some (layer_with_top plate.config object z) in
    let at = Contains-filled plate.places t.place t.object t.there in
    let layer : is_some (layer_with_top plate.config t.object z) ≡ true = subst (λ y. is_some (layer_with_top plate.config t.object y) ≡ true) (sym t.top) (has_layer plate.config t.object t.layer t.below) in
    let same : (tool_for plate.config t.object == tool_for plate.config t.object) ≡ true = grind (arith, nat_tests) in
    let passes : test t.object ≡ true = rw same layer in
    list_any_at test (objects_of plate) at.0 t.object at.1 (subst (λ object. test object ≡ true) (sym at.2) passes)

-- which tools are used at a height
abbrev used_set : Contents → ℤ → ℕ
used_set plate z = tool_set_of (is_used plate z)

pub count_of_tools : (plate : Contents) → length (tools_of plate) ≡ length (tops_of plate)
count_of_tools plate = length_along 0 (map (used_set plate) (tops_of plate)) ∙ length-map (tops_of plate) (used_set plate)

pub order_of_height : (plate : Contents) (i : ℕ) → i < length (tops_of plate)
    → slice_index_or (tools_of plate) i [] ≡ order_of (tool_before (tools_of plate) i) (used_set plate (slice_index_or (tops_of plate) i (pos 0)))
order_of_height plate i less =
    order_at (map (used_set plate) (tops_of plate)) i (subst (λ n. i < n) (sym (length-map (tops_of plate) (used_set plate))) less)
    ∙ ap (order_of (tool_before (tools_of plate) i)) (get_or-map (used_set plate) (tops_of plate) i (pos 0) 0 less)

pub some_tools : (plate : Contents) (i : ℕ) → IsInRange plate → i < length (tops_of plate) → 1 ≤ length (slice_index_or (tools_of plate) i [])
some_tools plate i p less =
    let z : ℤ = slice_index_or (tops_of plate) i (pos 0) in
    let t : IsTop plate z = IsTop-from_Contains plate z (Contains-get_or (tops_of plate) i (pos 0) less) in
    let o = IsOverrides-at plate t.place t.object p t.there in
    let tool : ℕ = tool_for plate.config t.object in
    let has_it : has (used_set plate z) tool ≡ true = has-tool_set_of (is_used plate z) tool (tool_low plate.config t.object p.config o) ∙ used_at plate z t in
    let some : 1 ≤ length (order_of (tool_before (tools_of plate) i) (used_set plate z)) = some_in_order (tool_before (tools_of plate) i) (used_set plate z) tool (IsToolSet-tool_set_of (is_used plate z)) has_it in
    subst (λ tools. 1 ≤ length tools) (sym (order_of_height plate i less)) some

pub few_tools : (plate : Contents) (i : ℕ) → i < length (tops_of plate) → length (slice_index_or (tools_of plate) i []) ≤ 4
few_tools plate i less =
    let z : ℤ = slice_index_or (tops_of plate) i (pos 0) in
    subst (λ tools. length tools ≤ 4) (sym (order_of_height plate i less)) (few_in_order (tool_before (tools_of plate) i) (used_set plate z))

-- ---- which tools these are

both_true : (a b : Bool) → (a && b) ≡ true → (a ≡ true) × (b ≡ true)
both_true true b h = (refl, h)
both_true false b h = absurd (true≢false (sym h))

some_is : (o : Option ℕ) → is_some o ≡ true → (k : ℕ) × (o ≡ Some k)
some_is None h = absurd (true≢false (sym h))
some_is (Some k) h = (k, refl)

-- a used tool is that of an object that has a layer there
IsToolAt-from_used : (plate : Contents) (z : ℤ) (tool : ℕ) → is_used plate z tool ≡ true → IsToolAt plate z tool
IsToolAt-from_used plate z tool h =
    let any = Any-from_list_any (λ object. (tool_for plate.config object == tool) && is_some (layer_with_top plate.config object z)) (objects_of plate) h in
    let object : Object = any.1 in
    let at = Contains-from_filled plate.places object (any.0, any.2, any.3) in
    let passes = both_true (tool_for plate.config object == tool) (is_some (layer_with_top plate.config object z)) any.4 in
    let some = some_is (layer_with_top plate.config object z) passes.1 in
    let layer = layer_is plate.config object z some.0 some.1 in
    let same : (tool_for plate.config object == tool) ≡ true = passes.0 in
    record {
      layer = record { place = at.0; object = object; layer = some.0; there = at.1; below = layer.0; top = sym layer.1 };
      tool_is = grind (arith, nat_tests);
    }

pub IsToolAt-from_Contains : (plate : Contents) (i tool : ℕ) → i < length (tops_of plate) → Contains (slice_index_or (tools_of plate) i []) tool → IsToolAt plate (slice_index_or (tops_of plate) i (pos 0)) tool
IsToolAt-from_Contains plate i tool less c =
    let z : ℤ = slice_index_or (tops_of plate) i (pos 0) in
    let found = Contains-from_order_of (tool_before (tools_of plate) i) (used_set plate z) tool (subst (λ tools. Contains tools tool) (order_of_height plate i less) c) in
    IsToolAt-from_used plate z tool (sym (has-tool_set_of (is_used plate z) tool found.0) ∙ found.1)

pub Contains-from_IsToolAt : (plate : Contents) (i tool : ℕ) → IsInRange plate → i < length (tops_of plate) → IsToolAt plate (slice_index_or (tops_of plate) i (pos 0)) tool → Contains (slice_index_or (tools_of plate) i []) tool
Contains-from_IsToolAt plate i tool p less t =
    let z : ℤ = slice_index_or (tops_of plate) i (pos 0) in
    let o = IsOverrides-at plate t.layer.place t.layer.object p t.layer.there in
    let mine : ℕ = tool_for plate.config t.layer.object in
    let has_it : has (used_set plate z) mine ≡ true = has-tool_set_of (is_used plate z) mine (tool_low plate.config t.layer.object p.config o) ∙ used_at plate z t.layer in
    let there : Contains (order_of (tool_before (tools_of plate) i) (used_set plate z)) mine = Contains-order_of (tool_before (tools_of plate) i) (used_set plate z) mine (IsToolSet-tool_set_of (is_used plate z)) has_it in
    subst (λ n. Contains (slice_index_or (tools_of plate) i []) n) (sym t.tool_is) (subst (λ tools. Contains tools mine) (sym (order_of_height plate i less)) there)
