-- The problem of an object, from what is computed of it.
use Rattle.std.proofs.Common.{◌≡◌, ℕ, ◌+◌, ◌<◌, ◌≤◌, Bool, List, Option, None, length, drop, slice_index_or, sym, ap, ◌∙◌}
use Rattle.std.specs.Option.{option_or}
use Rattle.pl_model.proofs.Lists.{drop_here, drop_all}
use Rattle.pl_grid.specs.Extent.{Extent}
use Rattle.pl_layers.specs.declared.heights.Heights.{Heights}
use Rattle.pl_layers.specs.Turned.{box_of}
use Rattle.pl_layers.specs.Heights.{layer_count_of}
use Rattle.pl_options.specs.KeyMap.{KeyMap}
use Rattle.pl_model.specs.declared.object.Object.{Object}
use Rattle.pl_model.specs.Problem.{outside, has_few_cells, heights_for, problem_by, object_problem, place_problem, first_problem}

pub problem_computed : (config : KeyMap) (place : ℕ) (object : Object) (box : Extent) (heights : Heights) (layers : ℕ) (first : Option ℕ) (few : Bool) → box ≡ box_of object.quarter object.mesh
    → heights ≡ heights_for config object → layers ≡ layer_count_of heights object.mesh → first ≡ outside box object.instances → few ≡ has_few_cells box layers
    → problem_by place first few ≡ object_problem config place object
problem_computed config place object box heights layers first few b h l f c =
    let layers_are : layers ≡ layer_count_of (heights_for config object) object.mesh = l ∙ ap (λ h. layer_count_of h object.mesh) h in
    let first_is : first ≡ outside (box_of object.quarter object.mesh) object.instances = f ∙ ap (λ b. outside b object.instances) b in
    let few_is : few ≡ has_few_cells (box_of object.quarter object.mesh) (layer_count_of (heights_for config object) object.mesh) = c ∙ (λ i. has_few_cells (b i) (layers_are i)) in
    λ i. problem_by place (first_is i) (few_is i)

-- a place without problem, and the places after it
pub next_problem : (config : KeyMap) (places : List (Option Object)) (i : ℕ) (place : Option Object) → i < length places → place ≡ slice_index_or places i place
    → first_problem config i (drop i places) ≡ option_or (place_problem config i place) (first_problem config (i + 1) (drop (i + 1) places))
next_problem config places i place h is =
    ap (first_problem config i) (drop_here places i place h) ∙ ap (λ p. option_or (place_problem config i p) (first_problem config (i + 1) (drop (i + 1) places))) (sym is)

pub no_problem : (config : KeyMap) (places : List (Option Object)) (n : ℕ) → length places ≤ n → first_problem config n (drop n places) ≡ None
no_problem config places n h = ap (first_problem config n) (drop_all places n h)
