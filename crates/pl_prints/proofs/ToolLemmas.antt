-- The tools that are used at a height, as a set.
use Rattle.std.proofs.Common.{◌≡◌, ℕ, zero, suc, ◌+◌, ◌*◌, ◌<◌, ◌≤◌, Bool, true, false, ◌||◌, cond, ℤ, List, [], ◌∷◌, length, map, get_or, take, refl, sym, ◌∙◌, ap, arith}
use Rattle.std.specs.Int.{bit_at}
use Rattle.std.proofs.Math.Bool.{or-false}
use Rattle.std.proofs.lemmas.Bool.Decides.{nat_tests}
use Rattle.std.proofs.lemmas.List.{take_more, take_all}
use Rattle.std.proofs.lemmas.List.Folds.{list_any-append}
use Rattle.std.proofs.lemmas.Nat.Bits.{bit_at-lt, bit_at_above, same_from_bits}
use Rattle.pl_units.specs.declared.Nm.{Nm}
use Rattle.pl_tower.specs.Tools.{has, IsToolSet}
use Rattle.pl_model.specs.Contents.{Contents}
use Rattle.pl_values.specs.PrintValues.{objects_of, tops_of, heights_of, is_used, tool_set_of}
use Rattle.pl_prints.proofs.RoomLemmas.{any_map}
use Rattle.pl_prints.specs.Layers.{Layers, layers_in, is_printed, has_printed}
use Rattle.pl_prints.specs.Heights.{nm_of}

or_comm : (a b : Bool) → (a || b) ≡ (b || a)
or_comm true true = refl
or_comm true false = refl
or_comm false true = refl
or_comm false false = refl

bit_is : (set tool : ℕ) (b : Bool) → has set tool ≡ b → bit_at set tool ≡ cond b 1 0
bit_is set tool true e = grind (arith, nat_tests, bit_at-lt set tool)
bit_is set tool false e = grind (arith, nat_tests, bit_at-lt set tool)

scaled : (b : Bool) (n : ℕ) → cond b n 0 ≡ n * cond b 1 0
scaled true n = omega arith
scaled false n = omega arith

small : (b : Bool) → cond b 1 0 ≤ 1
small true = omega arith
small false = omega arith

abbrev four : Bool → Bool → Bool → Bool → ℕ
four a b c d = 0 + cond a 1 0 + cond b 2 0 + cond c 4 0 + cond d 8 0

zeroth : (a b c d : Bool) → bit_at (four a b c d) 0 ≡ cond a 1 0
zeroth a b c d = omega (arith, scaled b 2, scaled c 4, scaled d 8, small a)

first : (a b c d : Bool) → bit_at (four a b c d) 1 ≡ cond b 1 0
first a b c d = omega (arith, scaled b 2, scaled c 4, scaled d 8, small a, small b)

second : (a b c d : Bool) → bit_at (four a b c d) 2 ≡ cond c 1 0
second a b c d = omega (arith, scaled b 2, scaled c 4, scaled d 8, small a, small b, small c)

third : (a b c d : Bool) → bit_at (four a b c d) 3 ≡ cond d 1 0
third a b c d = omega (arith, scaled b 2, scaled c 4, scaled d 8, small a, small b, small c, small d)

none : (a b c d : Bool) (tool : ℕ) → 4 ≤ tool → bit_at (four a b c d) tool ≡ 0
none a b c d tool far = bit_at_above (four a b c d) 4 tool (omega (arith, scaled b 2, scaled c 4, scaled d 8, small a, small b, small c, small d)) far

each_bit : (set : ℕ) (test : ℕ → Bool) → IsToolSet set → ((tool : ℕ) → has set tool ≡ test tool) → (tool : ℕ) → bit_at set tool ≡ bit_at (tool_set_of test) tool
each_bit set test low same zero = bit_is set 0 (test 0) (same 0) ∙ sym (zeroth (test 0) (test 1) (test 2) (test 3))
each_bit set test low same (suc zero) = bit_is set 1 (test 1) (same 1) ∙ sym (first (test 0) (test 1) (test 2) (test 3))
each_bit set test low same (suc (suc zero)) = bit_is set 2 (test 2) (same 2) ∙ sym (second (test 0) (test 1) (test 2) (test 3))
each_bit set test low same (suc (suc (suc zero))) = bit_is set 3 (test 3) (same 3) ∙ sym (third (test 0) (test 1) (test 2) (test 3))
each_bit set test low same (suc (suc (suc (suc n)))) =
    let far : 4 ≤ suc (suc (suc (suc n))) = omega arith in
    bit_is set (suc (suc (suc (suc n)))) false (low (suc (suc (suc (suc n)))) far) ∙ sym (none (test 0) (test 1) (test 2) (test 3) (suc (suc (suc (suc n)))) far)

-- the set of the tools that pass a test has just these
set_is : (set : ℕ) (test : ℕ → Bool) → IsToolSet set → ((tool : ℕ) → has set tool ≡ test tool) → set ≡ tool_set_of test
set_is set test low same = same_from_bits set (tool_set_of test) (each_bit set test low same)

-- ---- the objects of a height

pub printed_more : (objects : List Layers) (i : ℕ) (object : Layers) (z : ℤ) (tool : ℕ) (old new : ℕ) → i < length objects → object ≡ get_or objects i object → has old tool ≡ has_printed (take i objects) z tool → has new tool ≡ (is_printed z tool object || has old tool) → has new tool ≡ has_printed (take (i + 1) objects) z tool
printed_more objects i object z tool old new less here before more =
    more
    ∙ ap (λ b. is_printed z tool object || b) before
    ∙ or_comm (is_printed z tool object) (has_printed (take i objects) z tool)
    ∙ ap (λ o. has_printed (take i objects) z tool || is_printed z tool o) here
    ∙ ap (λ b. has_printed (take i objects) z tool || b) (sym (or-false (is_printed z tool (get_or objects i object))))
    ∙ sym (list_any-append (is_printed z tool) (take i objects) (get_or objects i object ∷ []))
    ∙ ap (λ os. has_printed os z tool) (sym (take_more objects i object less))

pub printed_all : (objects : List Layers) (i : ℕ) (z : ℤ) (set : ℕ) → length objects ≤ i → IsToolSet set → ((tool : ℕ) → has set tool ≡ has_printed (take i objects) z tool) → set ≡ tool_set_of (has_printed objects z)
printed_all objects i z set all low same = set_is set (has_printed objects z) low (λ tool. same tool ∙ ap (λ os. has_printed os z tool) (take_all i objects all))

-- ---- the heights of a plate

same_sets : (s t : ℕ → Bool) → ((tool : ℕ) → s tool ≡ t tool) → tool_set_of s ≡ tool_set_of t
same_sets s t same =
    ap (λ b. four b (s 1) (s 2) (s 3)) (same 0) ∙ ap (λ b. four (t 0) b (s 2) (s 3)) (same 1) ∙ ap (λ b. four (t 0) (t 1) b (s 3)) (same 2) ∙ ap (λ b. four (t 0) (t 1) (t 2) b) (same 3)

used_at : (plate : Contents) (z : ℤ) → tool_set_of (has_printed (map (layers_in plate.config) (objects_of plate)) z) ≡ tool_set_of (is_used plate z)
used_at plate z = same_sets _ _ (λ tool. any_map (is_printed z tool) (layers_in plate.config) (objects_of plate))

used_in : (plate : Contents) (zs : List ℤ) → map (λ top. tool_set_of (has_printed (map (layers_in plate.config) (objects_of plate)) top.0)) (map nm_of zs) ≡ map (λ z. tool_set_of (is_used plate z)) zs
used_in plate [] = refl
used_in plate (z ∷ zs) =
    ap (λ set. set ∷ map (λ top. tool_set_of (has_printed (map (layers_in plate.config) (objects_of plate)) top.0)) (map nm_of zs)) (used_at plate z)
    ∙ ap (λ sets. tool_set_of (is_used plate z) ∷ sets) (used_in plate zs)

pub used_is : (plate : Contents) (layers : List Layers) (tops : List Nm) (used : List ℕ) → layers ≡ map (layers_in plate.config) (objects_of plate) → tops ≡ heights_of plate → used ≡ map (λ top. tool_set_of (has_printed layers top.0)) tops → used ≡ map (λ z. tool_set_of (is_used plate z)) (tops_of plate)
used_is plate layers tops used of_objects of_heights is =
    is
    ∙ ap (λ os. map (λ top. tool_set_of (has_printed os top.0)) tops) of_objects
    ∙ ap (map (λ top. tool_set_of (has_printed (map (layers_in plate.config) (objects_of plate)) top.0))) of_heights
    ∙ used_in plate (tops_of plate)
