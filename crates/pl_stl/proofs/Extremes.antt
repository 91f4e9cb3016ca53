-- The least and the greatest of a list, from its front.
use Rattle.std.proofs.Common.{◌≡◌, ℤ, ℕ, pos, ◌+◌, ◌≤◌, ◌<◌, ◌^◌, List, [], ◌∷◌, ◌++◌, length, take, get_or, arith, refl, ap, sym, ◌∙◌, append_assoc}
use Rattle.std.specs.Int.{int_min, int_max}
use Rattle.std.proofs.lemmas.Int.{ints}
use Rattle.std.proofs.lemmas.Bool.Decides.{nat_tests}
use Rattle.std.proofs.Math.Seq.{take-length}
use Rattle.std.proofs.lemmas.List.{take_more}
use Rattle.std.proofs.lemmas.Grind.{flat_map-append}
use Rattle.pl_units.specs.Within.{Within}
use Rattle.pl_stl.specs.declared.mesh.Point3.{Point3}
use Rattle.pl_stl.specs.declared.mesh.Facet.{Facet}
use Rattle.pl_stl.specs.Coordinates.{coordinates, least, greatest}
use Rattle.pl_stl.specs.Spans.{with_corners}

-- ---- a number chosen among those of a list

abbrev pub chosen : (ℤ → ℤ → ℤ) → List ℤ → ℤ
chosen choose [] = pos 0
chosen choose (z ∷ []) = z
chosen choose (z ∷ y ∷ zs) = choose z (chosen choose (y ∷ zs))

-- the order and the number of times do not matter
pub record IsChoice (choose : ℤ → ℤ → ℤ) : Type 0 where
  pub regroups : (x y z : ℤ) → choose x (choose y z) ≡ choose (choose x y) z
  pub repeats : (x : ℤ) → choose x x ≡ x

pub IsChoice-int_min : IsChoice int_min
IsChoice-int_min = record { regroups = λ x y z. grind (arith, ints, nat_tests); repeats = λ x. grind (arith, ints, nat_tests) }

pub IsChoice-int_max : IsChoice int_max
IsChoice-int_max = record { regroups = λ x y z. grind (arith, ints, nat_tests); repeats = λ x. grind (arith, ints, nat_tests) }

pub least_is : (zs : List ℤ) → least zs ≡ chosen int_min zs
least_is [] = refl
least_is (z ∷ []) = refl
least_is (z ∷ y ∷ zs) = ap (int_min z) (least_is (y ∷ zs))

pub greatest_is : (zs : List ℤ) → greatest zs ≡ chosen int_max zs
greatest_is [] = refl
greatest_is (z ∷ []) = refl
greatest_is (z ∷ y ∷ zs) = ap (int_max z) (greatest_is (y ∷ zs))

chosen_more : (choose : ℤ → ℤ → ℤ) (s : ℤ) (zs : List ℤ) (a : ℤ) → IsChoice choose → chosen choose (s ∷ (zs ++ a ∷ [])) ≡ choose (chosen choose (s ∷ zs)) a
chosen_more choose s [] a is = refl
chosen_more choose s (z ∷ zs) a is = ap (choose s) (chosen_more choose z zs a is) ∙ is.regroups s (chosen choose (z ∷ zs)) a

chosen_three : (choose : ℤ → ℤ → ℤ) (s : ℤ) (zs : List ℤ) (a b c : ℤ) → IsChoice choose → chosen choose (s ∷ (zs ++ a ∷ b ∷ c ∷ [])) ≡ choose (choose (choose (chosen choose (s ∷ zs)) a) b) c
chosen_three choose s zs a b c is =
    let split : zs ++ a ∷ b ∷ c ∷ [] ≡ ((zs ++ a ∷ []) ++ b ∷ []) ++ c ∷ [] = simp append_assoc in
    ap (λ xs. chosen choose (s ∷ xs)) split
    ∙ chosen_more choose s ((zs ++ a ∷ []) ++ b ∷ []) c is
    ∙ ap (λ z. choose z c) (chosen_more choose s (zs ++ a ∷ []) b is ∙ ap (λ z. choose z b) (chosen_more choose s zs a is))

chosen_twice : (choose : ℤ → ℤ → ℤ) (s : ℤ) (zs : List ℤ) → IsChoice choose → chosen choose (s ∷ s ∷ zs) ≡ chosen choose (s ∷ zs)
chosen_twice choose s [] is = is.repeats s
chosen_twice choose s (z ∷ zs) is = is.regroups s s (chosen choose (z ∷ zs)) ∙ ap (λ x. choose x (chosen choose (z ∷ zs))) (is.repeats s)

-- ---- over the corners of a mesh

coordinates_more : (part : Point3 → ℤ) (mesh : List Facet) (k : ℕ) (d : Facet) → k < length mesh
    → coordinates part (take (k + 1) mesh) ≡ coordinates part (take k mesh) ++ coordinates part (get_or mesh k d ∷ [])
coordinates_more part mesh k d less =
    ap (coordinates part) (take_more mesh k d less)
    ∙ flat_map-append (λ f. part f.a ∷ part f.b ∷ part f.c ∷ []) (take k mesh) (get_or mesh k d ∷ [])

-- what was chosen among a number and the corners of the first k facets
pub record IsChosen (choose : ℤ → ℤ → ℤ) (part : Point3 → ℤ) (start : ℤ) (mesh : List Facet) (k : ℕ) (z : ℤ) : Type 0 where
  pub value : z ≡ chosen choose (start ∷ coordinates part (take k mesh))
  pub near : Within (10 ^ 9) z

pub chosen_none : (choose : ℤ → ℤ → ℤ) (part : Point3 → ℤ) (start : ℤ) (mesh : List Facet) → Within (10 ^ 9) start → IsChosen choose part start mesh 0 start
chosen_none choose part start mesh near = record { value = refl; near = near }

pub chosen_next : (choose : ℤ → ℤ → ℤ) (part : Point3 → ℤ) (start : ℤ) (mesh : List Facet) (k : ℕ) (d : Facet) (old new : ℤ) → IsChoice choose → IsChosen choose part start mesh k old → k < length mesh → new ≡ with_corners choose part (get_or mesh k d) old → Within (10 ^ 9) new → IsChosen choose part start mesh (k + 1) new
chosen_next choose part start mesh k d old new is so less en near =
    record {
      value =
          en ∙ ap (with_corners choose part (get_or mesh k d)) so.value
          ∙ sym (chosen_three choose start (coordinates part (take k mesh)) _ _ _ is)
          ∙ sym (ap (λ zs. chosen choose (start ∷ zs)) (coordinates_more part mesh k d less));
      near = near;
    }

take_whole : {X : Type 0} (xs : List X) (k : ℕ) → k ≡ length xs → take k xs ≡ xs
take_whole xs k e = ap (λ n. take n xs) e ∙ take-length xs

pub chosen_all : (choose : ℤ → ℤ → ℤ) (part : Point3 → ℤ) (start : ℤ) (mesh : List Facet) (k : ℕ) (d : Facet) (z : ℤ) → IsChoice choose → IsChosen choose part start mesh k z → k ≡ length mesh → 1 ≤ length mesh → start ≡ part (get_or mesh 0 d).a → z ≡ chosen choose (coordinates part mesh)
chosen_all choose part start [] k d z is so all some es = absurd (omega arith)
chosen_all choose part start (f ∷ fs) k d z is so all some es =
    so.value
    ∙ ap (λ gs. chosen choose (start ∷ coordinates part gs)) (take_whole (f ∷ fs) k all)
    ∙ ap (λ s. chosen choose (s ∷ coordinates part (f ∷ fs))) es
    ∙ chosen_twice choose (part f.a) (part f.b ∷ part f.c ∷ coordinates part fs) is
