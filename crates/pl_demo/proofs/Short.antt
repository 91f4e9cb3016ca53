-- How long the texts of a demo can be.
use Rattle.std.proofs.Common.{ℕ, ◌*◌, ◌%◌, ◌/◌, ◌^◌, ◌<◌, ◌≤◌, ◌==◌, Bool, true, false, cond, List, [], ◌∷◌, ◌++◌, length, get_or, arith, length-append}
use Rattle.std.specs.Fmt.{decimal}
use Rattle.std.proofs.lemmas.Fmt.{length-decimal-le}
use Rattle.std.proofs.lemmas.List.Concat.{length-flat_map}
use Rattle.std.proofs.lemmas.List.Sums.{sum_by-le}
use Rattle.pl_demo.specs.declared.solid.Size.{Size}
use Rattle.pl_demo.specs.declared.solid.Corners.{Corners}
use Rattle.pl_demo.specs.Lines.{line_of}
use Rattle.pl_demo.specs.Numbers.{density_of}
use Rattle.pl_demo.specs.Box.{coordinate_of, vertex_words, facet_text, facets, facets_text, box_text}
use Rattle.pl_demo.specs.Script.{size_of, percent_of}

two_digits : (k : ℕ) → k < 100 → length (decimal k) ≤ 2
two_digits k low = length-decimal-le 2 k (omega arith) low (omega arith)

pub record IsSmall (size : Size) : Type 0 where
  pub x : size.x < 100
  pub y : size.y < 100
  pub z : size.z < 100

coordinate_small : (length bit : ℕ) → length < 100 → coordinate_of length bit < 100
coordinate_small length bit low = either (bit == 1)
  where
    either : (b : Bool) → cond b length 0 < 100
    either true = low
    either false = omega arith

short_vertex : (size : Size) (corner : ℕ) → IsSmall size → length (line_of (vertex_words size corner)) ≤ 16
short_vertex size corner small =
    let x : List ℕ = decimal (coordinate_of size.x (corner % 2)) in
    let y : List ℕ = decimal (coordinate_of size.y (corner / 2 % 2)) in
    let z : List ℕ = decimal (coordinate_of size.z (corner / 4 % 2)) in
    let a : length x ≤ 2 = two_digits _ (coordinate_small size.x (corner % 2) small.x) in
    let b : length y ≤ 2 = two_digits _ (coordinate_small size.y (corner / 2 % 2) small.y) in
    let d : length z ≤ 2 = two_digits _ (coordinate_small size.z (corner / 4 % 2) small.z) in
    joined x y z a b d
  where
    joined : (x y z : List ℕ) → length x ≤ 2 → length y ≤ 2 → length z ≤ 2 → length (118 ∷ 101 ∷ 114 ∷ 116 ∷ 101 ∷ 120 ∷ 32 ∷ (x ++ 32 ∷ (y ++ 32 ∷ (z ++ 10 ∷ [])))) ≤ 16
    joined x y z a b d =
        let one = length-append x (32 ∷ (y ++ 32 ∷ (z ++ 10 ∷ []))) in
        let two = length-append y (32 ∷ (z ++ 10 ∷ [])) in
        let three = length-append z (10 ∷ []) in
        omega (arith, one, two, three, a, b, d)

short_facet : (size : Size) (corners : Corners) → IsSmall size → length (facet_text size corners) ≤ 100
unfolding facet_text
short_facet size corners small =
    let last : List ℕ = line_of ((101 ∷ 110 ∷ 100 ∷ 108 ∷ 111 ∷ 111 ∷ 112 ∷ []) ∷ []) ++ line_of ((101 ∷ 110 ∷ 100 ∷ 102 ∷ 97 ∷ 99 ∷ 101 ∷ 116 ∷ []) ∷ []) in
    let u : List ℕ = line_of (vertex_words size corners.0) in
    let v : List ℕ = line_of (vertex_words size corners.1) in
    let w : List ℕ = line_of (vertex_words size corners.2) in
    let a : length u ≤ 16 = short_vertex size corners.0 small in
    let b : length v ≤ 16 = short_vertex size corners.1 small in
    let d : length w ≤ 16 = short_vertex size corners.2 small in
    let one = length-append u (v ++ (w ++ last)) in
    let two = length-append v (w ++ last) in
    let three = length-append w last in
    omega (arith, one, two, three, a, b, d)

short_facets : (size : Size) → IsSmall size → length (facets_text size) ≤ 1200
unfolding facets_text
short_facets size small =
    let sum = length-flat_map (facet_text size) facets in
    let low : _ ≤ 12 * 100 = sum_by-le (λ corners. length (facet_text size corners)) 100 facets (λ k d within. short_facet size (get_or facets k d) small) in
    omega (arith, sum, low)

pub short_box : (size : Size) → IsSmall size → length (box_text size) ≤ 2 ^ 28
short_box size small =
    let last : List ℕ = line_of ((101 ∷ 110 ∷ 100 ∷ 115 ∷ 111 ∷ 108 ∷ 105 ∷ 100 ∷ []) ∷ (98 ∷ 111 ∷ 120 ∷ []) ∷ []) in
    let inner = short_facets size small in
    let parts = length-append (facets_text size) last in
    omega (arith, inner, parts)

pub small_sizes : (n i : ℕ) → IsSmall (size_of n i)
small_sizes n i = record { x = omega arith; y = omega arith; z = omega arith }

pub short_percent : (n i : ℕ) → length (percent_of (density_of n i)) ≤ 2 ^ 28
short_percent n i =
    let low : length (decimal (density_of n i)) ≤ 2 = two_digits (density_of n i) (omega arith) in
    let parts = length-append (decimal (density_of n i)) (37 ∷ []) in
    omega (arith, low, parts)
