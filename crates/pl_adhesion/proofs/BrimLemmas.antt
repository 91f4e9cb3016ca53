-- The loops of a bed that is dilated again and again.
use Rattle.std.proofs.Common.{◌≡◌, ◌↔◌, ◌⊎◌, inl, inr, ℤ, ℕ, zero, suc, pos, ◌+ℤ◌, ◌-ℤ◌, ◌+◌, ◌≤◌, Bool, true, false, List, [], ◌∷◌, ◌++◌, length, reverse, refl, sym, ◌∙◌, ap, subst, arith, add-one, is_some, length-append}
use Rattle.std.specs.declared.option.Option.{Option}
use Rattle.std.specs.declared.option.Option.TheVariants.{Some, None}
use Rattle.std.specs.List.{All, flat_map, range_with_len}
use Rattle.std.proofs.lemmas.Bool.{both_ways, and_from, and_right, or_left, or_from, false_from_ne_true}
use Rattle.std.proofs.lemmas.Int.{ints}
use Rattle.std.proofs.lemmas.List.{reverse-append, reverse-reverse}
use Rattle.std.proofs.lemmas.List.Elements.{All-nil, All-append}
use Rattle.pl_grid.specs.Extent.{Extent, IsExtent, grown, place_of}
use Rattle.pl_grid.specs.Planes.{Cells, filled, value_at, comes, dilated, widened}
use Rattle.pl_grid.specs.declared.stroke.Corner.{Corner}
use Rattle.pl_grid.proofs.PlaneLemmas.{filled-plane_of}
use Rattle.pl_rings.specs.Sides.{loops_of}
use Rattle.pl_rings.proofs.SideNumbers.{IsIn, filled_in}
use Rattle.pl_adhesion.specs.Bed.{IsBare, IsOnBed}
use Rattle.pl_adhesion.specs.Brim.{dilated_times, spread, brim_of}
use Rattle.pl_adhesion.specs.NearLoops.{IsNearLoop}
use Rattle.pl_adhesion.proofs.BareLoops.{loops_some, loops_none}
use Rattle.pl_adhesion.proofs.Descending.{nothing}
use Rattle.pl_adhesion.proofs.LoopBounds.{near_loops}
use Rattle.pl_adhesion.proofs.Places.{inside_from}

-- ---- the outermost ring comes first

range_more : (a n : ℕ) → range_with_len a (suc n) ≡ range_with_len a n ++ (a + n) ∷ []
range_more a zero = let e : a ≡ a + 0 = omega arith in ap (λ k. k ∷ []) e
range_more a (suc n) =
    let e : a + 1 + n ≡ a + suc n = omega arith in
    ap (λ ks. a ∷ ks) (range_more (a + 1) n ∙ ap (λ k. range_with_len (a + 1) n ++ k ∷ []) e)

rings_more : (ring : ℕ → List (List Corner)) (n : ℕ) → flat_map ring (reverse (range_with_len 1 (suc n))) ≡ ring (suc n) ++ flat_map ring (reverse (range_with_len 1 n))
rings_more ring n =
    let e : 1 + n ≡ suc n = omega arith in
    ap (λ ks. flat_map ring (reverse ks)) (range_more 1 n)
    ∙ ap (flat_map ring) (reverse-append (range_with_len 1 n) ((1 + n) ∷ []))
    ∙ ap (λ k. ring k ++ flat_map ring (reverse (range_with_len 1 n))) e

-- ---- one dilation after another

-- after k dilations: the plane, and the loops so far, the last first
pub record Spread (bed : Cells) (width k : ℕ) (plane : Cells) (found : List (List Corner)) : Type 0 where
  pub plane_is : plane ≡ spread width bed k
  pub loops : found ≡ reverse (flat_map (λ j. loops_of (spread width bed j)) (reverse (range_with_len 1 k)))

pub spread_none : (bed : Cells) (width : ℕ) (plane : Cells) → plane ≡ widened width bed → Spread bed width 0 plane []
spread_none bed width plane e = record { plane_is = e; loops = refl }

pub spread_more : (bed : Cells) (width k : ℕ) (plane next : Cells) (old new loops : List (List Corner)) → Spread bed width k plane old → next ≡ dilated plane → loops ≡ loops_of next → new ≡ old ++ reverse loops → Spread bed width (k + 1) next new
spread_more bed width k plane next old new loops w step is more =
    let ring : ℕ → List (List Corner) = λ j. loops_of (spread width bed j) in
    let here : next ≡ spread width bed (suc k) = step ∙ ap dilated w.plane_is in
    record {
      plane_is = here ∙ ap (spread width bed) (sym (add-one k));
      loops =
          more
          ∙ ap (λ ls. ls ++ reverse loops) w.loops
          ∙ ap (λ ls. reverse (flat_map ring (reverse (range_with_len 1 k))) ++ reverse ls) (is ∙ ap loops_of here)
          ∙ sym (reverse-append (ring (suc k)) (flat_map ring (reverse (range_with_len 1 k))))
          ∙ ap reverse (sym (rings_more ring k))
          ∙ ap (λ n. reverse (flat_map ring (reverse (range_with_len 1 n)))) (sym (add-one k));
    }

pub spread_all : (bed : Cells) (width k : ℕ) (plane : Cells) (found all : List (List Corner)) → Spread bed width k plane found → k ≡ width → all ≡ reverse found → all ≡ brim_of bed width
spread_all bed width k plane found all w last back =
    back
    ∙ ap reverse w.loops
    ∙ reverse-reverse (flat_map (λ j. loops_of (spread width bed j)) (reverse (range_with_len 1 k)))
    ∙ ap (λ n. flat_map (λ j. loops_of (spread width bed j)) (reverse (range_with_len 1 n))) last

-- ---- the loops are near

pub room_on_bed : (b : Extent) (width : ℕ) → IsOnBed b → width ≤ 100 → IsExtent (grown width b)
room_on_bed b width on few = record {
  left = omega (arith, ints, on.left);
  right = omega (arith, ints, on.right);
  bottom = omega (arith, ints, on.bottom);
  top = omega (arith, ints, on.top);
  wide = omega (arith, ints, on.left, on.right);
  high = omega (arith, ints, on.bottom, on.top);
}

pub same_box : (n : ℕ) (p : Cells) → (dilated_times n p).bounds ≡ p.bounds
same_box zero p = refl
same_box (suc n) p = same_box n p

All-flat_map : {X : Type 0} (P : X → Type 0) (f : ℕ → List X) (ks : List ℕ) → ((k : ℕ) → All P (f k)) → All P (flat_map f ks)
All-flat_map P f [] h = All-nil P
All-flat_map P f (k ∷ ks) h = All-append P (f k) (flat_map f ks) (h k) (All-flat_map P f ks h)

pub near_brim : (bed : Cells) (width : ℕ) → IsOnBed bed.bounds → width ≤ 100 → All IsNearLoop (brim_of bed width)
near_brim bed width on few =
    All-flat_map IsNearLoop (λ j. loops_of (spread width bed j)) (reverse (range_with_len 1 width)) (λ j.
    near_loops (spread width bed j) (subst IsExtent (sym (same_box j (widened width bed))) (room_on_bed bed.bounds width on few)))

-- ---- no loop without a cell

inside_value : (cells : List Bool) (o : Option ℕ) → value_at cells o ≡ true → is_some o ≡ true
inside_value cells None h = absurd (both_ways false refl h)
inside_value cells (Some k) h = refl

keeps_filled : (p : Cells) (x y : ℤ) → filled p x y ≡ true → filled (dilated p) x y ≡ true
keeps_filled p x y h =
    filled-plane_of p.bounds (comes p) x y
    ∙ and_from _ _ (inside_value p.cells (place_of p.bounds x y) h) (or_left _ _ (or_left _ _ (or_left _ _ (or_left _ _ h))))

pub widens_filled : (n : ℕ) (p : Cells) (x y : ℤ) → filled p x y ≡ true → filled (widened n p) x y ≡ true
widens_filled n p x y h =
    let i : IsIn p.bounds x y = filled_in p x y h in
    let wide : IsIn (grown n p.bounds) x y = record { column = i.column + n; row = i.row + n; wide = omega (arith, i.wide); high = omega (arith, i.high); x_is = omega (arith, ints, i.x_is); y_is = omega (arith, ints, i.y_is) } in
    filled-plane_of (grown n p.bounds) (filled p) x y ∙ and_from _ _ (inside_from (grown n p.bounds) x y wide) h

spread_filled : (p : Cells) (x y : ℤ) (j : ℕ) → filled p x y ≡ true → filled (dilated_times j p) x y ≡ true
spread_filled p x y zero h = h
spread_filled p x y (suc j) h = keeps_filled (dilated_times j p) x y (spread_filled p x y j h)

bare_dilated : (p : Cells) → IsBare p → IsBare (dilated p)
bare_dilated p bare x y =
    filled-plane_of p.bounds (comes p) x y
    ∙ and_right _ _ (or_from _ _ (or_from _ _ (or_from _ _ (or_from _ _ (bare x y) (bare (x -ℤ pos 1) y)) (bare (x +ℤ pos 1) y)) (bare x (y -ℤ pos 1))) (bare x (y +ℤ pos 1)))

bare_times : (p : Cells) (j : ℕ) → IsBare p → IsBare (dilated_times j p)
bare_times p zero bare = bare
bare_times p (suc j) bare = bare_dilated (dilated_times j p) (bare_times p j bare)

bare_spread : (bed : Cells) (width j : ℕ) → IsBare bed → IsBare (spread width bed j)
bare_spread bed width j bare = bare_times (widened width bed) j (λ x y. filled-plane_of (grown width bed.bounds) (filled bed) x y ∙ and_right _ _ (bare x y))

flat_none : {X : Type 0} (f : ℕ → List X) (ks : List ℕ) → ((k : ℕ) → f k ≡ []) → flat_map f ks ≡ []
flat_none f [] h = refl
flat_none f (k ∷ ks) h = ap (λ xs. xs ++ flat_map f ks) (h k) ∙ flat_none f ks h

first_empty : {X : Type 0} (xs ys : List X) → xs ++ ys ≡ [] → xs ≡ []
first_empty xs ys e = nothing xs (omega (arith, length-append xs ys, ap length e))

brim_bare : (bed : Cells) (width : ℕ) → brim_of bed width ≡ [] → (width ≡ 0) ⊎ IsBare bed
brim_bare bed zero e = inl refl
brim_bare bed (suc n) e =
    let ring : ℕ → List (List Corner) = λ j. loops_of (spread (suc n) bed j) in
    inr (λ x y. false_from_ne_true _ (λ h.
    loops_some (spread (suc n) bed (suc n)) x y (spread_filled (widened (suc n) bed) x y (suc n) (widens_filled (suc n) bed x y h))
    (first_empty (ring (suc n)) (flat_map ring (reverse (range_with_len 1 n))) (sym (rings_more ring n) ∙ e))))

no_brim : (bed : Cells) (width : ℕ) → (width ≡ 0) ⊎ IsBare bed → brim_of bed width ≡ []
no_brim bed width (inl e) = ap (λ n. flat_map (λ j. loops_of (spread width bed j)) (reverse (range_with_len 1 n))) e
no_brim bed width (inr bare) = flat_none (λ j. loops_of (spread width bed j)) (reverse (range_with_len 1 width)) (λ j. loops_none (spread width bed j) (bare_spread bed width j bare))

pub brim_empty : (bed : Cells) (width : ℕ) (found : List (List Corner)) → found ≡ brim_of bed width → (found ≡ []) ↔ ((width ≡ 0) ⊎ IsBare bed)
brim_empty bed width found e = (λ h. brim_bare bed width (sym e ∙ h), λ h. e ∙ no_brim bed width h)
