-- The footprints of objects on the bed.
use Rattle.std.proofs.Common.{◌≡◌, ℤ, ℕ, pos, ◌+ℤ◌, ◌-ℤ◌, ◌+◌, ◌<◌, ◌≤◌, Bool, true, false, ◌||◌, List, [], ◌∷◌, length, get_or, take, slice_get, None, refl, sym, ◌∙◌, ap, subst, arith}
use Rattle.std.specs.List.{list_any}
use Rattle.std.proofs.Math.Bool.{or-false}
use Rattle.std.proofs.lemmas.Bool.{false_from_ne_true}
use Rattle.std.proofs.lemmas.List.{get_or_default, take_more, take_all}
use Rattle.std.proofs.lemmas.List.Folds.{list_any-append}
use Rattle.pl_grid.specs.Planes.{Cells, IsFull, filled, plane_of}
use Rattle.pl_grid.proofs.PlaneLemmas.{is_plane_of, IsFull-plane_of, filled_at, filled_in, same_tests}
use Rattle.pl_rings.proofs.SideNumbers.{IsIn, filled_in as filled_in_box}
use Rattle.pl_fill.specs.Surfaces.{layer_at}
use Rattle.pl_adhesion.specs.Bed.{bed_with}
use Rattle.pl_model.specs.declared.instances.Shift.{Shift}
use Rattle.pl_model.specs.Problem.{cell_of}
use Rattle.pl_prints.specs.Footprints.{Footprint, stands_at, IsBed}
use Rattle.pl_values.specs.PrintValues.{bed}

or_assoc : (a b c : Bool) → ((a || b) || c) ≡ (a || (b || c))
or_assoc true b c = refl
or_assoc false b c = refl

-- ---- planes of the bed

pub made_bed : (p : Cells) (t : ℤ → ℤ → Bool) → p ≡ plane_of bed t → IsBed p
made_bed p t is = record { bounds = ap (λ (q : Cells). q.bounds) is; full = subst IsFull (sym is) (IsFull-plane_of bed t) }

-- a plane is that of its cells
same_cells : (p : Cells) (more : ℤ → ℤ → Bool) → IsFull p → ((x y : ℤ) → more x y ≡ false) → p ≡ plane_of p.bounds (λ x y. filled p x y || more x y)
same_cells p more full none =
    is_plane_of p (λ x y. filled p x y || more x y) full (λ i j wide high.
    sym (ap (λ b. filled p (p.bounds.x0 +ℤ pos i) (p.bounds.y0 +ℤ pos j) || b) (none (p.bounds.x0 +ℤ pos i) (p.bounds.y0 +ℤ pos j))
    ∙ or-false (filled p (p.bounds.x0 +ℤ pos i) (p.bounds.y0 +ℤ pos j))
    ∙ filled_at p (p.bounds.x0 +ℤ pos i) (p.bounds.y0 +ℤ pos j) i j wide high refl refl))

-- one more of a list stands on the bed
pub stands_more : {A : Type 0} (stands : A → ℤ → ℤ → Bool) (base : ℤ → ℤ → Bool) (xs : List A) (i : ℕ) (x : A) (p q : Cells) → i < length xs → x ≡ get_or xs i x
    → p ≡ plane_of bed (λ u v. base u v || list_any (λ a. stands a u v) (take i xs)) → q ≡ plane_of bed (λ u v. filled p u v || stands x u v)
    → q ≡ plane_of bed (λ u v. base u v || list_any (λ a. stands a u v) (take (i + 1) xs))
stands_more stands base xs i x p q less here old new =
    let before : ℤ → ℤ → Bool = λ u v. base u v || list_any (λ a. stands a u v) (take i xs) in
    new
    ∙ ap (λ c. plane_of bed (λ u v. filled c u v || stands x u v)) old
    ∙ same_tests bed (λ u v. filled (plane_of bed before) u v || stands x u v) (λ u v. base u v || list_any (λ a. stands a u v) (take (i + 1) xs)) (λ c r wide high.
    let u : ℤ = pos 0 +ℤ pos c in
    let v : ℤ = pos 0 +ℤ pos r in
    ap (λ b. b || stands x u v) (filled_in bed before c r wide high)
    ∙ or_assoc (base u v) (list_any (λ a. stands a u v) (take i xs)) (stands x u v)
    ∙ ap (λ b. base u v || (list_any (λ a. stands a u v) (take i xs) || b)) (ap (λ a. stands a u v) here ∙ sym (or-false (stands (get_or xs i x) u v)))
    ∙ ap (λ b. base u v || b) (sym (list_any-append (λ a. stands a u v) (take i xs) (get_or xs i x ∷ [])))
    ∙ ap (λ ys. base u v || list_any (λ a. stands a u v) ys) (sym (take_more xs i x less)))

pub stands_none : {A : Type 0} (stands : A → ℤ → ℤ → Bool) (xs : List A) (p : Cells) → IsBed p → p ≡ plane_of bed (λ u v. filled p u v || list_any (λ a. stands a u v) (take 0 xs))
stands_none stands xs p h = same_cells p (λ u v. false) h.full (λ x y. refl) ∙ ap (λ b. plane_of b (λ u v. filled p u v || false)) h.bounds

pub stands_all : {A : Type 0} (stands : A → ℤ → ℤ → Bool) (base : ℤ → ℤ → Bool) (xs : List A) (i : ℕ) (p : Cells) → length xs ≤ i → p ≡ plane_of bed (λ u v. base u v || list_any (λ a. stands a u v) (take i xs)) → p ≡ plane_of bed (λ u v. base u v || list_any (λ a. stands a u v) xs)
stands_all stands base xs i p all is = is ∙ ap (λ ys. plane_of bed (λ u v. base u v || list_any (λ a. stands a u v) ys)) (take_all i xs all)

pub stands_step : {A : Type 0} (stands : A → ℤ → ℤ → Bool) (base : ℤ → ℤ → Bool) (items xs : List A) (i : ℕ) (d : A) (p q : Cells) → items ≡ xs → i < length items
    → p ≡ plane_of bed (λ u v. base u v || list_any (λ a. stands a u v) (take i xs)) → q ≡ plane_of bed (λ u v. filled p u v || stands (get_or items i d) u v)
    → q ≡ plane_of bed (λ u v. base u v || list_any (λ a. stands a u v) (take (i + 1) xs))
stands_step stands base items xs i d p q same less old new =
    let within : i < length xs = rw (← same) less in
    stands_more stands base xs i (get_or items i d) p q within (ap (λ ys. get_or ys i d) same ∙ get_or_default xs i d (get_or items i d) within) old new

-- ---- one instance

pub put_twice : (p q r s t : Cells) (dx dy : ℤ) → p.bounds ≡ bed → q ≡ bed_with p s dx dy → r ≡ bed_with q t dx dy → r ≡ plane_of bed (λ x y. filled p x y || (filled s (x -ℤ dx) (y -ℤ dy) || filled t (x -ℤ dx) (y -ℤ dy)))
put_twice p q r s t dx dy bounds first second =
    let one : ℤ → ℤ → Bool = λ x y. filled p x y || filled s (x -ℤ dx) (y -ℤ dy) in
    let on : q ≡ plane_of bed one = first ∙ ap (λ b. plane_of b one) bounds in
    second
    ∙ ap (λ c. bed_with c t dx dy) on
    ∙ same_tests bed (λ x y. filled (plane_of bed one) x y || filled t (x -ℤ dx) (y -ℤ dy)) (λ x y. filled p x y || (filled s (x -ℤ dx) (y -ℤ dy) || filled t (x -ℤ dx) (y -ℤ dy))) (λ c r wide high.
    let u : ℤ = pos 0 +ℤ pos c in
    let v : ℤ = pos 0 +ℤ pos r in
    ap (λ b. b || filled t (u -ℤ dx) (v -ℤ dy)) (filled_in bed one c r wide high)
    ∙ or_assoc (filled p u v) (filled s (u -ℤ dx) (v -ℤ dy)) (filled t (u -ℤ dx) (v -ℤ dy)))

-- an object without layers puts nothing
pub put_nothing : (p cells : Cells) (dx dy : ℤ) → IsFull p → cells ≡ layer_at [] 0 → p ≡ bed_with p cells dx dy
put_nothing p cells dx dy full none = same_cells p (λ x y. filled cells (x -ℤ dx) (y -ℤ dy)) full (λ x y. ap (λ c. filled c (x -ℤ dx) (y -ℤ dy)) none ∙ outside (x -ℤ dx) (y -ℤ dy))
  where
    outside : (x y : ℤ) → filled (layer_at [] 0) x y ≡ false
    outside x y = false_from_ne_true _ (λ h. let i : IsIn (layer_at [] 0).bounds x y = filled_in_box (layer_at [] 0) x y h in absurd (omega (arith, i.wide)))

pub no_first : (layers : List Cells) → slice_get layers 0 ≡ None → layer_at layers 0 ≡ layer_at [] 0
no_first [] none = refl
no_first (layer ∷ layers) none = cc

pub instance_put : (seen f : Footprint) (shift : Shift) (dx dy : ℤ) (p q r : Cells) → seen ≡ f → dx ≡ cell_of shift.x → dy ≡ cell_of shift.y → p.bounds ≡ bed → q ≡ bed_with p seen.slice dx dy → r ≡ bed_with q seen.support dx dy
    → r ≡ plane_of bed (λ x y. filled p x y || stands_at f shift x y)
instance_put seen f shift dx dy p q r same ex ey bounds first second =
    put_twice p q r seen.slice seen.support dx dy bounds first second
    ∙ ap (λ d. plane_of bed (λ x y. filled p x y || (filled seen.slice (x -ℤ d) (y -ℤ dy) || filled seen.support (x -ℤ d) (y -ℤ dy)))) ex
    ∙ ap (λ d. plane_of bed (λ x y. filled p x y || (filled seen.slice (x -ℤ cell_of shift.x) (y -ℤ d) || filled seen.support (x -ℤ cell_of shift.x) (y -ℤ d)))) ey
    ∙ ap (λ g. plane_of bed (λ x y. filled p x y || stands_at g shift x y)) same

pub still_bed : (p q s : Cells) (dx dy : ℤ) → IsBed p → q ≡ bed_with p s dx dy → IsBed q
still_bed p q s dx dy h is = made_bed q (λ x y. filled p x y || filled s (x -ℤ dx) (y -ℤ dy)) (is ∙ ap (λ b. plane_of b (λ x y. filled p x y || filled s (x -ℤ dx) (y -ℤ dy))) h.bounds)
