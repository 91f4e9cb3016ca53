-- How far the filled cells of a plane reach, found one after another.
use Rattle.std.proofs.Common.{◌≡◌, ◌⊎◌, inl, inr, ℤ, ℕ, pos, ◌+ℤ◌, ◌+◌, ◌*◌, ◌/◌, ◌%◌, ◌<◌, Bool, true, false, ◌&&◌, ◌||◌, if◌then◌else◌, Some, None, List, length, refl, sym, ◌∙◌, ap, subst, arith}
use Rattle.std.specs.declared.option.Option.{Option}
use Rattle.std.specs.Ordering.{int_eq}
use Rattle.std.specs.List.{list_any, filter}
use Rattle.std.proofs.lemmas.Bool.{cases_lt, both_ways, and_parts, and_from, or_cases, or_left, or_right}
use Rattle.std.proofs.lemmas.Bool.Decides.{Decides-int_eq}
use Rattle.std.proofs.lemmas.List.{get_or_past}
use Rattle.std.proofs.lemmas.List.Elements.{All-from_get_or}
use Rattle.std.proofs.lemmas.List.Folds.{Any-from_list_any, list_any_at, list_any_none}
use Rattle.std.proofs.lemmas.List.FromFn.{length-map-range_with_len, get_or-map-range_with_len}
use Rattle.std.specs.Option.{IfSome, MatchOption}
use Rattle.std.proofs.lemmas.Int.{ints}
use Rattle.pl_grid.specs.Extent.{Extent, place_of}
use Rattle.pl_grid.specs.Planes.{Cells, filled, value_at, IsFull}
use Rattle.pl_rings.proofs.SideNumbers.{IsIn, filled_in}
use Rattle.pl_adhesion.specs.declared.reach.Reach.{Reach}
use Rattle.pl_adhesion.specs.declared.reach.Span.{Span}
use Rattle.pl_adhesion.specs.Bed.{IsBare, IsOnBed}
use Rattle.pl_adhesion.specs.Reach.{numbers_from, columns_of, rows_of, column_has, row_has, span_of, has_cell, reach_of, reach_if, reach_with, IsNearReach}
use Rattle.pl_adhesion.proofs.Places.{IsPlace, front, front_none, front_all, front_more, front_skip, filled_place}
use Rattle.pl_adhesion.proofs.Spans.{IsSpan, span_one, span_more, span_same, span_is}

abbrev pub has_in_column : Cells → ℤ → Type 0
has_in_column p x = (y : ℤ) × (filled p x y ≡ true)

abbrev pub has_in_row : Cells → ℤ → Type 0
has_in_row p y = (x : ℤ) × (filled p x y ≡ true)

-- the reach is that of the filled cells
pub record IsReached (p : Cells) (r : Reach) : Type 0 where
  pub columns : IsSpan (has_in_column p) r.columns
  pub rows : IsSpan (has_in_row p) r.rows

abbrev pub IsReachOf : Cells → Option Reach → Type 0
IsReachOf p None = IsBare p
IsReachOf p (Some r) = IsReached p r

-- what has been found among the first k cells
pub record Found (p : Cells) (k : ℕ) (reach : Option Reach) : Type 0 where
  pub is : IsReachOf (front k p) reach

pub found_none : (p : Cells) → Found p 0 None
found_none p = record { is = front_none p }

-- one plane has one filled cell more than another
record Adds (old new : Cells) (x y : ℤ) : Type 0 where
  pub keeps : (u v : ℤ) → filled old u v ≡ true → filled new u v ≡ true
  pub here : filled new x y ≡ true
  pub only : (u v : ℤ) → filled new u v ≡ true → (filled old u v ≡ true) ⊎ ((u ≡ x) × (v ≡ y))

adds_cell : (p : Cells) (x y : ℤ) (k : ℕ) → k < p.bounds.cols * p.bounds.rows → IsPlace p.bounds k x y → filled p x y ≡ true → Adds (front k p) (front (k + 1) p) x y
adds_cell p x y k less at some =
    let more : (u v : ℤ) → filled (front (k + 1) p) u v ≡ (filled (front k p) u v || ((int_eq u x && int_eq v y) && filled p x y)) = λ u v. front_more p x y u v k less at in
    record {
      keeps = λ u v h. more u v ∙ or_left _ _ h;
      here = more x y ∙ or_right _ _ (and_from _ _ (and_from _ _ ((Decides-int_eq x x).1 refl) ((Decides-int_eq y y).1 refl)) some);
      only = λ u v h.
          elim (or_cases (filled (front k p) u v) ((int_eq u x && int_eq v y) && filled p x y) (sym (more u v) ∙ h)) [
            | inl before ↦ inl before
            | inr now ↦
                let both : (int_eq u x ≡ true) × (int_eq v y ≡ true) = and_parts _ _ (and_parts _ _ now).0 in
                inr ((Decides-int_eq u x).0 both.0, (Decides-int_eq v y).0 both.1)
          ];
    }

same_reach : (old new : Cells) (reach : Option Reach) → ((u v : ℤ) → filled new u v ≡ filled old u v) → IsReachOf old reach → IsReachOf new reach
same_reach old new None same w = λ u v. same u v ∙ w u v
same_reach old new (Some r) same w = record {
  columns = span_same (has_in_column old) (has_in_column new) r.columns (λ u h. (h.0, same u h.0 ∙ h.1)) (λ u h. (h.0, sym (same u h.0) ∙ h.1)) w.columns;
  rows = span_same (has_in_row old) (has_in_row new) r.rows (λ v h. (h.0, same h.0 v ∙ h.1)) (λ v h. (h.0, sym (same h.0 v) ∙ h.1)) w.rows;
}

pub found_skip : (p : Cells) (x y : ℤ) (k : ℕ) (reach : Option Reach) → Found p k reach → k < p.bounds.cols * p.bounds.rows → IsPlace p.bounds k x y → filled p x y ≡ false → Found p (k + 1) reach
found_skip p x y k reach w less at empty = record { is = same_reach (front k p) (front (k + 1) p) reach (λ u v. front_skip p x y u v k less at empty) w.is }

first_reach : (old new : Cells) (x y : ℤ) → Adds old new x y → IsBare old → IsReached new (reach_with None x y)
first_reach old new x y a bare = record {
  columns = span_one (has_in_column new) x (y, a.here) (λ u w. elim (a.only u w.0 w.1) [ inl before ↦ absurd (both_ways _ (bare u w.0) before) | inr same ↦ same.0 ]);
  rows = span_one (has_in_row new) y (x, a.here) (λ v w. elim (a.only w.0 v w.1) [ inl before ↦ absurd (both_ways _ (bare w.0 v) before) | inr same ↦ same.1 ]);
}

next_reach : (old new : Cells) (r : Reach) (x y : ℤ) → Adds old new x y → IsReached old r → IsReached new (reach_with (Some r) x y)
next_reach old new r x y a w = record {
  columns = span_more (has_in_column old) (has_in_column new) r.columns x w.columns (y, a.here) (λ u h. (h.0, a.keeps u h.0 h.1)) (λ u h. elim (a.only u h.0 h.1) [ inl before ↦ inl (h.0, before) | inr same ↦ inr same.0 ]);
  rows = span_more (has_in_row old) (has_in_row new) r.rows y w.rows (x, a.here) (λ v h. (h.0, a.keeps h.0 v h.1)) (λ v h. elim (a.only h.0 v h.1) [ inl before ↦ inl (h.0, before) | inr same ↦ inr same.1 ]);
}

reach_grows : (old new : Cells) (reach : Option Reach) (x y : ℤ) → Adds old new x y → IsReachOf old reach → IsReached new (reach_with reach x y)
reach_grows old new None x y a w = first_reach old new x y a w
reach_grows old new (Some r) x y a w = next_reach old new r x y a w

pub found_more : (p : Cells) (x y : ℤ) (k : ℕ) (reach : Option Reach) (next : Reach) → Found p k reach → k < p.bounds.cols * p.bounds.rows → IsPlace p.bounds k x y → filled p x y ≡ true → next ≡ reach_with reach x y → Found p (k + 1) (Some next)
found_more p x y k reach next w less at some e =
    let P : Reach → Type 0 = λ r. IsReached (front (k + 1) p) r in
    record { is = subst P (sym e) (reach_grows (front k p) (front (k + 1) p) reach x y (adds_cell p x y k less at some) w.is) }

-- ---- the reach of the whole plane

value_is : (cells : List Bool) (o : Option ℕ) → value_at cells o ≡ true → list_any (λ b. b) cells ≡ true
value_is cells None h = absurd (both_ways false refl h)
value_is cells (Some k) h =
    elim (cases_lt k (length cells)) [
      | inl less ↦ list_any_at (λ b. b) cells k false less h
      | inr past ↦ absurd (both_ways _ (get_or_past cells k false past) h)
    ]

pub has_some : (p : Cells) (x y : ℤ) → filled p x y ≡ true → has_cell p ≡ true
has_some p x y h = value_is p.cells (place_of p.bounds x y) h

pub has_none : (p : Cells) → IsFull p → IsBare p → has_cell p ≡ false
has_none p full bare =
    list_any_none (λ b. b) p.cells (All-from_get_or (λ b. b ≡ false) p.cells false (λ k less.
    sym (filled_place p (p.bounds.x0 +ℤ pos (k % p.bounds.cols)) (p.bounds.y0 +ℤ pos (k / p.bounds.cols)) k (omega (arith, full)) (record { x_is = refl; y_is = refl }))
    ∙ bare (p.bounds.x0 +ℤ pos (k % p.bounds.cols)) (p.bounds.y0 +ℤ pos (k / p.bounds.cols))))

-- a number that passes is one of the list, and the other way round
any_of : (t : ℤ → Bool) (low : ℤ) (n i : ℕ) (z : ℤ) → z ≡ low +ℤ pos i → i < n → t z ≡ true → list_any t (numbers_from low n) ≡ true
any_of t low n i z e less h =
    let count : length (numbers_from low n) ≡ n = length-map-range_with_len (λ j. low +ℤ pos j) 0 n in
    list_any_at t (numbers_from low n) i (pos 0) (omega (arith, count)) (ap t (get_or-map-range_with_len (λ j. low +ℤ pos j) 0 n i i (pos 0) less (omega arith) ∙ sym e) ∙ h)

some_of : (t : ℤ → Bool) (zs : List ℤ) → list_any t zs ≡ true → (z : ℤ) × (t z ≡ true)
some_of t zs h = let w = Any-from_list_any t zs h in (w.1, w.4)

columns_are : (p : Cells) (s : Span) → IsSpan (has_in_column p) s → s ≡ span_of (filter (column_has p) (columns_of p.bounds))
columns_are p s w =
    let a : IsIn p.bounds s.least w.least.met.0 = filled_in p _ _ w.least.met.1 in
    let b : IsIn p.bounds s.greatest w.greatest.met.0 = filled_in p _ _ w.greatest.met.1 in
    span_is (column_has p) p.bounds.x0 p.bounds.cols a.column b.column s
    (span_same (has_in_column p) (λ x. column_has p x ≡ true) s
    (λ x h. let i : IsIn p.bounds x h.0 = filled_in p _ _ h.1 in any_of (λ y. filled p x y) p.bounds.y0 p.bounds.rows i.row h.0 i.y_is i.high h.1)
    (λ x h. some_of (λ y. filled p x y) (rows_of p.bounds) h) w) a.x_is a.wide b.x_is b.wide

rows_are : (p : Cells) (s : Span) → IsSpan (has_in_row p) s → s ≡ span_of (filter (row_has p) (rows_of p.bounds))
rows_are p s w =
    let a : IsIn p.bounds w.least.met.0 s.least = filled_in p _ _ w.least.met.1 in
    let b : IsIn p.bounds w.greatest.met.0 s.greatest = filled_in p _ _ w.greatest.met.1 in
    span_is (row_has p) p.bounds.y0 p.bounds.rows a.row b.row s
    (span_same (has_in_row p) (λ y. row_has p y ≡ true) s
    (λ y h. let i : IsIn p.bounds h.0 y = filled_in p _ _ h.1 in any_of (λ x. filled p x y) p.bounds.x0 p.bounds.cols i.column h.0 i.x_is i.wide h.1)
    (λ y h. some_of (λ x. filled p x y) (columns_of p.bounds) h) w) a.y_is a.high b.y_is b.high

reach_is : (p : Cells) (r : Reach) → IsReached p r → r ≡ reach_of p
reach_is p r w =
    ap (λ s. record { columns = s; rows = r.rows }) (columns_are p r.columns w.columns)
    ∙ ap (λ s. record { columns = span_of (filter (column_has p) (columns_of p.bounds)); rows = s }) (rows_are p r.rows w.rows)

is_reach : (p : Cells) (reach : Option Reach) → IsFull p → IsReachOf p reach → reach ≡ reach_if p
is_reach p None full bare = sym (ap (λ b. if b then Some (reach_of p) else None) (has_none p full bare))
is_reach p (Some r) full w =
    ap Some (reach_is p r w)
    ∙ sym (ap (λ b. if b then Some (reach_of p) else None) (has_some p r.columns.least w.columns.least.met.0 w.columns.least.met.1))

pub found_all : (p : Cells) (k : ℕ) (reach : Option Reach) → Found p k reach → IsFull p → k ≡ p.bounds.cols * p.bounds.rows → reach ≡ reach_if p
found_all p k reach w full e =
    let P : Cells → Type 0 = λ q. IsReachOf q reach in
    is_reach p reach full (subst P (front_all p k full e) w.is)

-- a reach has a filled cell
is_bare : (p : Cells) (reach : Option Reach) → IsReachOf p reach → MatchOption reach (IsBare p) (λ _. IsBare p → ⊥)
is_bare p None bare = bare
is_bare p (Some r) w = λ bare. both_ways _ (bare r.columns.least w.columns.least.met.0) w.columns.least.met.1

pub found_bare : (p : Cells) (k : ℕ) (reach : Option Reach) → Found p k reach → IsFull p → k ≡ p.bounds.cols * p.bounds.rows → MatchOption reach (IsBare p) (λ _. IsBare p → ⊥)
found_bare p k reach w full e =
    let P : Cells → Type 0 = λ q. IsReachOf q reach in
    is_bare p reach (subst P (front_all p k full e) w.is)

-- and lies on the bed where the plane does
near_reach : (b : Extent) (p : Cells) (reach : Option Reach) → IsOnBed b → p.bounds ≡ b → IsReachOf p reach → IfSome reach IsNearReach
near_reach b p None on same w = tt
near_reach b p (Some r) on same w =
    let l : IsIn p.bounds r.columns.least w.columns.least.met.0 = filled_in p _ _ w.columns.least.met.1 in
    let g : IsIn p.bounds r.columns.greatest w.columns.greatest.met.0 = filled_in p _ _ w.columns.greatest.met.1 in
    let d : IsIn p.bounds w.rows.least.met.0 r.rows.least = filled_in p _ _ w.rows.least.met.1 in
    let u : IsIn p.bounds w.rows.greatest.met.0 r.rows.greatest = filled_in p _ _ w.rows.greatest.met.1 in
    let bed : IsOnBed p.bounds = subst IsOnBed (sym same) on in
    record {
      left = record { low = omega (arith, ints); high = omega (arith, ints) };
      right = record { low = omega (arith, ints); high = omega (arith, ints) };
      bottom = record { low = omega (arith, ints); high = omega (arith, ints) };
      top = record { low = omega (arith, ints); high = omega (arith, ints) };
    }

pub found_near : (p : Cells) (k : ℕ) (reach : Option Reach) → IsOnBed p.bounds → Found p k reach → IfSome reach IsNearReach
found_near p k reach on w = near_reach p.bounds (front k p) reach on refl w.is
