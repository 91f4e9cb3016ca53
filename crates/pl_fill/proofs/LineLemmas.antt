-- The runs and strokes of one line.
use Rattle.std.proofs.Common.{◌≡◌, ℤ, ℕ, pos, neg_ℤ, ◌+ℤ◌, ◌≤ℤ◌, ◌+◌, ◌-◌, ◌<◌, ◌≤◌, Bool, true, false, List, [], ◌∷◌, ◌++◌, length, map, reverse, get_or, drop, refl, sym, ◌∙◌, ap, arith}
use Rattle.std.specs.List.{range_with_len, filter, prefix_len, All}
use Rattle.std.specs.Int.{int_rem_euclid}
use Rattle.std.proofs.lemmas.Grind.{reverse_onto}
use Rattle.std.proofs.lemmas.Int.{ints}
use Rattle.std.proofs.lemmas.List.{map-append, length-drop}
use Rattle.std.proofs.lemmas.List.Elements.{All-map, All-filter, All-from_get_or}
use Rattle.std.proofs.lemmas.List.FromFn.{get_or-range_with_len, length-range_with_len}
use Rattle.std.proofs.lemmas.List.Sums.{prefix_len-le-length}
use Rattle.pl_grid.specs.Extent.{Extent, IsExtent}
use Rattle.pl_grid.specs.Planes.{Cells}
use Rattle.pl_grid.specs.Lines.{first_line, first_place, line_count, line_length, line_runs, line_cells}
use Rattle.pl_grid.specs.Strokes.{starts_run, run_from, runs_in, is_zero}
use Rattle.pl_grid.specs.declared.stroke.Axis.{Axis}
use Rattle.pl_grid.specs.declared.stroke.Axis.TheVariants.{Rows, Columns}
use Rattle.pl_grid.proofs.RunLemmas.{length-line_cells}
use Rattle.pl_fill.specs.Turns.{used_runs, IsNearRun}

pub map-reverse : {A B : Type 0} (f : A → B) (xs : List A) → map f (reverse xs) ≡ reverse (map f xs)
map-reverse f [] = refl
map-reverse f (x ∷ xs) =
    ap (map f) (reverse_onto xs x [])
    ∙ map-append f (reverse xs) (x ∷ [])
    ∙ ap (λ ys. ys ++ f x ∷ []) (map-reverse f xs)
    ∙ sym (reverse_onto (map f xs) (f x) [])

-- ---- a line is used where it is a multiple of the step and has a run

is_used_line : (step : ℕ) (line low : ℤ) (cells : List Bool) (starts : List ℕ) → is_zero (int_rem_euclid line (pos step)) ≡ true → used_runs step (map (run_from line low cells) starts) ≡ map (run_from line low cells) starts
is_used_line step line low cells [] e = refl
is_used_line step line low cells (i ∷ starts) e = rw e refl

is_unused_line : (step : ℕ) (line low : ℤ) (cells : List Bool) (starts : List ℕ) → is_zero (int_rem_euclid line (pos step)) ≡ false → used_runs step (map (run_from line low cells) starts) ≡ []
is_unused_line step line low cells [] e = refl
is_unused_line step line low cells (i ∷ starts) e = rw e refl

pub used_multiple : (axis : Axis) (p : Cells) (step : ℕ) (line : ℤ) → is_zero (int_rem_euclid line (pos step)) ≡ true → line_runs axis p line ≡ used_runs step (line_runs axis p line)
used_multiple axis p step line e = sym (is_used_line step line (first_place axis p.bounds) (line_cells axis p line) (filter (starts_run (line_cells axis p line)) (range_with_len 0 (length (line_cells axis p line)))) e)

pub used_not_multiple : (axis : Axis) (p : Cells) (step : ℕ) (line : ℤ) → is_zero (int_rem_euclid line (pos step)) ≡ false → [] ≡ used_runs step (line_runs axis p line)
used_not_multiple axis p step line e = sym (is_unused_line step line (first_place axis p.bounds) (line_cells axis p line) (filter (starts_run (line_cells axis p line)) (range_with_len 0 (length (line_cells axis p line)))) e)

-- ---- runs are near the origin

-- the numbers from which lines and places are counted, and how many there are
record IsNearLine (line low : ℤ) (count : ℕ) : Type 0 where
  pub line_low : neg_ℤ (pos 65536) ≤ℤ line
  pub line_high : line ≤ℤ pos 73728
  pub place_low : neg_ℤ (pos 65536) ≤ℤ low
  pub place_high : low ≤ℤ pos 65536
  pub short : count ≤ 8192

near_run : (line low : ℤ) (cells : List Bool) (i : ℕ) → IsNearLine line low (length cells) → i < length cells → IsNearRun (run_from line low cells i)
near_run line low cells i near less =
    let last : i + prefix_len (λ b. b) (drop i cells) - 1 ≤ 8192 = omega (arith, near, prefix_len-le-length (λ b. b) (drop i cells), length-drop i cells) in
    record {
      first = record { left = omega (arith, ints, near); right = omega (arith, ints, near); bottom = omega (arith, ints, near); top = omega (arith, ints, near) };
      last = record { left = omega (arith, ints, near); right = omega (arith, ints, near); bottom = omega (arith, ints, near); top = omega (arith, ints, near) };
    }

below : (n i : ℕ) → i < length (range_with_len 0 n) → get_or (range_with_len 0 n) i 0 < n
below n i less =
    let here : i < n = omega (arith, length-range_with_len 0 n) in
    omega (arith, get_or-range_with_len 0 n i 0 here)

near_runs : (line low : ℤ) (cells : List Bool) → IsNearLine line low (length cells) → All IsNearRun (runs_in line low cells)
near_runs line low cells near =
    All-map IsNearRun (run_from line low cells) (filter (starts_run cells) (range_with_len 0 (length cells)))
    (All-filter (starts_run cells) (λ i. IsNearRun (run_from line low cells i)) (range_with_len 0 (length cells))
    (All-from_get_or (λ i. IsNearRun (run_from line low cells i)) (range_with_len 0 (length cells)) 0 (λ i less.
    near_run line low cells (get_or (range_with_len 0 (length cells)) i 0) near (below (length cells) i less))))

is_near_line : (axis : Axis) (b : Extent) (line : ℤ) (k count : ℕ) → IsExtent b → line ≡ first_line axis b +ℤ pos k → k < line_count axis b → count ≡ line_length axis b → IsNearLine line (first_place axis b) count
is_near_line Rows b line k count e here less all = record { line_low = omega (arith, ints, e); line_high = omega (arith, ints, e); place_low = e.left; place_high = e.right; short = omega (arith, e) }
is_near_line Columns b line k count e here less all = record { line_low = omega (arith, ints, e); line_high = omega (arith, ints, e); place_low = e.bottom; place_high = e.top; short = omega (arith, e) }

-- the runs of a line of the box are near
pub near_line_runs : (axis : Axis) (p : Cells) (line : ℤ) (k : ℕ) → IsExtent p.bounds → line ≡ first_line axis p.bounds +ℤ pos k → k < line_count axis p.bounds → All IsNearRun (line_runs axis p line)
near_line_runs axis p line k e here less = near_runs line (first_place axis p.bounds) (line_cells axis p line) (is_near_line axis p.bounds line k (length (line_cells axis p line)) e here less (length-line_cells axis p line))
