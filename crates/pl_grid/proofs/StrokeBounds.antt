-- The strokes of a plane lie near the origin and are short.
use Rattle.std.proofs.Common.{◌≡◌, ◌≤ℤ◌, ℤ, ℕ, suc, pos, unsigned_abs, ◌+ℤ◌, ◌-ℤ◌, ◌*ℤ◌, ◌+◌, ◌-◌, ◌<◌, ◌≤◌, Bool, true, false, not, List, [], ◌∷◌, length, map, reverse, drop, length-drop, get_or, arith, cond}
use Rattle.std.specs.List.{All, range_with_len, filter, prefix_len}
use Rattle.std.proofs.lemmas.Int.{ints}
use Rattle.std.proofs.lemmas.List.Elements.{All-map, All-filter, All-append}
use Rattle.std.proofs.lemmas.List.FromFn.{length-range_with_len, get_or-range_with_len, length-map-range_with_len}
use Rattle.std.proofs.lemmas.List.{get_or-reverse, length-reverse}
use Rattle.std.proofs.lemmas.List.Sums.{prefix_len-le-length}
use Rattle.pl_units.specs.Within.{Within}
use Rattle.pl_grid.specs.Extent.{IsExtent}
use Rattle.pl_grid.specs.Planes.{Cells, filled}
use Rattle.pl_grid.specs.declared.stroke.Axis.{Axis}
use Rattle.pl_grid.specs.declared.stroke.Axis.TheVariants.{Rows, Columns}
use Rattle.pl_grid.specs.declared.stroke.Run.{Run}
use Rattle.pl_grid.specs.declared.stroke.Stroke.{Stroke}
use Rattle.pl_grid.specs.Strokes.{run_from, starts_run, runs_in, row_cells, column_cells, lines_of, stroke_of, turned_back, is_used, to_and_fro, strokes_of}
use Rattle.pl_grid.specs.NearStrokes.{IsNearStroke}

-- a run on a line that is near, in a box that is near
record IsNearRun (r : Run) : Type 0 where
  pub line : Within 80000 r.line
  pub first : Within 80000 r.first
  pub last : Within 80000 r.last
  pub span_low : r.first ≤ℤ (r.last +ℤ pos 8192)
  pub span_high : r.last ≤ℤ (r.first +ℤ pos 8192)

near_run : (line low : ℤ) (cells : List Bool) (i : ℕ) → i < length cells → length cells ≤ 8192 → Within 65536 low → Within 75000 line → IsNearRun (run_from line low cells i)
near_run line low cells i less few low_is line_is =
    let ends : prefix_len (λ b. b) (drop i cells) ≤ length cells - i = omega (arith, prefix_len-le-length (λ (b : Bool). b) (drop i cells), length-drop i cells) in
    let last : i + prefix_len (λ b. b) (drop i cells) - 1 ≤ 8191 = omega arith in
    record {
      line = record { low = omega (arith, ints); high = omega (arith, ints) };
      first = record { low = omega (arith, ints); high = omega (arith, ints) };
      last = record { low = omega (arith, ints); high = omega (arith, ints) };
      span_low = omega (arith, ints);
      span_high = omega (arith, ints);
    }

in_range : {X : Type 0} (P : X → Type 0) (f : ℕ → X) (n : ℕ) → ((i : ℕ) → i < n → P (f i)) → All (λ i. P (f i)) (range_with_len 0 n)
in_range P f n each k d less =
    let below : k < n = omega (arith, length-range_with_len 0 n) in
    rw (get_or-range_with_len 0 n k d below) (each (0 + k) (omega arith))

near_runs : (line low : ℤ) (cells : List Bool) → length cells ≤ 8192 → Within 65536 low → Within 75000 line → All IsNearRun (runs_in line low cells)
near_runs line low cells few low_is line_is =
    All-map IsNearRun (run_from line low cells) (filter (starts_run cells) (range_with_len 0 (length cells)))
    (All-filter (starts_run cells) (λ i. IsNearRun (run_from line low cells i)) (range_with_len 0 (length cells))
    (in_range IsNearRun (run_from line low cells) (length cells) (λ i less. near_run line low cells i less few low_is line_is)))

near_row : (p : Cells) (j : ℕ) → IsExtent p.bounds → j < p.bounds.rows → All IsNearRun (runs_in (p.bounds.y0 +ℤ pos j) p.bounds.x0 (row_cells p (p.bounds.y0 +ℤ pos j)))
near_row p j box less =
    let wide = box.wide in
    near_runs (p.bounds.y0 +ℤ pos j) p.bounds.x0 (row_cells p (p.bounds.y0 +ℤ pos j)) (omega (arith, length-map-range_with_len (λ i. filled p (p.bounds.x0 +ℤ pos i) (p.bounds.y0 +ℤ pos j)) 0 p.bounds.cols))
    (record { low = box.left; high = box.right }) (record { low = omega (arith, ints); high = omega (arith, ints) })

near_column : (p : Cells) (i : ℕ) → IsExtent p.bounds → i < p.bounds.cols → All IsNearRun (runs_in (p.bounds.x0 +ℤ pos i) p.bounds.y0 (column_cells p (p.bounds.x0 +ℤ pos i)))
near_column p i box less =
    let high = box.high in
    near_runs (p.bounds.x0 +ℤ pos i) p.bounds.y0 (column_cells p (p.bounds.x0 +ℤ pos i)) (omega (arith, length-map-range_with_len (λ j. filled p (p.bounds.x0 +ℤ pos i) (p.bounds.y0 +ℤ pos j)) 0 p.bounds.rows))
    (record { low = box.bottom; high = box.top }) (record { low = omega (arith, ints); high = omega (arith, ints) })

near_lines : (axis : Axis) (p : Cells) → IsExtent p.bounds → All (All IsNearRun) (lines_of axis p)
near_lines Rows p box =
    All-map (All IsNearRun) (λ j. runs_in (p.bounds.y0 +ℤ pos j) p.bounds.x0 (row_cells p (p.bounds.y0 +ℤ pos j))) (range_with_len 0 p.bounds.rows)
    (in_range (All IsNearRun) (λ j. runs_in (p.bounds.y0 +ℤ pos j) p.bounds.x0 (row_cells p (p.bounds.y0 +ℤ pos j))) p.bounds.rows (λ j less. near_row p j box less))
near_lines Columns p box =
    All-map (All IsNearRun) (λ i. runs_in (p.bounds.x0 +ℤ pos i) p.bounds.y0 (column_cells p (p.bounds.x0 +ℤ pos i))) (range_with_len 0 p.bounds.cols)
    (in_range (All IsNearRun) (λ i. runs_in (p.bounds.x0 +ℤ pos i) p.bounds.y0 (column_cells p (p.bounds.x0 +ℤ pos i))) p.bounds.cols (λ i less. near_column p i box less))

distance_le : (a b : ℤ) (n : ℕ) → a ≤ℤ (b +ℤ pos n) → b ≤ℤ (a +ℤ pos n) → unsigned_abs (b -ℤ a) ≤ n
distance_le a b n h k = omega (arith, ints)

near_stroke : (axis : Axis) (r : Run) → IsNearRun r → IsNearStroke (stroke_of axis r)
near_stroke Rows r h =
    let far = distance_le (pos 2 *ℤ r.first) (pos 2 *ℤ r.last +ℤ pos 2) 20000 (omega (arith, ints)) (omega (arith, ints)) in
    let none = distance_le (pos 2 *ℤ r.line +ℤ pos 1) (pos 2 *ℤ r.line +ℤ pos 1) 0 (omega (arith, ints)) (omega (arith, ints)) in
    record {
      x0 = record { low = omega (arith, ints); high = omega (arith, ints) };
      y0 = record { low = omega (arith, ints); high = omega (arith, ints) };
      x1 = record { low = omega (arith, ints); high = omega (arith, ints) };
      y1 = record { low = omega (arith, ints); high = omega (arith, ints) };
      short = omega arith;
    }
near_stroke Columns r h =
    let far = distance_le (pos 2 *ℤ r.first) (pos 2 *ℤ r.last +ℤ pos 2) 20000 (omega (arith, ints)) (omega (arith, ints)) in
    let none = distance_le (pos 2 *ℤ r.line +ℤ pos 1) (pos 2 *ℤ r.line +ℤ pos 1) 0 (omega (arith, ints)) (omega (arith, ints)) in
    record {
      x0 = record { low = omega (arith, ints); high = omega (arith, ints) };
      y0 = record { low = omega (arith, ints); high = omega (arith, ints) };
      x1 = record { low = omega (arith, ints); high = omega (arith, ints) };
      y1 = record { low = omega (arith, ints); high = omega (arith, ints) };
      short = omega arith;
    }

same_distance : (a b : ℤ) → unsigned_abs (a -ℤ b) ≡ unsigned_abs (b -ℤ a)
same_distance a b = omega (arith, ints)

near_back : (k : Stroke) → IsNearStroke k → IsNearStroke (turned_back k)
near_back k h =
    let along = same_distance k.x0 k.x1 in
    let up = same_distance k.y0 k.y1 in
    record { x0 = h.x1; y0 = h.y1; x1 = h.x0; y1 = h.y0; short = omega arith }

near_line : (axis : Axis) (runs : List Run) → All IsNearRun runs → All IsNearStroke (map (stroke_of axis) runs)
near_line axis runs h = All-map IsNearStroke (stroke_of axis) runs (λ k d less. near_stroke axis (get_or runs k d) (h k d less))

near_reverse : (line : List Stroke) → All IsNearStroke line → All IsNearStroke (map turned_back (reverse line))
near_reverse line h =
    All-map IsNearStroke turned_back (reverse line) (λ k d less.
    let here : k < length line = omega (arith, length-reverse line) in
    rw (get_or-reverse line k d here) (near_back (get_or line (length line - 1 - k) d) (h (length line - 1 - k) d (omega arith))))

near_turn : (back : Bool) (line : List Stroke) → All IsNearStroke line → All IsNearStroke (cond back (map turned_back (reverse line)) line)
near_turn true line h = near_reverse line h
near_turn false line h = h

near_turns : (back : Bool) (lines : List (List Stroke)) → All (All IsNearStroke) lines → All IsNearStroke (to_and_fro back lines)
near_turns back [] h = λ k d less. absurd (omega arith)
near_turns back (line ∷ lines) h =
    All-append IsNearStroke (cond back (map turned_back (reverse line)) line) (to_and_fro (not back) lines)
    (near_turn back line (h 0 [] (omega arith)))
    (near_turns (not back) lines (λ k d less. h (suc k) d (omega arith)))

-- the strokes of a plane in a box are near
pub near_strokes : (axis : Axis) (step : ℕ) (p : Cells) → IsExtent p.bounds → All IsNearStroke (strokes_of axis step p)
near_strokes axis step p box =
    near_turns false (map (map (stroke_of axis)) (filter (is_used step) (lines_of axis p)))
    (All-map (All IsNearStroke) (map (stroke_of axis)) (filter (is_used step) (lines_of axis p))
    (λ k d less. near_line axis (get_or (filter (is_used step) (lines_of axis p)) k d) (All-filter (is_used step) (All IsNearRun) (lines_of axis p) (near_lines axis p box) k d less)))
