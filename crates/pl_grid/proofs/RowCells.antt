-- The cells of a plane by the rows of its words.
use Rattle.std.proofs.Common.{◌≡◌, ℤ, ℕ, pos, negsuc, zero, suc, ◌+ℤ◌, ◌-ℤ◌, ◌+◌, ◌-◌, ◌*◌, ◌<◌, ◌≤◌, Bool, true, false, ◌&&◌, ◌||◌, List, [], length, refl, sym, ◌∙◌, ap, arith, cond, Some, None, Option}
use Rattle.std.specs.Prelude.{nat_lt}
use Rattle.std.proofs.lemmas.Int.{ints}
use Rattle.std.proofs.lemmas.Nat.{mul-le}
use Rattle.pl_lanes.specs.Bits.{is_set, is_set_before}
use Rattle.pl_grid.specs.Extent.{Extent, offset_in, place_at, column_of, row_of, grown}
use Rattle.pl_grid.specs.Planes.{Cells, value_at, filled, plane_of, stays, comes, eroded, dilated, widened}
use Rattle.pl_grid.specs.Packed.{words_of, bit_place, packed, IsPacked, words_from, words_before, stays_at, comes_at, is_moved, is_widened}
use Rattle.pl_grid.proofs.PackedLemmas.{made_is, packed_is, filled_bit, column_within}
use Rattle.pl_grid.proofs.RowLemmas.{part_bits}
use Rattle.std.proofs.lemmas.List.{length-take}
use Rattle.std.proofs.Common.{drop}
use Rattle.pl_grid.proofs.RowParts.{unset_past, before_none, from_past, five}
use Rattle.pl_grid.proofs.Cases.{by_lt, lt_yes, lt_no, eq_no}

-- ---- the bits of a row of the words

-- the words of row j
abbrev pub row : Extent → List ℕ → ℕ → List ℕ
row b words j = words_from words (words_of b.cols) (j * words_of b.cols)

long_row : (b : Extent) (words : List ℕ) (j k : ℕ) → 64 * words_of b.cols ≤ k → is_set (row b words j) k ≡ false
long_row b words j k h = unset_past (row b words j) k (omega (arith, length-take (words_of b.cols) (drop (j * words_of b.cols) words)))

past_row : (b : Extent) (words : List ℕ) (j k : ℕ) → IsPacked b words → b.rows ≤ j → is_set (row b words j) k ≡ false
past_row b words j k ok h = from_past words (words_of b.cols) (j * words_of b.cols) k (omega (arith, ok.room, mul-le b.rows (words_of b.cols) j (words_of b.cols) h (omega arith)))

-- no bit of a row from the last column on is set
pub row_tail : (b : Extent) (words : List ℕ) (j k : ℕ) → IsPacked b words → b.cols ≤ k → is_set (row b words j) k ≡ false
row_tail b words j k ok h = by_lt j b.rows
    (λ here. by_lt k (64 * words_of b.cols)
    (λ inside. part_bits words (j * words_of b.cols) (words_of b.cols) k inside ∙ ok.tail j k here h inside)
    (λ past. long_row b words j k past))
    (λ past. past_row b words j k ok past)

-- ---- cells outside the box

no_row : (cols : ℕ) (i : Option ℕ) → place_at cols i None ≡ None
no_row cols (Some i) = refl
no_row cols None = refl

pub off_column : (p : Cells) (x y : ℤ) → column_of p.bounds x ≡ None → filled p x y ≡ false
off_column p x y e = ap (λ i. value_at p.cells (place_at p.bounds.cols i (row_of p.bounds y))) e

pub off_row : (p : Cells) (x y : ℤ) → row_of p.bounds y ≡ None → filled p x y ≡ false
off_row p x y e = ap (λ j. value_at p.cells (place_at p.bounds.cols (column_of p.bounds x) j)) e ∙ ap (value_at p.cells) (no_row p.bounds.cols (column_of p.bounds x))

past_offset : (n k : ℕ) (z : ℤ) → z ≡ pos k → n ≤ k → offset_in n z ≡ None
past_offset n k z e h = ap (offset_in n) e ∙ ap (λ b. cond b (Some k) None) (lt_no k n h)

before_offset : (n k : ℕ) (z : ℤ) → z ≡ negsuc k → offset_in n z ≡ None
before_offset n k z e = ap (offset_in n) e

-- ---- the cells of a plane that words say

-- a cell right of the box's left side and above its lower one is the bit of its row, also where the box lacks it
pub filled_row : (p : Cells) (b : Extent) (words : List ℕ) → packed b words ≡ p → IsPacked b words → (i j : ℕ) → filled p (b.x0 +ℤ pos i) (b.y0 +ℤ pos j) ≡ is_set (row b words j) i
filled_row p b words e ok i j = ap (λ q. filled q (b.x0 +ℤ pos i) (b.y0 +ℤ pos j)) (sym e) ∙ by_lt i b.cols
    (λ hi. by_lt j b.rows
    (λ hj. filled_bit (packed b words) b words refl i j hi hj ∙ sym (part_bits words (j * words_of b.cols) (words_of b.cols) i (column_within b.cols i hi)))
    (λ past. off_row (packed b words) (b.x0 +ℤ pos i) (b.y0 +ℤ pos j) (past_offset b.rows j ((b.y0 +ℤ pos j) -ℤ b.y0) (omega (arith, ints)) past) ∙ sym (past_row b words j i ok past)))
    (λ past. off_column (packed b words) (b.x0 +ℤ pos i) (b.y0 +ℤ pos j) (past_offset b.cols i ((b.x0 +ℤ pos i) -ℤ b.x0) (omega (arith, ints)) past) ∙ sym (row_tail b words j i ok past))

filled_left : (p : Cells) (b : Extent) (words : List ℕ) → packed b words ≡ p → (k : ℕ) (x y : ℤ) → x ≡ b.x0 -ℤ pos (suc k) → filled p x y ≡ false
filled_left p b words e k x y ex = ap (λ q. filled q x y) (sym e) ∙ off_column (packed b words) x y (before_offset b.cols k (x -ℤ b.x0) (omega (arith, ints)))

filled_under : (p : Cells) (b : Extent) (words : List ℕ) → packed b words ≡ p → (k : ℕ) (x y : ℤ) → y ≡ b.y0 -ℤ pos (suc k) → filled p x y ≡ false
filled_under p b words e k x y ey = ap (λ q. filled q x y) (sym e) ∙ off_row (packed b words) x y (before_offset b.rows k (y -ℤ b.y0) (omega (arith, ints)))

-- the neighbours of a cell of the box
west_is : (p : Cells) (b : Extent) (words : List ℕ) → packed b words ≡ p → IsPacked b words → (i j : ℕ) → filled p ((b.x0 +ℤ pos i) -ℤ pos 1) (b.y0 +ℤ pos j) ≡ is_set_before (row b words j) i
west_is p b words e ok zero j = filled_left p b words e 0 ((b.x0 +ℤ pos 0) -ℤ pos 1) (b.y0 +ℤ pos j) (omega (arith, ints))
west_is p b words e ok (suc i) j =
    let same : (b.x0 +ℤ pos (suc i)) -ℤ pos 1 ≡ b.x0 +ℤ pos i = omega (arith, ints) in
    ap (λ x. filled p x (b.y0 +ℤ pos j)) same ∙ filled_row p b words e ok i j

east_is : (p : Cells) (b : Extent) (words : List ℕ) → packed b words ≡ p → IsPacked b words → (i j : ℕ) → filled p ((b.x0 +ℤ pos i) +ℤ pos 1) (b.y0 +ℤ pos j) ≡ is_set (row b words j) (i + 1)
east_is p b words e ok i j =
    let same : (b.x0 +ℤ pos i) +ℤ pos 1 ≡ b.x0 +ℤ pos (i + 1) = omega (arith, ints) in
    ap (λ x. filled p x (b.y0 +ℤ pos j)) same ∙ filled_row p b words e ok (i + 1) j

south_is : (p : Cells) (b : Extent) (words : List ℕ) → packed b words ≡ p → IsPacked b words → (i j : ℕ) → i < b.cols → filled p (b.x0 +ℤ pos i) ((b.y0 +ℤ pos j) -ℤ pos 1) ≡ is_set (words_before words (words_of b.cols) (j * words_of b.cols)) i
south_is p b words e ok i zero hi = filled_under p b words e 0 (b.x0 +ℤ pos i) ((b.y0 +ℤ pos 0) -ℤ pos 1) (omega (arith, ints)) ∙ sym (before_none words (words_of b.cols) (0 * words_of b.cols) i (omega arith))
south_is p b words e ok i (suc j) hi =
    let same : (b.y0 +ℤ pos (suc j)) -ℤ pos 1 ≡ b.y0 +ℤ pos j = omega (arith, ints) in
    let start : suc j * words_of b.cols - words_of b.cols ≡ j * words_of b.cols = omega arith in
    ap (λ y. filled p (b.x0 +ℤ pos i) y) same ∙ filled_row p b words e ok i j
    ∙ sym (ap (λ t. is_set (cond t [] (words_from words (words_of b.cols) (suc j * words_of b.cols - words_of b.cols))) i) (eq_no (suc j * words_of b.cols) 0 (some j b.cols (column_within b.cols i hi)))
    ∙ ap (λ s. is_set (words_from words (words_of b.cols) s) i) start)
  where
    some : (j cols : ℕ) → i < 64 * words_of cols → suc j * words_of cols ≡ 0 → ⊥
    some j cols h z = omega (arith, mul-le 1 (words_of cols) (suc j) (words_of cols) (omega arith) (omega arith))

north_is : (p : Cells) (b : Extent) (words : List ℕ) → packed b words ≡ p → IsPacked b words → (i j : ℕ) → filled p (b.x0 +ℤ pos i) ((b.y0 +ℤ pos j) +ℤ pos 1) ≡ is_set (words_from words (words_of b.cols) (j * words_of b.cols + words_of b.cols)) i
north_is p b words e ok i j =
    let same : (b.y0 +ℤ pos j) +ℤ pos 1 ≡ b.y0 +ℤ pos (suc j) = omega (arith, ints) in
    let start : suc j * words_of b.cols ≡ j * words_of b.cols + words_of b.cols = omega arith in
    ap (λ y. filled p (b.x0 +ℤ pos i) y) same ∙ filled_row p b words e ok i (suc j) ∙ ap (λ s. is_set (words_from words (words_of b.cols) s) i) start

-- cells of one row are alike where their bits are
pub alike_cells : (p : Cells) (b : Extent) (words words' : List ℕ) (y : ℤ) (j i k at : ℕ) → packed b words ≡ p → words' ≡ words → b.y0 +ℤ pos j ≡ y → j < b.rows → i + k < b.cols → at ≡ bit_place b.cols j i → is_set words' (at + k) ≡ is_set words' at
    → filled p (p.bounds.x0 +ℤ pos (i + k)) y ≡ filled p (p.bounds.x0 +ℤ pos i) y
alike_cells p b words words' y j i k at e ew ey hj hi ea h =
    let left : p.bounds.x0 ≡ b.x0 = sym (ap (λ q. q.bounds.x0) e) in
    let far : at + k ≡ bit_place b.cols j (i + k) = omega (arith, ea) in
    ap (λ z. filled p (z +ℤ pos (i + k)) y) left ∙ ap (λ z. filled p (b.x0 +ℤ pos (i + k)) z) (sym ey) ∙ filled_bit p b words e (i + k) j hi hj
    ∙ ap (is_set words) (sym far) ∙ ap (λ l. is_set l (at + k)) (sym ew) ∙ h ∙ ap (λ l. is_set l at) ew ∙ ap (is_set words) ea
    ∙ sym (ap (λ z. filled p (z +ℤ pos i) y) left ∙ ap (λ z. filled p (b.x0 +ℤ pos i) z) (sym ey) ∙ filled_bit p b words e i j (omega arith) hj)

-- ---- eroded and dilated planes

pub eroded_is : (p : Cells) (b : Extent) (words out : List ℕ) → packed b words ≡ p → IsPacked b words → ((j i : ℕ) → j < b.rows → i < 64 * words_of b.cols → is_set out (bit_place b.cols j i) ≡ stays_at words (words_of b.cols) (j * words_of b.cols) i) → packed b out ≡ eroded p
eroded_is p b words out e ok h = made_is p b words out (stays p) e (λ i j hi hj. h j i hj (column_within b.cols i hi)
    ∙ sym (five (λ a w n s m. a && (w && n) && (s && m)) _ _ _ _ _ _ _ _ _ _ (filled_row p b words e ok i j) (west_is p b words e ok i j) (east_is p b words e ok i j) (south_is p b words e ok i j hi) (north_is p b words e ok i j)))

regrouped : (a w n s m : Bool) → ((a || (w || n)) || (s || m)) ≡ (a || w || n || s || m)
regrouped true w n s m = refl
regrouped false true n s m = refl
regrouped false false true s m = refl
regrouped false false false true m = refl
regrouped false false false false m = refl

pub dilated_is : (p : Cells) (b : Extent) (words out : List ℕ) (cols : ℕ) → packed b words ≡ p → IsPacked b words → cols ≡ b.cols → ((j i : ℕ) → j < b.rows → i < 64 * words_of b.cols → is_set out (bit_place b.cols j i) ≡ (nat_lt i cols && comes_at words (words_of b.cols) (j * words_of b.cols) i)) → packed b out ≡ dilated p
dilated_is p b words out cols e ok same h = made_is p b words out (comes p) e (λ i j hi hj. h j i hj (column_within b.cols i hi)
    ∙ ap (λ t. t && comes_at words (words_of b.cols) (j * words_of b.cols) i) (lt_yes i cols (omega (arith, same)))
    ∙ sym (five (λ a w n s m. (a || (w || n)) || (s || m)) _ _ _ _ _ _ _ _ _ _ (filled_row p b words e ok i j) (west_is p b words e ok i j) (east_is p b words e ok i j) (south_is p b words e ok i j hi) (north_is p b words e ok i j))
    ∙ regrouped (filled p (b.x0 +ℤ pos i) (b.y0 +ℤ pos j)) _ _ _ _)

pub IsPacked-eroded : (b : Extent) (words out : List ℕ) → IsPacked b words → length out ≡ length words → ((j i : ℕ) → j < b.rows → i < 64 * words_of b.cols → is_set out (bit_place b.cols j i) ≡ stays_at words (words_of b.cols) (j * words_of b.cols) i) → IsPacked b out
IsPacked-eroded b words out ok len h = record {
  room = len ∙ ok.room;
  tail = λ j i hj low high. h j i hj high ∙ ap (λ t. t && (is_set_before (row b words j) i && is_set (row b words j) (i + 1)) && (is_set (words_before words (words_of b.cols) (j * words_of b.cols)) i && is_set (words_from words (words_of b.cols) (j * words_of b.cols + words_of b.cols)) i)) (row_tail b words j i ok low);
}

pub IsPacked-dilated : (b : Extent) (words out : List ℕ) (cols : ℕ) → IsPacked b words → cols ≡ b.cols → length out ≡ length words → ((j i : ℕ) → j < b.rows → i < 64 * words_of b.cols → is_set out (bit_place b.cols j i) ≡ (nat_lt i cols && comes_at words (words_of b.cols) (j * words_of b.cols) i)) → IsPacked b out
IsPacked-dilated b words out cols ok same len h = record {
  room = len ∙ ok.room;
  tail = λ j i hj low high. h j i hj high ∙ ap (λ t. t && comes_at words (words_of b.cols) (j * words_of b.cols) i) (lt_no i cols (omega (arith, same)));
}

-- ---- widened planes

widened_bit : (p : Cells) (b : Extent) (words : List ℕ) → packed b words ≡ p → IsPacked b words → (by i j : ℕ) (x y : ℤ) → x ≡ (b.x0 -ℤ pos by) +ℤ pos i → y ≡ (b.y0 -ℤ pos by) +ℤ pos j → filled p x y ≡ is_widened words (words_of b.cols) by j i
widened_bit p b words e ok by i j x y ex ey = by_lt j by
    (λ under. filled_under p b words e (by - j - 1) x y (omega (arith, ints)) ∙ sym (ap (λ t. cond t false (is_moved (row b words (j - by)) by i)) (lt_yes j by under)))
    (λ over. by_lt i by
    (λ left. filled_left p b words e (by - i - 1) x y (omega (arith, ints)) ∙ sym (ap (λ t. cond t false (is_moved (row b words (j - by)) by i)) (lt_no j by over) ∙ ap (λ t. cond t false (is_set (row b words (j - by)) (i - by))) (lt_yes i by left)))
    (λ right.
    let same_x : x ≡ b.x0 +ℤ pos (i - by) = omega (arith, ints) in
    let same_y : y ≡ b.y0 +ℤ pos (j - by) = omega (arith, ints) in
    ap (λ z. filled p z y) same_x ∙ ap (λ z. filled p (b.x0 +ℤ pos (i - by)) z) same_y ∙ filled_row p b words e ok (i - by) (j - by)
    ∙ sym (ap (λ t. cond t false (is_moved (row b words (j - by)) by i)) (lt_no j by over) ∙ ap (λ t. cond t false (is_set (row b words (j - by)) (i - by))) (lt_no i by right))))

pub widened_is : (p : Cells) (b g : Extent) (words out : List ℕ) (by : ℕ) → packed b words ≡ p → IsPacked b words → g ≡ grown by p.bounds → ((j i : ℕ) → j < b.rows + 2 * by → i < 64 * words_of g.cols → is_set out (bit_place g.cols j i) ≡ is_widened words (words_of b.cols) by j i) → packed g out ≡ widened by p
widened_is p b g words out by e ok eg h =
    let same : g ≡ grown by b = eg ∙ sym (ap (λ q. grown by q.bounds) e) in
    let rows : g.rows ≡ b.rows + 2 * by = ap (λ r. r.rows) same in
    let left : g.x0 ≡ b.x0 -ℤ pos by = ap (λ r. r.x0) same in
    let low : g.y0 ≡ b.y0 -ℤ pos by = ap (λ r. r.y0) same in
    packed_is g out (filled p) (λ i j hi hj. h j i (omega (arith, rows)) (column_within g.cols i hi)
    ∙ sym (widened_bit p b words e ok by i j (g.x0 +ℤ pos i) (g.y0 +ℤ pos j) (ap (λ z. z +ℤ pos i) left) (ap (λ z. z +ℤ pos j) low)))
    ∙ ap (λ r. plane_of r (filled p)) eg

pub IsPacked-widened : (p : Cells) (b g : Extent) (words out : List ℕ) (by : ℕ) → packed b words ≡ p → IsPacked b words → g ≡ grown by p.bounds → length out ≡ (b.rows + 2 * by) * words_of g.cols → ((j i : ℕ) → j < b.rows + 2 * by → i < 64 * words_of g.cols → is_set out (bit_place g.cols j i) ≡ is_widened words (words_of b.cols) by j i) → IsPacked g out
IsPacked-widened p b g words out by e ok eg len h =
    let same : g ≡ grown by b = eg ∙ sym (ap (λ q. grown by q.bounds) e) in
    let rows : g.rows ≡ b.rows + 2 * by = ap (λ r. r.rows) same in
    let cols : g.cols ≡ b.cols + 2 * by = ap (λ r. r.cols) same in
    record {
      room = len ∙ ap (λ n. n * words_of g.cols) (sym rows);
      tail = λ j i hj low high. h j i (omega (arith, rows)) high ∙ by_lt j by
          (λ under. ap (λ t. cond t false (is_moved (row b words (j - by)) by i)) (lt_yes j by under))
          (λ over. ap (λ t. cond t false (is_moved (row b words (j - by)) by i)) (lt_no j by over)
          ∙ ap (λ t. cond t false (is_set (row b words (j - by)) (i - by))) (lt_no i by (omega (arith, cols)))
          ∙ row_tail b words (j - by) (i - by) ok (omega (arith, cols)));
    }
