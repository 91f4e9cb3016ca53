-- A row of which the cells below one column are turned over.
use Rattle.std.proofs.Common.{◌≡◌, ℤ, ℕ, pos, suc, ◌+ℤ◌, ◌+◌, ◌*◌, ◌<◌, ◌≤◌, true, false, cond, not, ◌&&◌, List, length, sym, ◌∙◌, ap, arith}
use Rattle.std.specs.Prelude.{nat_lt, int_lt}
use Rattle.std.specs.Ordering.{int_eq}
use Rattle.std.proofs.lemmas.Int.{ints}
use Rattle.std.proofs.lemmas.Nat.{mul-le}
use Rattle.std.proofs.lemmas.Bool.Decides.{nat_tests, Decides-int_eq}
use Rattle.pl_grid.proofs.Cases.{by_eq, not_true, and_true, and_false, lt_no}
use Rattle.pl_grid.specs.Extent.{Extent}
use Rattle.pl_grid.specs.Planes.{Cells, filled, toggled}
use Rattle.pl_lanes.specs.Bits.{is_set}
use Rattle.pl_grid.specs.Packed.{words_of, bit_place, packed, IsPacked}
use Rattle.pl_grid.proofs.PackedLemmas.{made_is, filled_bit, column_within}

lt_columns : (x0 x : ℤ) (i below : ℕ) → x0 +ℤ pos below ≡ x → int_lt (x0 +ℤ pos i) x ≡ nat_lt i below
lt_columns x0 x i below e = grind (arith, ints, nat_tests)

pub same_row : (y0 y : ℤ) (j : ℕ) → y0 +ℤ pos j ≡ y → int_eq (y0 +ℤ pos j) y ≡ true
same_row y0 y j e = (Decides-int_eq (y0 +ℤ pos j) y).1 e

pub other_row : (y0 y : ℤ) (j row : ℕ) → y0 +ℤ pos row ≡ y → (j ≡ row → ⊥) → int_eq (y0 +ℤ pos j) y ≡ false
other_row y0 y j row e apart = not_true (int_eq (y0 +ℤ pos j) y) (λ t. let same = (Decides-int_eq (y0 +ℤ pos j) y).0 t in apart (omega (arith, ints, same)))

-- what toggling below one column of a row makes of the bits
pub record IsToggled (cols row below : ℕ) (ws out : List ℕ) : Type 0 where
  pub inside : (i : ℕ) → i < 64 * words_of cols → is_set out (bit_place cols row i) ≡ cond (nat_lt i below) (not (is_set ws (bit_place cols row i))) (is_set ws (bit_place cols row i))
  pub before : (k : ℕ) → k < 64 * (row * words_of cols) → is_set out k ≡ is_set ws k
  pub after : (k : ℕ) → 64 * (row * words_of cols + words_of cols) ≤ k → is_set out k ≡ is_set ws k

-- in the other rows nothing changes
others : (cols row below j i : ℕ) (ws out : List ℕ) → IsToggled cols row below ws out → (j ≡ row → ⊥) → i < 64 * words_of cols → is_set out (bit_place cols j i) ≡ is_set ws (bit_place cols j i)
others cols row below j i ws out t apart hi =
    let low : j < row → is_set out (bit_place cols j i) ≡ is_set ws (bit_place cols j i) = λ h. t.before (bit_place cols j i) (omega (arith, mul-le (suc j) (words_of cols) row (words_of cols) h (omega arith))) in
    let high : row < j → is_set out (bit_place cols j i) ≡ is_set ws (bit_place cols j i) = λ h. t.after (bit_place cols j i) (omega (arith, mul-le (suc row) (words_of cols) j (words_of cols) h (omega arith))) in
    grind (arith, low, high, apart)

here : (p : Cells) (b : Extent) (ws out : List ℕ) (x y : ℤ) (row below i j : ℕ) → packed b ws ≡ p → b.y0 +ℤ pos row ≡ y → b.x0 +ℤ pos below ≡ x → IsToggled b.cols row below ws out → i < b.cols → row < b.rows → j ≡ row
    → is_set out (bit_place b.cols j i) ≡ cond (int_lt (b.x0 +ℤ pos i) x && int_eq (b.y0 +ℤ pos j) y) (not (filled p (b.x0 +ℤ pos i) (b.y0 +ℤ pos j))) (filled p (b.x0 +ℤ pos i) (b.y0 +ℤ pos j))
here p b ws out x y row below i j e ey ex t hi hj ej =
    let bit = filled_bit p b ws e i row hi hj in
    let at_row = same_row b.y0 y row ey in
    let at_column = lt_columns b.x0 x i below ex in
    rw (ej, at_row, at_column, bit) (t.inside i (column_within b.cols i hi) ∙ ap (λ c. cond c (not (is_set ws (bit_place b.cols row i))) (is_set ws (bit_place b.cols row i))) (sym (and_true (nat_lt i below))))

there : (p : Cells) (b : Extent) (ws out : List ℕ) (x y : ℤ) (row below i j : ℕ) → packed b ws ≡ p → b.y0 +ℤ pos row ≡ y → IsToggled b.cols row below ws out → i < b.cols → j < b.rows → (j ≡ row → ⊥)
    → is_set out (bit_place b.cols j i) ≡ cond (int_lt (b.x0 +ℤ pos i) x && int_eq (b.y0 +ℤ pos j) y) (not (filled p (b.x0 +ℤ pos i) (b.y0 +ℤ pos j))) (filled p (b.x0 +ℤ pos i) (b.y0 +ℤ pos j))
there p b ws out x y row below i j e ey t hi hj apart =
    let bit = filled_bit p b ws e i j hi hj in
    let off_row = other_row b.y0 y j row ey apart in
    rw (off_row, bit) (others b.cols row below j i ws out t apart (column_within b.cols i hi) ∙ ap (λ c. cond c (not (is_set ws (bit_place b.cols j i))) (is_set ws (bit_place b.cols j i))) (sym (and_false (int_lt (b.x0 +ℤ pos i) x))))

-- the words are the plane with the cells of the row below the column turned over
pub toggled_is : (p : Cells) (b : Extent) (ws out : List ℕ) (x y : ℤ) (row below : ℕ) → packed b ws ≡ p → b.y0 +ℤ pos row ≡ y → b.x0 +ℤ pos below ≡ x → row < b.rows → IsToggled b.cols row below ws out → packed b out ≡ toggled p x y
toggled_is p b ws out x y row below e ey ex hr t =
    made_is p b ws out (λ u v. cond (int_lt u x && int_eq v y) (not (filled p u v)) (filled p u v)) e (λ i j hi hj.
    by_eq j row (here p b ws out x y row below i j e ey ex t hi hr) (there p b ws out x y row below i j e ey t hi hj))

-- no bit past the last column is set
pub IsPacked-toggled : (b : Extent) (ws out : List ℕ) (row below : ℕ) → IsPacked b ws → length out ≡ length ws → below ≤ b.cols → IsToggled b.cols row below ws out → IsPacked b out
IsPacked-toggled b ws out row below ok len small t = record {
  room = len ∙ ok.room;
  tail = λ j i hj low high. by_eq j row
      (λ e. ap (λ r. is_set out (bit_place b.cols r i)) e ∙ t.inside i high ∙ ap (λ c. cond c (not (is_set ws (bit_place b.cols row i))) (is_set ws (bit_place b.cols row i))) (lt_no i below (omega arith)) ∙ ap (λ r. is_set ws (bit_place b.cols r i)) (sym e) ∙ ok.tail j i hj low high)
      (λ apart. others b.cols row below j i ws out t apart high ∙ ok.tail j i hj low high);
}

-- from what the call says
pub toggled_from : (cols row below start count : ℕ) (ws ws' out : List ℕ) → ws' ≡ ws → start ≡ row * words_of cols → count ≡ words_of cols
    → ((i : ℕ) → i < 64 * count → is_set out (64 * start + i) ≡ cond (nat_lt i below) (not (is_set ws' (64 * start + i))) (is_set ws' (64 * start + i)))
    → ((k : ℕ) → k < 64 * start → is_set out k ≡ is_set ws' k)
    → ((k : ℕ) → 64 * (start + count) ≤ k → is_set out k ≡ is_set ws' k)
    → IsToggled cols row below ws out
toggled_from cols row below start count ws ws' out ew es ec inside before after = record {
  inside = λ i less. rw (← es, ← ew) (inside i (omega (arith, ec)));
  before = λ k less. before k (omega (arith, es)) ∙ ap (λ l. is_set l k) ew;
  after = λ k low. after k (omega (arith, es, ec)) ∙ ap (λ l. is_set l k) ew;
}
