-- One cell changed.
use Rattle.std.proofs.Common.{◌≡◌, ℤ, ℕ, pos, negsuc, suc, ◌-ℤ◌, Some, ◌+ℤ◌, ◌*◌, ◌<◌, Bool, cond, ◌&&◌, ◌==◌, List, length, sym, ◌∙◌, ap, arith}
use Rattle.std.proofs.lemmas.Int.{ints}
use Rattle.std.proofs.lemmas.Nat.{mul-le}
use Rattle.std.proofs.lemmas.Bool.Decides.{nat_tests}
use Rattle.std.specs.Ordering.{int_eq}
use Rattle.pl_lanes.specs.Bits.{is_set}
use Rattle.pl_grid.specs.Extent.{Extent, offset_in, column_of, row_of}
use Rattle.pl_grid.specs.Planes.{Cells, filled, with_cell}
use Rattle.pl_grid.specs.Packed.{words_of, bit_place, packed, IsPacked}
use Rattle.pl_grid.proofs.Cases.{by_eq, by_lt, eq_yes, eq_no, and_false}
use Rattle.pl_grid.proofs.PackedLemmas.{made_is, filled_bit, column_within}
use Rattle.pl_grid.proofs.Toggling.{same_row, other_row}

-- bits of two rows have different places
rows_apart : (cols j i j0 i0 : ℕ) → i < 64 * words_of cols → i0 < 64 * words_of cols → (j ≡ j0 → ⊥) → bit_place cols j i ≡ bit_place cols j0 i0 → ⊥
rows_apart cols j i j0 i0 hi hi0 apart e = by_lt j j0
    (λ low. omega (arith, e, mul-le (suc j) (words_of cols) j0 (words_of cols) low (omega arith)))
    (λ high. omega (arith, e, mul-le (suc j0) (words_of cols) j (words_of cols) (omega arith) (omega arith)))

columns_apart : (cols j i j0 i0 : ℕ) → j ≡ j0 → (i ≡ i0 → ⊥) → bit_place cols j i ≡ bit_place cols j0 i0 → ⊥
columns_apart cols j i j0 i0 same apart e = apart (omega (arith, e, ap (λ r. r * words_of cols) same))

-- a bit is the one of a cell where its column and its row are those
same_bit : (b : Extent) (x y : ℤ) (i j i0 j0 : ℕ) → b.x0 +ℤ pos i0 ≡ x → b.y0 +ℤ pos j0 ≡ y → i < b.cols → i0 < b.cols → (bit_place b.cols j i == bit_place b.cols j0 i0) ≡ (int_eq (b.x0 +ℤ pos i) x && int_eq (b.y0 +ℤ pos j) y)
same_bit b x y i j i0 j0 ex ey hi hi0 = by_eq j j0
    (λ row. by_eq i i0
    (λ column. eq_yes (bit_place b.cols j i) (bit_place b.cols j0 i0) (ap (λ n. bit_place b.cols n i) row ∙ ap (bit_place b.cols j0) column)
    ∙ sym (ap (λ t. t && int_eq (b.y0 +ℤ pos j) y) (same_row b.x0 x i (ap (λ n. b.x0 +ℤ pos n) column ∙ ex)) ∙ same_row b.y0 y j (ap (λ n. b.y0 +ℤ pos n) row ∙ ey)))
    (λ apart. eq_no (bit_place b.cols j i) (bit_place b.cols j0 i0) (columns_apart b.cols j i j0 i0 row apart)
    ∙ sym (ap (λ t. t && int_eq (b.y0 +ℤ pos j) y) (other_row b.x0 x i i0 ex apart))))
    (λ apart. eq_no (bit_place b.cols j i) (bit_place b.cols j0 i0) (rows_apart b.cols j i j0 i0 (column_within b.cols i hi) (column_within b.cols i0 hi0) apart)
    ∙ sym (ap (λ t. int_eq (b.x0 +ℤ pos i) x && t) (other_row b.y0 y j j0 ey apart) ∙ and_false (int_eq (b.x0 +ℤ pos i) x)))

-- the words of which one bit is changed are the plane with the cell changed
pub with_cell_is : (p : Cells) (b : Extent) (words words' out : List ℕ) (x y : ℤ) (v : Bool) (at i0 j0 : ℕ) → packed b words ≡ p → words' ≡ words → b.x0 +ℤ pos i0 ≡ x → b.y0 +ℤ pos j0 ≡ y → i0 < b.cols → at ≡ bit_place b.cols j0 i0
    → ((k : ℕ) → is_set out k ≡ cond (k == at) v (is_set words' k)) → packed b out ≡ with_cell p x y v
with_cell_is p b words words' out x y v at i0 j0 e ew ex ey hi0 ea h =
    made_is p b words out (λ u w. cond (int_eq u x && int_eq w y) v (filled p u w)) e (λ i j hi hj.
    h (bit_place b.cols j i)
    ∙ ap (λ l. cond (bit_place b.cols j i == at) v (is_set l (bit_place b.cols j i))) ew
    ∙ ap (λ n. cond (bit_place b.cols j i == n) v (is_set words (bit_place b.cols j i))) ea
    ∙ ap (λ t. cond t v (is_set words (bit_place b.cols j i))) (same_bit b x y i j i0 j0 ex ey hi hi0)
    ∙ ap (λ t. cond (int_eq (b.x0 +ℤ pos i) x && int_eq (b.y0 +ℤ pos j) y) v t) (sym (filled_bit p b words e i j hi hj)))

pub IsPacked-set : (b : Extent) (words words' out : List ℕ) (v : Bool) (at i0 j0 : ℕ) → IsPacked b words → words' ≡ words → length out ≡ length words' → i0 < b.cols → at ≡ bit_place b.cols j0 i0 → ((k : ℕ) → is_set out k ≡ cond (k == at) v (is_set words' k)) → IsPacked b out
IsPacked-set b words words' out v at i0 j0 ok ew len hi0 ea h = record {
  room = len ∙ ap length ew ∙ ok.room;
  tail = λ j i hj low high. h (bit_place b.cols j i)
      ∙ ap (λ t. cond t v (is_set words' (bit_place b.cols j i))) (eq_no (bit_place b.cols j i) at (λ same. by_eq j j0
      (λ row. columns_apart b.cols j i j0 i0 row (λ column. omega arith) (same ∙ ea))
      (λ apart. rows_apart b.cols j i j0 i0 high (column_within b.cols i0 hi0) apart (same ∙ ea))))
      ∙ ap (λ l. is_set l (bit_place b.cols j i)) ew ∙ ok.tail j i hj low high;
}

offset_some : (n : ℕ) (z : ℤ) (k : ℕ) → offset_in n z ≡ Some k → z ≡ pos k
offset_some n (pos m) k e = grind (arith, nat_tests)
offset_some n (negsuc m) k e = absurd (grind arith)

-- the column and the row of two coordinates
pub column_some : (b : Extent) (x : ℤ) (i : ℕ) → column_of b x ≡ Some i → b.x0 +ℤ pos i ≡ x
column_some b x i e = let z = offset_some b.cols (x -ℤ b.x0) i e in omega (arith, ints, z)

pub row_some : (b : Extent) (y : ℤ) (j : ℕ) → row_of b y ≡ Some j → b.y0 +ℤ pos j ≡ y
row_some b y j e = let z = offset_some b.rows (y -ℤ b.y0) j e in omega (arith, ints, z)
