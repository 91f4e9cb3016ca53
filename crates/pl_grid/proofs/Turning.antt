-- The words of a plane turned over its diagonal.
use Rattle.std.proofs.Common.{◌≡◌, ℕ, suc, ◌+◌, ◌*◌, ◌/◌, ◌%◌, ◌<◌, Bool, ◌&&◌, ℤ, List, [], ◌∷◌, map, is_some, length, slice_index, ◌+ℤ◌, pos, refl, sym, ◌∙◌, ap, arith}
use Rattle.std.proofs.lemmas.Nat.{mul-le}
use Rattle.pl_lanes.specs.Bits.{has_bit, is_set}
use Rattle.std.specs.declared.option.Option.{Option}
use Rattle.std.specs.declared.option.Option.TheVariants.{Some, None}
use Rattle.std.specs.List.{range_with_len}
use Rattle.pl_grid.specs.Extent.{Extent, place_at, column_of, row_of}
use Rattle.pl_grid.specs.Lines.{line_runs, line_cells}
use Rattle.pl_grid.specs.Strokes.{runs_in}
use Rattle.pl_grid.specs.declared.stroke.Axis.TheVariants.{Rows, Columns}
use Rattle.pl_grid.specs.Planes.{Cells, filled, plane_of, value_at}
use Rattle.pl_grid.specs.Packed.{words_of, bit_place, packed, IsPacked}
use Rattle.pl_grid.specs.Turned.{turned_box, transposed, IsStrip}
use Rattle.pl_grid.proofs.Cases.{by_eq}
use Rattle.pl_grid.proofs.PackedLemmas.{packed_is, filled_bit}
use Rattle.pl_grid.proofs.PlaneLemmas.{filled-plane_of}
use Rattle.pl_grid.proofs.RowParts.{unset_past}

-- so many rows of words whose bits are those of the columns
abbrev pub AreTurned : List ℕ → List ℕ → ℕ → ℕ → ℕ → Type 0
AreTurned words out count wide cols = (i w b : ℕ) → i < cols → w < wide → b < 64 → has_bit (slice_index out (i * wide + w)) b ≡ has_bit (slice_index words ((64 * w + b) * count + i / 64)) (i % 64)

pub turned_more : (words out new strip : List ℕ) (count wide n : ℕ) → length out ≡ n * wide → AreTurned words out count wide n → IsStrip words count wide (n / 64) strip
    → ((k : ℕ) → k < length out → slice_index new k ≡ slice_index out k)
    → ((w : ℕ) → w < wide → slice_index new (length out + w) ≡ slice_index strip (64 * w + n % 64))
    → AreTurned words new count wide (n + 1)
turned_more words out new strip count wide n len done is before row i w b hi hw hb = by_eq i n
    (λ e.
    let place : i * wide + w ≡ length out + w = ap (λ r. r * wide + w) e ∙ ap (λ l. l + w) (sym len) in
    ap (λ k. has_bit (slice_index new k) b) place
    ∙ ap (λ v. has_bit v b) (row w hw)
    ∙ is.bits (n % 64) w b (omega arith) hw hb
    ∙ sym (ap (λ r. has_bit (slice_index words ((64 * w + b) * count + r / 64)) (r % 64)) e))
    (λ apart. ap (λ v. has_bit v b) (before (i * wide + w) (omega (arith, len, mul-le (suc i) wide n wide (omega arith) (omega arith)))) ∙ done i w b (omega arith) hw hb)

-- bit i of row j is bit j of row i
turned_bit : (words out : List ℕ) (count wide cols : ℕ) → AreTurned words out count wide cols → (j i : ℕ) → j < cols → i < 64 * wide → is_set out (64 * (j * wide) + i) ≡ is_set words (64 * (i * count) + j)
turned_bit words out count wide cols are j i hj hi =
    let word : (64 * (j * wide) + i) / 64 ≡ j * wide + i / 64 = omega arith in
    let bit : (64 * (j * wide) + i) % 64 ≡ i % 64 = omega arith in
    let whole : 64 * (i / 64) + i % 64 ≡ i = omega arith in
    let word' : (64 * (i * count) + j) / 64 ≡ i * count + j / 64 = omega arith in
    let bit' : (64 * (i * count) + j) % 64 ≡ j % 64 = omega arith in
    ap (λ k. has_bit (slice_index out k) ((64 * (j * wide) + i) % 64)) word
    ∙ ap (λ k. has_bit (slice_index out (j * wide + i / 64)) k) bit
    ∙ are j (i / 64) (i % 64) hj (omega arith) (omega arith)
    ∙ ap (λ r. has_bit (slice_index words (r * count + j / 64)) (j % 64)) whole
    ∙ sym (ap (λ k. has_bit (slice_index words k) ((64 * (i * count) + j) % 64)) word' ∙ ap (λ k. has_bit (slice_index words (i * count + j / 64)) k) bit')

-- the same, in the words of the two boxes
box_bit : (b t : Extent) (ws ws' out : List ℕ) (count wide cols : ℕ) → t ≡ turned_box b → ws' ≡ ws → count ≡ words_of b.cols → wide ≡ words_of t.cols → cols ≡ b.cols → AreTurned ws' out count wide cols
    → (j i : ℕ) → j < t.rows → i < 64 * words_of t.cols → is_set out (bit_place t.cols j i) ≡ is_set ws (bit_place b.cols i j)
box_bit b t ws ws' out count wide cols et ew ec ewide ecols are j i hj hi =
    let rows : t.rows ≡ b.cols = ap (λ (e : Extent). e.rows) et in
    ap (λ n. is_set out (64 * (j * n) + i)) (sym ewide)
    ∙ turned_bit ws' out count wide cols are j i (omega (arith, rows, ecols)) (omega (arith, ewide))
    ∙ ap (λ l. is_set l (64 * (i * count) + j)) ew
    ∙ ap (λ n. is_set ws (64 * (i * n) + j)) ec

pub IsPacked-turned : (b t : Extent) (ws ws' out : List ℕ) (count wide cols : ℕ) → IsPacked b ws → t ≡ turned_box b → ws' ≡ ws → count ≡ words_of b.cols → wide ≡ words_of t.cols → cols ≡ b.cols → length out ≡ cols * wide → AreTurned ws' out count wide cols → IsPacked t out
IsPacked-turned b t ws ws' out count wide cols is et ew ec ewide ecols len are =
    let rows : t.rows ≡ b.cols = ap (λ (e : Extent). e.rows) et in
    let high : t.cols ≡ b.rows = ap (λ (e : Extent). e.cols) et in
    record {
      room = len ∙ ap (λ n. n * wide) (ecols ∙ sym rows) ∙ ap (λ n. t.rows * n) ewide;
      tail = λ j i hj low hi. box_bit b t ws ws' out count wide cols et ew ec ewide ecols are j i hj hi
          ∙ unset_past ws (bit_place b.cols i j) (omega (arith, is.room, mul-le b.rows (words_of b.cols) i (words_of b.cols) (omega (arith, high)) (omega arith)));
    }

pub transposed_is : (p : Cells) (b t : Extent) (ws ws' out : List ℕ) (count wide cols : ℕ) → packed b ws ≡ p → t ≡ turned_box b → ws' ≡ ws → count ≡ words_of b.cols → wide ≡ words_of t.cols → cols ≡ b.cols → AreTurned ws' out count wide cols → packed t out ≡ transposed p
transposed_is p b t ws ws' out count wide cols e et ew ec ewide ecols are =
    let rows : t.rows ≡ b.cols = ap (λ (e : Extent). e.rows) et in
    let high : t.cols ≡ b.rows = ap (λ (e : Extent). e.cols) et in
    packed_is t out (λ x y. filled p y x) (λ i j hi hj.
    box_bit b t ws ws' out count wide cols et ew ec ewide ecols are j i hj (omega arith)
    ∙ sym (filled_bit p b ws e j i (omega (arith, rows)) (omega (arith, high)))
    ∙ sym (ap (λ (r : Extent). filled p (r.y0 +ℤ pos j) (r.x0 +ℤ pos i)) et))
    ∙ ap (λ r. plane_of r (λ x y. filled p y x)) (et ∙ ap (λ (q : Cells). turned_box q.bounds) e)

-- ---- the lines of a plane that is turned

both_some : (cells : List Bool) (cols rows : ℕ) (a b : Option ℕ) → (is_some (place_at rows b a) && value_at cells (place_at cols a b)) ≡ value_at cells (place_at cols a b)
both_some cells cols rows (Some i) (Some j) = refl
both_some cells cols rows (Some i) None = refl
both_some cells cols rows None (Some j) = refl
both_some cells cols rows None None = refl

-- the cell x y of the plane that is turned is the cell y x
pub filled_turned : (p : Cells) (x y : ℤ) → filled (transposed p) x y ≡ filled p y x
filled_turned p x y = filled-plane_of (turned_box p.bounds) (λ x y. filled p y x) x y ∙ both_some p.cells p.bounds.cols p.bounds.rows (column_of p.bounds y) (row_of p.bounds x)

map_same : {A B : Type 0} (f g : A → B) (xs : List A) → ((x : A) → f x ≡ g x) → map f xs ≡ map g xs
map_same f g [] h = refl
map_same f g (x ∷ xs) h = ap (λ y. y ∷ map f xs) (h x) ∙ ap (λ ys. g x ∷ ys) (map_same f g xs h)

-- the lines along columns are those along the rows of the plane that is turned
pub lines_turned : (p : Cells) (line : ℤ) → line_runs Rows (transposed p) line ≡ line_runs Columns p line
unfolding line_cells
lines_turned p line = ap (runs_in line p.bounds.y0) (map_same (λ i. filled (transposed p) (p.bounds.y0 +ℤ pos i) line) (λ i. filled p line (p.bounds.y0 +ℤ pos i)) (range_with_len 0 p.bounds.rows) (λ i. filled_turned p (p.bounds.y0 +ℤ pos i) line))
