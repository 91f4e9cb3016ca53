-- What words say of a plane.
use Rattle.std.proofs.Common.{◌≡◌, ℤ, ℕ, pos, zero, suc, ◌+ℤ◌, ◌+◌, ◌*◌, ◌/◌, ◌%◌, ◌<◌, Bool, false, List, length, get_or, refl, sym, ◌∙◌, ap, arith}
use Rattle.std.proofs.lemmas.List.FromFn.{get_or-map-range_with_len, length-map-range_with_len}
use Rattle.std.proofs.lemmas.Nat.{mul-add-lt, div-mul-add, mod-mul-add, mul-le}
use Rattle.pl_grid.specs.Extent.{Extent}
use Rattle.pl_grid.specs.Planes.{Cells, cell_at, filled, plane_of, IsFull}
use Rattle.pl_grid.proofs.PlaneLemmas.{is_plane_of, filled_at}
use Rattle.pl_lanes.specs.Bits.{is_set, has_bit}
use Rattle.pl_lanes.proofs.BitLemmas.{has_bit-zero}
use Rattle.std.specs.Prelude.{replicate}
use Rattle.std.proofs.lemmas.Simd.{length-replicate}
use Rattle.pl_grid.specs.Packed.{words_of, bit_place, packed_cells, packed, IsPacked}

pub IsFull-packed : (b : Extent) (words : List ℕ) → IsFull (packed b words)
unfolding packed_cells
IsFull-packed b words = length-map-range_with_len (λ k. is_set words (bit_place b.cols (k / b.cols) (k % b.cols))) 0 (b.cols * b.rows)

-- the cell at a column and a row is its bit
pub cell_at-packed : (b : Extent) (words : List ℕ) (i j : ℕ) → i < b.cols → j < b.rows → cell_at (packed b words) i j ≡ is_set words (bit_place b.cols j i)
unfolding packed_cells
cell_at-packed b words i j p q =
    let here : j * b.cols + i < b.cols * b.rows = mul-add-lt j b.cols i b.rows q p in
    get_or-map-range_with_len (λ k. is_set words (bit_place b.cols (k / b.cols) (k % b.cols))) 0 (b.cols * b.rows) (j * b.cols + i) (j * b.cols + i) false here (omega arith)
    ∙ ap (λ n. is_set words (bit_place b.cols ((j * b.cols + i) / b.cols) n)) (mod-mul-add j b.cols i p)
    ∙ ap (λ n. is_set words (bit_place b.cols n i)) (div-mul-add j b.cols i p)

-- words are the plane of a test where each cell's bit is what the test says
pub packed_is : (b : Extent) (words : List ℕ) (t : ℤ → ℤ → Bool) → ((i j : ℕ) → i < b.cols → j < b.rows → is_set words (bit_place b.cols j i) ≡ t (b.x0 +ℤ pos i) (b.y0 +ℤ pos j)) → packed b words ≡ plane_of b t
packed_is b words t h = is_plane_of (packed b words) t (IsFull-packed b words) (λ i j p q. cell_at-packed b words i j p q ∙ h i j p q)

-- the bits of a row are among all bits
pub place_within : (cols rows j i n : ℕ) → n ≡ rows * words_of cols → j < rows → i < 64 * words_of cols → bit_place cols j i < 64 * n
place_within cols rows j i n e q p = omega (arith, mul-le (suc j) (words_of cols) rows (words_of cols) q (omega arith))

-- a column is one of the bits of its row
pub column_within : (cols i : ℕ) → i < cols → i < 64 * words_of cols
column_within cols i h = omega arith

-- ---- what is made of a plane's words

-- a cell of a plane that words say is its bit
pub filled_bit : (p : Cells) (b : Extent) (words : List ℕ) → packed b words ≡ p → (i j : ℕ) → i < b.cols → j < b.rows → filled p (b.x0 +ℤ pos i) (b.y0 +ℤ pos j) ≡ is_set words (bit_place b.cols j i)
filled_bit p b words e i j hi hj = ap (λ q. filled q (b.x0 +ℤ pos i) (b.y0 +ℤ pos j)) (sym e) ∙ filled_at (packed b words) (b.x0 +ℤ pos i) (b.y0 +ℤ pos j) i j hi hj refl refl ∙ cell_at-packed b words i j hi hj

-- words whose bits are what a test says are the plane of the test in the box of another
pub made_is : (p : Cells) (b : Extent) (words out : List ℕ) (t : ℤ → ℤ → Bool) → packed b words ≡ p → ((i j : ℕ) → i < b.cols → j < b.rows → is_set out (bit_place b.cols j i) ≡ t (b.x0 +ℤ pos i) (b.y0 +ℤ pos j)) → packed b out ≡ plane_of p.bounds t
made_is p b words out t e h = packed_is b out t h ∙ ap (λ q. plane_of q.bounds t) e

-- words that are made bit by bit of those of two planes with one box
pub both_is : (op : Bool → Bool → Bool) (p q : Cells) (b c : Extent) (ws vs ws' vs' out : List ℕ) → packed b ws ≡ p → packed c vs ≡ q → p.bounds ≡ q.bounds → length ws ≡ b.rows * words_of b.cols → ws' ≡ ws → vs' ≡ vs
    → ((x : ℕ) → x < 64 * length ws' → is_set out x ≡ op (is_set ws' x) (is_set vs' x)) → packed b out ≡ plane_of p.bounds (λ x y. op (filled p x y) (filled q x y))
both_is op p q b c ws vs ws' vs' out ep eq same room ew ev h =
    let eb : c ≡ b = ap (λ r. r.bounds) eq ∙ sym same ∙ sym (ap (λ r. r.bounds) ep) in
    let eq' : packed b vs ≡ q = ap (λ e. packed e vs) (sym eb) ∙ eq in
    let h' : (x : ℕ) → x < 64 * length ws' → is_set out x ≡ op (is_set ws x) (is_set vs x) = λ x less. h x less ∙ ap (λ l. op (is_set l x) (is_set vs' x)) ew ∙ ap (λ l. op (is_set ws x) (is_set l x)) ev in
    made_is p b ws out (λ x y. op (filled p x y) (filled q x y)) ep (λ i j hi hj.
    h' (bit_place b.cols j i) (place_within b.cols b.rows j i (length ws') (ap length ew ∙ room) hj (column_within b.cols i hi))
    ∙ ap (λ a. op a (is_set vs (bit_place b.cols j i))) (sym (filled_bit p b ws ep i j hi hj))
    ∙ ap (λ a. op (filled p (b.x0 +ℤ pos i) (b.y0 +ℤ pos j)) a) (sym (filled_bit q b vs eq' i j hi hj)))

-- ---- no bit set

get_or-zeros : (n i : ℕ) → get_or (replicate {A = ℕ} n 0) i 0 ≡ zero
get_or-zeros zero i = refl
get_or-zeros (suc n) zero = refl
get_or-zeros (suc n) (suc i) = get_or-zeros n i

pub is_set-zeros : (words : List ℕ) (n x : ℕ) → words ≡ replicate n 0 → is_set words x ≡ false
is_set-zeros words n x e = ap (λ w. is_set w x) e ∙ ap (λ w. has_bit w (x % 64)) (get_or-zeros n (x / 64)) ∙ has_bit-zero (x % 64)

pub IsPacked-zeros : (b : Extent) (words : List ℕ) (n : ℕ) → words ≡ replicate n 0 → n ≡ b.rows * words_of b.cols → IsPacked b words
IsPacked-zeros b words n e room = record { room = ap length e ∙ length-replicate n 0 ∙ room; tail = λ j i hj low high. is_set-zeros words n (bit_place b.cols j i) e }

pub cell_at_bit : (p : Cells) (b : Extent) (ws ws' : List ℕ) (at i j : ℕ) → packed b ws ≡ p → ws' ≡ ws → at ≡ bit_place b.cols j i → i < p.bounds.cols → j < p.bounds.rows → is_set ws' at ≡ cell_at p i j
cell_at_bit p b ws ws' at i j e ew ea hi hj =
    let cols : b.cols ≡ p.bounds.cols = ap (λ q. q.bounds.cols) e in
    let rows : b.rows ≡ p.bounds.rows = ap (λ q. q.bounds.rows) e in
    ap (λ l. is_set l at) ew ∙ ap (λ n. is_set ws n) ea ∙ sym (cell_at-packed b ws i j (omega (arith, cols)) (omega (arith, rows))) ∙ ap (λ q. cell_at q i j) e
