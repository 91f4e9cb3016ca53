-- A block of four words, word by word, and the bits of words.
use Rattle.std.proofs.Common.{◌≡◌, ◌+◌, ◌-◌, ◌*◌, ◌/◌, ◌%◌, ◌<◌, ◌≤◌, ℕ, List, length, map, get_or, refl, ap, sym, ◌∙◌, arith, zero, suc, ◌^◌}
use lib.Lanes.{put_chunk, zip2, chunk}
use Rattle.std.specs.Prelude.{replicate, bit_and, bit_or}
use Rattle.pl_lanes.specs.Bits.{eroded_word, dilated_word, moved_up, moved_down}
use Rattle.std.proofs.lemmas.Simd.{length-zip2, length-chunk, get_or-chunk, get_or-put_chunk_at, get_or-zip2, length-replicate, get_or-replicate}
use Rattle.std.proofs.lemmas.List.{get_or-map, length-map}

-- word k of a block that was put at a place
pub put_word : (out words : List ℕ) (at k : ℕ) → at ≤ k → k < at + length words → at + length words ≤ length out → get_or (put_chunk at out words) k 0 ≡ get_or words (k - at) 0
put_word out words at k low high room =
    let e : k ≡ at + (k - at) = omega arith in
    ap (λ i. get_or (put_chunk at out words) i 0) e ∙ get_or-put_chunk_at at out words (k - at) 0 (omega arith) room

-- word k of what two blocks make by f, the second by g before
pub block_word : (f : ℕ → ℕ → ℕ) (g : ℕ → ℕ) (row other out : List ℕ) (at k : ℕ) → at ≤ k → k < at + 4 → at + 4 ≤ length row → length other ≡ length row → length out ≡ length row → get_or (put_chunk at out (zip2 f (chunk at 4 row) (map g (chunk at 4 other)))) k 0 ≡ f (get_or row k 0) (g (get_or other k 0))
block_word f g row other out at k low high within same room =
    let four : length (chunk at 4 row) ≡ 4 = length-chunk at 4 row within in
    let four' : length (chunk at 4 other) ≡ 4 = length-chunk at 4 other (omega arith) in
    let mapped : length (map g (chunk at 4 other)) ≡ 4 = length-map (chunk at 4 other) g ∙ four' in
    let all : length (zip2 f (chunk at 4 row) (map g (chunk at 4 other))) ≡ 4 = length-zip2 f (chunk at 4 row) (map g (chunk at 4 other)) (four ∙ sym mapped) ∙ four in
    let e : at + (k - at) ≡ k = omega arith in
    put_word out (zip2 f (chunk at 4 row) (map g (chunk at 4 other))) at k low (omega arith) (omega arith)
    ∙ get_or-zip2 f (chunk at 4 row) (map g (chunk at 4 other)) (k - at) 0 0 0 (omega arith) (omega arith)
    ∙ ap (λ b. f (get_or (chunk at 4 row) (k - at) 0) b) (get_or-map g (chunk at 4 other) (k - at) 0 0 (omega arith))
    ∙ ap (λ a. f a (g (get_or (chunk at 4 other) (k - at) 0))) (get_or-chunk at 4 row (k - at) 0 (omega arith) ∙ ap (λ i. get_or row i 0) e)
    ∙ ap (λ b. f (get_or row k 0) (g b)) (get_or-chunk at 4 other (k - at) 0 (omega arith) ∙ ap (λ i. get_or other i 0) e)

-- ---- blocks of four lanes by what each lane is

pub record IsBlock (xs : List ℕ) (f : ℕ → ℕ) : Type 0 where
  pub four : length xs ≡ 4
  pub lane : (i : ℕ) → i < 4 → get_or xs i 0 ≡ f i

pub IsBlock-chunk : (at : ℕ) (row : List ℕ) → at + 4 ≤ length row → IsBlock (chunk at 4 row) (λ i. get_or row (at + i) 0)
IsBlock-chunk at row h = record { four = length-chunk at 4 row h; lane = λ i less. get_or-chunk at 4 row i 0 less }

pub IsBlock-splat : (n : ℕ) → IsBlock (replicate 4 n) (λ i. n)
IsBlock-splat n = record { four = length-replicate 4 n; lane = λ i less. get_or-replicate 4 i n 0 less }

pub IsBlock-zip2 : (h : ℕ → ℕ → ℕ) (xs ys : List ℕ) (f g : ℕ → ℕ) → IsBlock xs f → IsBlock ys g → IsBlock (zip2 h xs ys) (λ i. h (f i) (g i))
IsBlock-zip2 h xs ys f g x y = record {
  four = length-zip2 h xs ys (x.four ∙ sym y.four) ∙ x.four;
  lane = λ i less. get_or-zip2 h xs ys i 0 0 0 (omega (arith, x.four)) (omega (arith, y.four)) ∙ ap (λ a. h a (get_or ys i 0)) (x.lane i less) ∙ ap (λ b. h (f i) b) (y.lane i less);
}

pub put_lane : (out ys : List ℕ) (f : ℕ → ℕ) (at k : ℕ) → IsBlock ys f → at ≤ k → k < at + 4 → at + 4 ≤ length out → get_or (put_chunk at out ys) k 0 ≡ f (k - at)
put_lane out ys f at k b low high room = put_word out ys at k low (omega (arith, b.four)) (omega (arith, b.four)) ∙ b.lane (k - at) (omega arith)

-- ---- a block of eroded words

abbrev shl : ℕ → ℕ → ℕ
shl a b = a * 2 ^ b % 2 ^ 64

abbrev shr : ℕ → ℕ → ℕ
shr a b = a / 2 ^ b

-- a word by itself, its two neighbours and the words below and above
abbrev eroded_of : ℕ → ℕ → ℕ → ℕ → ℕ → ℕ
eroded_of word before after below above = bit_and (bit_and word (bit_and (moved_up before word) (moved_down word after))) (bit_and below above)

eroded_at : (below row above : List ℕ) (at i k : ℕ) → 1 ≤ at → k ≡ at + i → eroded_of (get_or row (at + i) 0) (get_or row (at - 1 + i) 0) (get_or row (at + 1 + i) 0) (get_or below (at + i) 0) (get_or above (at + i) 0) ≡ eroded_word below row above k
eroded_at below row above at i zero h e = absurd (omega arith)
eroded_at below row above at i (suc m) h e =
    let before : at - 1 + i ≡ m = omega arith in
    let here : at + i ≡ suc m = omega arith in
    let after : at + 1 + i ≡ suc m + 1 = omega arith in
    rw (before, here, after) refl

pub eroded_block : (below row above out : List ℕ) (at k : ℕ) → 1 ≤ at → at + 5 ≤ length row → length below ≡ length row → length above ≡ length row → length out ≡ length row → at ≤ k → k < at + 4
    → get_or (put_chunk at out (zip2 bit_and (zip2 bit_and (chunk at 4 row) (zip2 bit_and (zip2 bit_or (zip2 shl (chunk at 4 row) (replicate 4 1)) (zip2 shr (chunk (at - 1) 4 row) (replicate 4 63))) (zip2 bit_or (zip2 shr (chunk at 4 row) (replicate 4 1)) (zip2 shl (chunk (at + 1) 4 row) (replicate 4 63))))) (zip2 bit_and (chunk at 4 below) (chunk at 4 above)))) k 0 ≡ eroded_word below row above k
eroded_block below row above out at k low within eb ea eo from to =
    let word = IsBlock-chunk at row (omega arith) in
    let before = IsBlock-chunk (at - 1) row (omega arith) in
    let after = IsBlock-chunk (at + 1) row (omega arith) in
    let up = IsBlock-zip2 bit_or _ _ _ _ (IsBlock-zip2 shl _ _ _ _ word (IsBlock-splat 1)) (IsBlock-zip2 shr _ _ _ _ before (IsBlock-splat 63)) in
    let down = IsBlock-zip2 bit_or _ _ _ _ (IsBlock-zip2 shr _ _ _ _ word (IsBlock-splat 1)) (IsBlock-zip2 shl _ _ _ _ after (IsBlock-splat 63)) in
    let across = IsBlock-zip2 bit_and _ _ _ _ (IsBlock-chunk at below (omega arith)) (IsBlock-chunk at above (omega arith)) in
    let all = IsBlock-zip2 bit_and _ _ _ _ (IsBlock-zip2 bit_and _ _ _ _ word (IsBlock-zip2 bit_and _ _ _ _ up down)) across in
    put_lane out _ _ at k all from to (omega arith) ∙ eroded_at below row above at (k - at) k low (omega arith)

-- ---- a block of dilated words

abbrev dilated_of : ℕ → ℕ → ℕ → ℕ → ℕ → ℕ
dilated_of word before after below above = bit_or (bit_or word (bit_or (moved_up before word) (moved_down word after))) (bit_or below above)

dilated_at : (below row above : List ℕ) (at i k : ℕ) → 1 ≤ at → k ≡ at + i → dilated_of (get_or row (at + i) 0) (get_or row (at - 1 + i) 0) (get_or row (at + 1 + i) 0) (get_or below (at + i) 0) (get_or above (at + i) 0) ≡ dilated_word below row above k
dilated_at below row above at i zero h e = absurd (omega arith)
dilated_at below row above at i (suc m) h e =
    let before : at - 1 + i ≡ m = omega arith in
    let here : at + i ≡ suc m = omega arith in
    let after : at + 1 + i ≡ suc m + 1 = omega arith in
    rw (before, here, after) refl

pub dilated_block : (below row above out : List ℕ) (at k : ℕ) → 1 ≤ at → at + 5 ≤ length row → length below ≡ length row → length above ≡ length row → length out ≡ length row → at ≤ k → k < at + 4
    → get_or (put_chunk at out (zip2 bit_or (zip2 bit_or (chunk at 4 row) (zip2 bit_or (zip2 bit_or (zip2 shl (chunk at 4 row) (replicate 4 1)) (zip2 shr (chunk (at - 1) 4 row) (replicate 4 63))) (zip2 bit_or (zip2 shr (chunk at 4 row) (replicate 4 1)) (zip2 shl (chunk (at + 1) 4 row) (replicate 4 63))))) (zip2 bit_or (chunk at 4 below) (chunk at 4 above)))) k 0 ≡ dilated_word below row above k
dilated_block below row above out at k low within eb ea eo from to =
    let word = IsBlock-chunk at row (omega arith) in
    let before = IsBlock-chunk (at - 1) row (omega arith) in
    let after = IsBlock-chunk (at + 1) row (omega arith) in
    let up = IsBlock-zip2 bit_or _ _ _ _ (IsBlock-zip2 shl _ _ _ _ word (IsBlock-splat 1)) (IsBlock-zip2 shr _ _ _ _ before (IsBlock-splat 63)) in
    let down = IsBlock-zip2 bit_or _ _ _ _ (IsBlock-zip2 shr _ _ _ _ word (IsBlock-splat 1)) (IsBlock-zip2 shl _ _ _ _ after (IsBlock-splat 63)) in
    let across = IsBlock-zip2 bit_or _ _ _ _ (IsBlock-chunk at below (omega arith)) (IsBlock-chunk at above (omega arith)) in
    let all = IsBlock-zip2 bit_or _ _ _ _ (IsBlock-zip2 bit_or _ _ _ _ word (IsBlock-zip2 bit_or _ _ _ _ up down)) across in
    put_lane out _ _ at k all from to (omega arith) ∙ dilated_at below row above at (k - at) k low (omega arith)
