-- The bits of one row among all.
use Rattle.std.proofs.Common.{◌≡◌, ℕ, ◌+◌, ◌-◌, ◌*◌, ◌/◌, ◌%◌, ◌<◌, ◌≤◌, ◌==◌, Bool, List, ◌++◌, length, take, drop, get_or, set, get_or-set_same, get_or-set_other, sym, ◌∙◌, ap, arith, cond, not}
use Rattle.std.specs.Prelude.{nat_lt}
use Rattle.std.proofs.lemmas.List.{get_or-take, get_or-drop, get_or_append_left, length-take, length-drop}
use Rattle.std.proofs.Math.Seq.{get_or-append_right}
use borrow.Rule.Slice.PartMut.{put_mid}
use Rattle.pl_lanes.specs.Bits.{has_bit, is_set}
use Rattle.pl_grid.proofs.Cases.{by_eq, eq_yes, eq_no}

-- the bits of a part of the words
pub part_bits : (words : List ℕ) (start count i : ℕ) → i < 64 * count → is_set (take count (drop start words)) i ≡ is_set words (64 * start + i)
part_bits words start count i h =
    let word : (64 * start + i) / 64 ≡ start + i / 64 = omega arith in
    let bit : (64 * start + i) % 64 ≡ i % 64 = omega arith in
    ap (λ w. has_bit w (i % 64)) (get_or-take count (drop start words) (i / 64) 0 (omega arith) ∙ get_or-drop start words (i / 64) 0)
    ∙ sym (ap (λ w. has_bit (get_or words w 0) ((64 * start + i) % 64)) word ∙ ap (λ b. has_bit (get_or words (start + i / 64) 0) b) bit)

len_front : (a : ℕ) (xs : List ℕ) → a ≤ length xs → length (take a xs) ≡ a
len_front a xs h = omega (arith, length-take a xs)

mid_before : (a k n : ℕ) (xs ys : List ℕ) → n < a → a ≤ length xs → get_or (put_mid a k xs ys) n 0 ≡ get_or xs n 0
mid_before a k n xs ys h room = get_or_append_left (take a xs) (ys ++ drop k (drop a xs)) 0 n (omega (arith, len_front a xs room)) ∙ get_or-take a xs n 0 h

mid_right : (a k n : ℕ) (xs ys : List ℕ) → a ≤ n → a ≤ length xs → get_or (put_mid a k xs ys) n 0 ≡ get_or (ys ++ drop k (drop a xs)) (n - a) 0
mid_right a k n xs ys h room = get_or-append_right (take a xs) (ys ++ drop k (drop a xs)) n 0 (omega (arith, len_front a xs room)) ∙ ap (λ m. get_or (ys ++ drop k (drop a xs)) (n - m) 0) (len_front a xs room)

mid_inside : (a k n : ℕ) (xs ys : List ℕ) → a ≤ n → n < a + k → length ys ≡ k → a ≤ length xs → get_or (put_mid a k xs ys) n 0 ≡ get_or ys (n - a) 0
mid_inside a k n xs ys low high len room = mid_right a k n xs ys low room ∙ get_or_append_left ys (drop k (drop a xs)) 0 (n - a) (omega (arith, len))

mid_after : (a k n : ℕ) (xs ys : List ℕ) → a + k ≤ n → length ys ≡ k → a ≤ length xs → get_or (put_mid a k xs ys) n 0 ≡ get_or xs n 0
mid_after a k n xs ys low len room =
    let e : a + (k + (n - a - k)) ≡ n = omega arith in
    mid_right a k n xs ys (omega arith) room ∙ get_or-append_right ys (drop k (drop a xs)) (n - a) 0 (omega (arith, len)) ∙ ap (λ m. get_or (drop k (drop a xs)) (n - a - m) 0) len
    ∙ get_or-drop k (drop a xs) (n - a - k) 0 ∙ get_or-drop a xs (k + (n - a - k)) 0 ∙ ap (λ m. get_or xs m 0) e

-- the bits after a part was written
pub bits_before : (a k i : ℕ) (xs ys : List ℕ) → i < 64 * a → a ≤ length xs → is_set (put_mid a k xs ys) i ≡ is_set xs i
bits_before a k i xs ys h room = ap (λ w. has_bit w (i % 64)) (mid_before a k (i / 64) xs ys (omega arith) room)

pub bits_inside : (a k i : ℕ) (xs ys : List ℕ) → i < 64 * k → length ys ≡ k → a ≤ length xs → is_set (put_mid a k xs ys) (64 * a + i) ≡ is_set ys i
bits_inside a k i xs ys h len room =
    let word : (64 * a + i) / 64 - a ≡ i / 64 = omega arith in
    let bit : (64 * a + i) % 64 ≡ i % 64 = omega arith in
    ap (λ w. has_bit w ((64 * a + i) % 64)) (mid_inside a k ((64 * a + i) / 64) xs ys (omega arith) (omega arith) len room)
    ∙ ap (λ m. has_bit (get_or ys m 0) ((64 * a + i) % 64)) word ∙ ap (λ b. has_bit (get_or ys (i / 64) 0) b) bit

pub bits_after : (a k i : ℕ) (xs ys : List ℕ) → 64 * (a + k) ≤ i → length ys ≡ k → a ≤ length xs → is_set (put_mid a k xs ys) i ≡ is_set xs i
bits_after a k i xs ys h len room = ap (λ w. has_bit w (i % 64)) (mid_after a k (i / 64) xs ys (omega arith) len room)

pub part_length : (start count k : ℕ) (words : List ℕ) → k ≡ count → start + count ≤ length words → length (take k (drop start words)) ≡ k
part_length start count k words e room = len_front k (drop start words) (omega (arith, e, length-drop start words))

-- the bits of a part that was written
pub part_is : (words row : List ℕ) (start count k : ℕ) (f : ℕ → Bool) → k ≡ count → start + count ≤ length words → length row ≡ length (take k (drop start words)) → ((i : ℕ) → i < 64 * count → is_set row i ≡ f i)
    → (i : ℕ) → i < 64 * count → is_set (put_mid start k words row) (64 * start + i) ≡ f i
part_is words row start count k f e room len h i less =
    let long = part_length start count k words e room in
    bits_inside start k i words row (omega arith) (len ∙ long) (omega arith) ∙ h i less

pub toggled_part : (words row : List ℕ) (start count k x : ℕ) → k ≡ count → start + count ≤ length words → length row ≡ length (take k (drop start words))
    → ((i : ℕ) → i < 64 * length (take k (drop start words)) → is_set row i ≡ cond (nat_lt i x) (not (is_set (take k (drop start words)) i)) (is_set (take k (drop start words)) i))
    → (i : ℕ) → i < 64 * count → is_set (put_mid start k words row) (64 * start + i) ≡ cond (nat_lt i x) (not (is_set words (64 * start + i))) (is_set words (64 * start + i))
toggled_part words row start count k x e room len h i less =
    let long = part_length start count k words e room in
    bits_inside start k i words row (omega arith) (len ∙ long) (omega arith) ∙ h i (omega (arith, long))
    ∙ ap (λ b. cond (nat_lt i x) (not b) b) (part_bits words start k i (omega arith))

pub unchanged_before : (words row : List ℕ) (start count k : ℕ) → start + count ≤ length words → (i : ℕ) → i < 64 * start → is_set (put_mid start k words row) i ≡ is_set words i
unchanged_before words row start count k room i less = bits_before start k i words row less (omega arith)

pub unchanged_after : (words row : List ℕ) (start count k : ℕ) → k ≡ count → start + count ≤ length words → length row ≡ length (take k (drop start words)) → (i : ℕ) → 64 * (start + count) ≤ i → is_set (put_mid start k words row) i ≡ is_set words i
unchanged_after words row start count k e room len i low = bits_after start k i words row (omega arith) (len ∙ part_length start count k words e room) (omega arith)

-- ---- one word

-- bits that are alike in a word
pub alike_in_words : (words : List ℕ) (at k n : ℕ) → k < n → at % 64 + n ≤ 64 → ((i : ℕ) → i < n → has_bit (get_or words (at / 64) 0) (at % 64 + i) ≡ has_bit (get_or words (at / 64) 0) (at % 64)) → is_set words (at + k) ≡ is_set words at
alike_in_words words at k n less within h =
    let word : (at + k) / 64 ≡ at / 64 = omega arith in
    let bit : (at + k) % 64 ≡ at % 64 + k = omega arith in
    ap (λ w. has_bit (get_or words w 0) ((at + k) % 64)) word ∙ ap (λ b. has_bit (get_or words (at / 64) 0) b) bit ∙ h k less

same_place : (at k : ℕ) → k / 64 ≡ at / 64 → (k % 64 == at % 64) ≡ (k == at)
same_place at k e = by_eq k at
    (λ same. eq_yes (k % 64) (at % 64) (ap (λ n. n % 64) same) ∙ sym (eq_yes k at same))
    (λ apart. eq_no (k % 64) (at % 64) (λ b. apart (omega (arith, e, b))) ∙ sym (eq_no k at apart))

-- one word of which one bit is changed
pub set_in_words : (words : List ℕ) (at : ℕ) (v : Bool) (word : ℕ) → at < 64 * length words → ((i : ℕ) → i < 64 → has_bit word i ≡ cond (i == at % 64) v (has_bit (get_or words (at / 64) 0) i))
    → (k : ℕ) → is_set (set words (at / 64) word) k ≡ cond (k == at) v (is_set words k)
set_in_words words at v word within h k = by_eq (k / 64) (at / 64)
    (λ e. ap (λ w. has_bit (get_or (set words (at / 64) word) w 0) (k % 64)) e
    ∙ ap (λ w. has_bit w (k % 64)) (get_or-set_same words (at / 64) word 0 (omega arith))
    ∙ h (k % 64) (omega arith)
    ∙ ap (λ b. cond b v (has_bit (get_or words (at / 64) 0) (k % 64))) (same_place at k e)
    ∙ ap (λ w. cond (k == at) v (has_bit (get_or words w 0) (k % 64))) (sym e))
    (λ apart. ap (λ w. has_bit w (k % 64)) (get_or-set_other words (at / 64) (k / 64) word 0 apart)
    ∙ ap (λ b. cond b v (is_set words k)) (sym (eq_no k at (λ same. apart (ap (λ n. n / 64) same)))))
