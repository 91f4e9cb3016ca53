-- Single rows of the words of a plane, and their bits.
use Rattle.std.proofs.Common.{◌≡◌, ℕ, zero, suc, ◌+◌, ◌-◌, ◌*◌, ◌/◌, ◌%◌, ◌^◌, ◌<◌, ◌≤◌, Bool, false, ◌&&◌, ◌||◌, List, [], length, drop, get_or, set, get_or-set_same, get_or-set_other, refl, sym, ◌∙◌, ap, arith, cond, subst}
use Rattle.std.specs.Prelude.{nat_lt, bit_and}
use Rattle.std.proofs.lemmas.List.{get_or_past, length-take, length-drop}
use Rattle.std.proofs.lemmas.Nat.{mul-le}
use Rattle.pl_lanes.specs.Bits.{has_bit, is_set, is_set_before, stays_set, comes_set, word_before}
use Rattle.pl_lanes.proofs.BitLemmas.{has_bit-zero}
use Rattle.pl_grid.specs.Packed.{words_of, words_from, words_before, is_moved, is_widened}
use Rattle.pl_grid.proofs.Cases.{by_eq, by_lt, lt_yes, lt_no}
use Rattle.pl_grid.proofs.WordLemmas.{has_bit-kept}

-- ---- bits that no row has

pub unset_none : (k : ℕ) → is_set [] k ≡ false
unset_none k = has_bit-zero (k % 64)

pub unset_past : (row : List ℕ) (k : ℕ) → 64 * length row ≤ k → is_set row k ≡ false
unset_past row k h = ap (λ w. has_bit w (k % 64)) (get_or_past row (k / 64) 0 (omega arith)) ∙ has_bit-zero (k % 64)

pub before_none : (words : List ℕ) (count start k : ℕ) → start ≡ 0 → is_set (words_before words count start) k ≡ false
before_none words count start k e = ap (λ s. is_set (words_before words count s) k) e ∙ unset_none k

pub from_past : (words : List ℕ) (count start k : ℕ) → length words ≤ start → is_set (words_from words count start) k ≡ false
from_past words count start k h = unset_past (words_from words count start) k (omega (arith, length-take count (drop start words), length-drop start words))

-- ---- rows with the same bits

pub five : {X : Type 0} (f : Bool → Bool → Bool → Bool → Bool → X) (a b c d e a' b' c' d' e' : Bool) → a ≡ a' → b ≡ b' → c ≡ c' → d ≡ d' → e ≡ e' → f a b c d e ≡ f a' b' c' d' e'
five f a b c d e a' b' c' d' e' ha hb hc hd he = ap (λ t. f t b c d e) ha ∙ ap (λ t. f a' t c d e) hb ∙ ap (λ t. f a' b' t d e) hc ∙ ap (λ t. f a' b' c' t e) hd ∙ ap (λ t. f a' b' c' d' t) he

before_same : (row row' : List ℕ) → ((k : ℕ) → is_set row k ≡ is_set row' k) → (x : ℕ) → is_set_before row x ≡ is_set_before row' x
before_same row row' h zero = refl
before_same row row' h (suc x) = h x

pub stays_same : (below row above below' row' above' : List ℕ) → ((k : ℕ) → is_set below k ≡ is_set below' k) → ((k : ℕ) → is_set row k ≡ is_set row' k) → ((k : ℕ) → is_set above k ≡ is_set above' k) → (x : ℕ) → stays_set below row above x ≡ stays_set below' row' above' x
stays_same below row above below' row' above' hb hr ha x = five (λ a b c d e. a && (b && c) && (d && e)) _ _ _ _ _ _ _ _ _ _ (hr x) (before_same row row' hr x) (hr (x + 1)) (hb x) (ha x)

pub comes_same : (below row above below' row' above' : List ℕ) → ((k : ℕ) → is_set below k ≡ is_set below' k) → ((k : ℕ) → is_set row k ≡ is_set row' k) → ((k : ℕ) → is_set above k ≡ is_set above' k) → (x : ℕ) → comes_set below row above x ≡ comes_set below' row' above' x
comes_same below row above below' row' above' hb hr ha x = five (λ a b c d e. (a || (b || c)) || (d || e)) _ _ _ _ _ _ _ _ _ _ (hr x) (before_same row row' hr x) (hr (x + 1)) (hb x) (ha x)

-- ---- the columns of a row

pub kept_in_words : (row : List ℕ) (cols k : ℕ) → cols ≤ 8192 → length row ≡ words_of cols → 0 < length row → k < 64 * length row
    → is_set (set row (length row - 1) (bit_and (get_or row (length row - 1) 0) ((2 ^ 64 - 1) / 2 ^ (64 * length row - cols)))) k ≡ (nat_lt k cols && is_set row k)
kept_in_words row cols k few room some less =
    let last = length row - 1 in
    let word = bit_and (get_or row (length row - 1) 0) ((2 ^ 64 - 1) / 2 ^ (64 * length row - cols)) in
    by_eq (k / 64) (length row - 1)
    (λ e. ap (λ w. has_bit (get_or (set row (length row - 1) word) w 0) (k % 64)) e
    ∙ ap (λ w. has_bit w (k % 64)) (get_or-set_same row (length row - 1) word 0 (omega arith))
    ∙ has_bit-kept (get_or row (length row - 1) 0) (64 * length row - cols) (k % 64) (omega arith)
    ∙ ap (λ b. b && has_bit (get_or row (length row - 1) 0) (k % 64)) (column k cols (length row) (length row - 1) e room some)
    ∙ ap (λ w. nat_lt k cols && has_bit (get_or row w 0) (k % 64)) (sym e))
    (λ apart. ap (λ w. has_bit w (k % 64)) (get_or-set_other row (length row - 1) (k / 64) word 0 apart)
    ∙ sym (ap (λ b. b && is_set row k) (lt_yes k cols (omega arith))))
  where
    column : (k cols n last : ℕ) → k / 64 ≡ n - 1 → n ≡ words_of cols → 0 < n → nat_lt (k % 64) (64 - (64 * n - cols)) ≡ nat_lt k cols
    column k cols n last e room some = by_lt k cols
        (λ low. lt_yes (k % 64) (64 - (64 * n - cols)) (omega arith) ∙ sym (lt_yes k cols low))
        (λ high. lt_no (k % 64) (64 - (64 * n - cols)) (omega arith) ∙ sym (lt_no k cols high))

-- ---- rows moved up

pub moved_out : (row : List ℕ) (by at k : ℕ) → at < by / 64 → k < 64 → has_bit 0 k ≡ is_moved row by (64 * at + k)
moved_out row by at k h hk = has_bit-zero k ∙ sym (ap (λ b. cond b false (is_set row (64 * at + k - by))) (lt_yes (64 * at + k) by (omega arith)))

here_is : (row : List ℕ) (by at word k i x : ℕ) → x ≡ 64 * at + k → by ≤ x → x - by ≡ 64 * word + i → i < 64 → has_bit (get_or row word 0) i ≡ is_moved row by x
here_is row by at word k i x e low place h =
    let w : (x - by) / 64 ≡ word = omega arith in
    let b : (x - by) % 64 ≡ i = omega arith in
    sym (ap (λ t. cond t false (is_set row (x - by))) (lt_no x by low) ∙ ap (λ n. has_bit (get_or row n 0) ((x - by) % 64)) w ∙ ap (λ n. has_bit (get_or row word 0) n) b)

word_before_is : (row : List ℕ) (n : ℕ) → 0 < n → word_before row n ≡ get_or row (n - 1) 0
word_before_is row zero h = absurd (omega arith)
word_before_is row (suc n) h = ap (λ m. get_or row m 0) (omega arith)

word_before_none : (row : List ℕ) (n : ℕ) → n ≡ 0 → word_before row n ≡ 0
word_before_none row n e = ap (word_before row) e

-- a word of a row that is moved up, from the two words that it takes its bits of
pub moved_is : (row : List ℕ) (by at k result : ℕ) → by / 64 ≤ at → k < 64
    → has_bit result k ≡ cond (nat_lt k (by % 64)) (has_bit (word_before row (at - by / 64)) (64 - by % 64 + k)) (has_bit (get_or row (at - by / 64) 0) (k - by % 64)) → has_bit result k ≡ is_moved row by (64 * at + k)
moved_is row by at k result low hk h =
    let before = word_before row (at - by / 64) in
    h ∙ by_lt k (by % 64)
    (λ less. ap (λ b. cond b (has_bit before (64 - by % 64 + k)) (has_bit (get_or row (at - by / 64) 0) (k - by % 64))) (lt_yes k (by % 64) less)
    ∙ by_eq at (by / 64)
    (λ e. ap (λ w. has_bit w (64 - by % 64 + k)) (word_before_none row (at - by / 64) (omega arith)) ∙ has_bit-zero (64 - by % 64 + k) ∙ sym (ap (λ b. cond b false (is_set row (64 * at + k - by))) (lt_yes (64 * at + k) by (omega arith))))
    (λ apart. ap (λ w. has_bit w (64 - by % 64 + k)) (word_before_is row (at - by / 64) (omega arith)) ∙ here_is row by at (at - by / 64 - 1) k (64 - by % 64 + k) (64 * at + k) refl (omega arith) (omega arith) (omega arith)))
    (λ high. ap (λ b. cond b (has_bit before (64 - by % 64 + k)) (has_bit (get_or row (at - by / 64) 0) (k - by % 64))) (lt_no k (by % 64) high)
    ∙ here_is row by at (at - by / 64) k (k - by % 64) (64 * at + k) refl (omega arith) (omega arith) (omega arith))

-- ---- row after row

-- where the row after row n is not past the last, it has its words
pub next_row : (n rows count all : ℕ) → n < rows → all ≡ rows * count → (n * count + count ≡ all → ⊥) → n * count + 2 * count ≤ all
next_row n rows count all less e apart = by_eq (suc n) rows
    (λ last. absurd (apart (omega (arith, e, ap (λ r. r * count) last))))
    (λ more. omega (arith, e, mul-le (suc (suc n)) count rows count (omega arith) (omega arith)))

-- one row more has the bits that it should
pub rows_more : (f : ℕ → ℕ → Bool) (old new : List ℕ) (count n : ℕ) → ((j i : ℕ) → j < n → i < 64 * count → is_set old (64 * (j * count) + i) ≡ f j i) → ((i : ℕ) → i < 64 * count → is_set new (64 * (n * count) + i) ≡ f n i) → ((k : ℕ) → k < 64 * (n * count) → is_set new k ≡ is_set old k)
    → (j i : ℕ) → j < n + 1 → i < 64 * count → is_set new (64 * (j * count) + i) ≡ f j i
rows_more f old new count n done inside before j i hj hi = by_eq j n
    (λ e. ap (λ r. is_set new (64 * (r * count) + i)) e ∙ inside i hi ∙ ap (λ r. f r i) (sym e))
    (λ apart. before (64 * (j * count) + i) (omega (arith, mul-le (suc j) count n count (omega arith) (omega arith))) ∙ done j i (omega arith) hi)

-- the same, with the words of a row counted in another way
pub at_count : (f : ℕ → ℕ → ℕ → Bool) (out : List ℕ) (n count rows : ℕ) → n ≡ count → ((j i : ℕ) → j < rows → i < 64 * n → is_set out (64 * (j * n) + i) ≡ f n j i) → (j i : ℕ) → j < rows → i < 64 * count → is_set out (64 * (j * count) + i) ≡ f count j i
at_count f out n count rows e h = subst (λ m. (j i : ℕ) → j < rows → i < 64 * m → is_set out (64 * (j * m) + i) ≡ f m j i) e h

-- the same, from a call that is given the words and how many rows there are
pub at_call : (f : List ℕ → ℕ → ℕ → ℕ → Bool) (words words' out : List ℕ) (count n m rows : ℕ) → words' ≡ words → count ≡ n → m ≡ rows → ((j i : ℕ) → j < m → i < 64 * count → is_set out (64 * (j * count) + i) ≡ f words' count j i)
    → (j i : ℕ) → j < rows → i < 64 * n → is_set out (64 * (j * n) + i) ≡ f words n j i
at_call f words words' out count n m rows ew en em h j i hj hi = at_count (λ k j i. f words k j i) out count n m en (subst (λ ws. (j i : ℕ) → j < m → i < 64 * count → is_set out (64 * (j * count) + i) ≡ f ws count j i) ew h) j i (omega (arith, em)) hi

-- ---- all rows moved up

-- the rows whose number is below n are moved up and put after as many rows as they are moved by
pub record AreWidened (words out : List ℕ) (count rows by wide n : ℕ) : Type 0 where
  pub len : length out ≡ (rows + 2 * by) * wide
  pub done : (j i : ℕ) → j < rows + 2 * by → i < 64 * wide → is_set out (64 * (j * wide) + i) ≡ cond (nat_lt j (by + n)) (is_widened words count by j i) false

pub widened_none : (words out : List ℕ) (count rows by wide : ℕ) → length out ≡ (rows + 2 * by) * wide → ((k : ℕ) → is_set out k ≡ false) → AreWidened words out count rows by wide 0
widened_none words out count rows by wide len h = record {
  len = len;
  done = λ j i hj hi. h (64 * (j * wide) + i) ∙ by_lt j (by + 0)
      (λ low. sym (ap (λ b. cond b (is_widened words count by j i) false) (lt_yes j (by + 0) low) ∙ ap (λ b. cond b false (is_moved (words_from words count ((j - by) * count)) by i)) (lt_yes j by (omega arith))))
      (λ high. sym (ap (λ b. cond b (is_widened words count by j i) false) (lt_no j (by + 0) high)));
}

pub widened_more : (words out new : List ℕ) (count rows by wide n : ℕ) → AreWidened words out count rows by wide n → n < rows → length new ≡ length out
    → ((i : ℕ) → i < 64 * wide → is_set new (64 * ((n + by) * wide) + i) ≡ is_moved (words_from words count (n * count)) by i)
    → ((k : ℕ) → k < 64 * ((n + by) * wide) → is_set new k ≡ is_set out k)
    → ((k : ℕ) → 64 * ((n + by) * wide + wide) ≤ k → is_set new k ≡ is_set out k)
    → AreWidened words new count rows by wide (n + 1)
widened_more words out new count rows by wide n w less len inside before after = record {
  len = len ∙ w.len;
  done = λ j i hj hi. by_eq j (n + by)
      (λ e. ap (λ r. is_set new (64 * (r * wide) + i)) e ∙ inside i hi
      ∙ ap (λ r. is_moved (words_from words count (r * count)) by i) (omega arith)
      ∙ sym (ap (λ b. cond b (is_widened words count by j i) false) (lt_yes j (by + (n + 1)) (omega arith)) ∙ ap (λ b. cond b false (is_moved (words_from words count ((j - by) * count)) by i)) (lt_no j by (omega arith))))
      (λ apart. by_lt j (n + by)
      (λ low. before (64 * (j * wide) + i) (omega (arith, mul-le (suc j) wide (n + by) wide low (omega arith))) ∙ w.done j i hj hi
      ∙ ap (λ b. cond b (is_widened words count by j i) false) (lt_yes j (by + n) (omega arith) ∙ sym (lt_yes j (by + (n + 1)) (omega arith))))
      (λ high. after (64 * (j * wide) + i) (omega (arith, mul-le (suc (n + by)) wide j wide (omega arith) (omega arith))) ∙ w.done j i hj hi
      ∙ ap (λ b. cond b (is_widened words count by j i) false) (lt_no j (by + n) (omega arith) ∙ sym (lt_no j (by + (n + 1)) (omega arith)))));
}

moved_past : (words : List ℕ) (count start by i : ℕ) → length words ≤ start → is_moved (words_from words count start) by i ≡ false
moved_past words count start by i h = by_lt i by
    (λ low. ap (λ b. cond b false (is_set (words_from words count start) (i - by))) (lt_yes i by low))
    (λ high. ap (λ b. cond b false (is_set (words_from words count start) (i - by))) (lt_no i by high) ∙ from_past words count start (i - by) h)

pub widened_all : (words out : List ℕ) (count rows by wide n : ℕ) → AreWidened words out count rows by wide n → n ≡ rows → length words ≡ rows * count → (j i : ℕ) → j < rows + 2 * by → i < 64 * wide → is_set out (64 * (j * wide) + i) ≡ is_widened words count by j i
widened_all words out count rows by wide n w e len j i hj hi = w.done j i hj hi ∙ by_lt j (by + n)
    (λ low. ap (λ b. cond b (is_widened words count by j i) false) (lt_yes j (by + n) low))
    (λ high. ap (λ b. cond b (is_widened words count by j i) false) (lt_no j (by + n) high)
    ∙ sym (ap (λ b. cond b false (is_moved (words_from words count ((j - by) * count)) by i)) (lt_no j by (omega arith))
    ∙ moved_past words count ((j - by) * count) by i (omega (arith, len, mul-le rows count (j - by) count (omega arith) (omega arith)))))
