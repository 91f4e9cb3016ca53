-- The cycles of a function on numbers.
use Rattle.std.specs.Prelude.{◌≡◌, ℕ, zero, suc, ◌<◌, ◌≤◌, ◌≢◌, slice_index_or, false, length, Bool, true, List, [], ◌∷◌, map, ◌==◌, nat_le, ◌&&◌, if◌then◌else◌, filter}
use Rattle.std.specs.List.{range_with_len, list_all}

-- n steps from k
abbrev pub steps : (ℕ → ℕ) → ℕ → ℕ → ℕ
steps f zero k = k
steps f (suc n) k = f (steps f n k)

-- k, next k and so on, as far as the last before start comes again; at most as many as `most`
abbrev pub walk : (ℕ → ℕ) → ℕ → ℕ → ℕ → List ℕ
walk next start zero k = []
walk next start (suc most) k = k ∷ (if next k == start then [] else walk next start most (next k))

-- the cycle of k, from k on
abbrev pub cycle_of : (ℕ → ℕ) → ℕ → ℕ → List ℕ
cycle_of next most k = walk next k most k

-- k is one of those that count, and the least of its cycle
abbrev pub is_least : (ℕ → Bool) → (ℕ → ℕ) → ℕ → ℕ → Bool
is_least counts next most k = counts k && list_all (nat_le k) (cycle_of next most k)

-- the cycles of the numbers that count, all below n, each from its least, in the order of these
abbrev pub cycles_of : (ℕ → Bool) → (ℕ → ℕ) → ℕ → List (List ℕ)
cycles_of counts next n = map (cycle_of next n) (filter (is_least counts next n) (range_with_len 0 n))

-- the function takes those that count, all below n, to themselves, and no two to one
pub record Permutes (counts : ℕ → Bool) (next : ℕ → ℕ) (n : ℕ) : Type 0 where
  pub below : (k : ℕ) → counts k ≡ true → k < n
  pub stays : (k : ℕ) → counts k ≡ true → counts (next k) ≡ true
  pub apart : (j k : ℕ) → counts j ≡ true → counts k ≡ true → next j ≡ next k → j ≡ k

-- n steps from k lead back to k for the first time
pub record IsPeriod (next : ℕ → ℕ) (k n : ℕ) : Type 0 where
  pub some : 0 < n
  pub back : steps next n k ≡ k
  pub first : (i : ℕ) → 0 < i → i < n → steps next i k ≢ k

-- the list goes once round from k, and has at most `most` numbers
pub record GoesRound (next : ℕ → ℕ) (k most : ℕ) (round : List ℕ) : Type 0 where
  pub period : IsPeriod next k (length round)
  pub few : length round ≤ most
  pub numbers : round ≡ map (λ i. steps next i k) (range_with_len 0 (length round))

-- ---- marks

abbrev pub is_marked : List Bool → ℕ → Bool
is_marked marks k = slice_index_or marks k false
