-- The numbers of the cycles.
use Rattle.std.proofs.Common.{◌≡◌, ℕ, zero, suc, Bool, true, false, cond, List, [], ◌==◌}
use Rattle.std.specs.List.{range_with_len, filter, All}
use Rattle.std.proofs.lemmas.List.Elements.{All-nil, All-cons, All-map, All-weaker, filter_passes}
use Rattle.std.proofs.lemmas.Bool.{and_parts}
use Rattle.pl_rings.specs.Cycles.{Permutes, walk, cycle_of, cycles_of, is_least}

-- each number of a walk from one that counts counts
walk_counts : (counts : ℕ → Bool) (next : ℕ → ℕ) (n start most k : ℕ) → Permutes counts next n → counts k ≡ true → All (λ j. counts j ≡ true) (walk next start most k)
walk_counts counts next n start zero k perm h = All-nil (λ j. counts j ≡ true)
walk_counts counts next n start (suc most) k perm h =
    let C : ℕ → Type 0 = λ j. counts j ≡ true in
    All-cons C k (cond (next k == start) [] (walk next start most (next k))) h
    (elim (next k == start) as (λ b. All C (cond b [] (walk next start most (next k)))) [
      | true ↦ All-nil C
      | false ↦ walk_counts counts next n start most (next k) perm (perm.stays k h)
    ])

-- the numbers of all cycles count
pub cycles_count : (counts : ℕ → Bool) (next : ℕ → ℕ) (n : ℕ) → Permutes counts next n → All (All (λ j. counts j ≡ true)) (cycles_of counts next n)
cycles_count counts next n perm =
    let C : List ℕ → Type 0 = All (λ j. counts j ≡ true) in
    let least : List ℕ = filter (is_least counts next n) (range_with_len 0 n) in
    All-map C (cycle_of next n) least
    (All-weaker (λ k. is_least counts next n k ≡ true) (λ k. C (cycle_of next n k))
    (λ k h. walk_counts counts next n k n k perm (and_parts _ _ h).0)
    least (filter_passes (is_least counts next n) (range_with_len 0 n)))
