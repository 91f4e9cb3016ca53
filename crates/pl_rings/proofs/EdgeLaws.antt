-- The boundary sides of a plane are permuted, and each stands once in the cycles.
use Rattle.std.proofs.Common.{◌≡◌, ◌-◌, ℕ, suc, Bool, true, sym, ◌∙◌, ap, arith}
use Rattle.std.specs.List.{All}
use Rattle.std.proofs.lemmas.List.Elements.{All-weaker}
use Rattle.std.proofs.lemmas.Bool.{and_parts, and_from, lt-ltb}
use Rattle.pl_grid.specs.Planes.{Cells}
use Rattle.pl_rings.specs.declared.side.Side.{Side}
use Rattle.pl_rings.specs.Cycles.{Permutes, steps}
use Rattle.pl_rings.specs.Laws.{NextPermutes, CyclesPartition}
use Rattle.pl_rings.specs.Sides.{is_side, next_side, number_of, side_at, side_count, stands, next_number, side_cycles}
use Rattle.pl_rings.proofs.CycleMembers.{cycles_count}
use Rattle.pl_rings.proofs.Iterates.{steps_count}
use Rattle.pl_rings.proofs.Partition.{Returns, returns_to, once_in_cycles}
use Rattle.pl_rings.proofs.SideLemmas.{next_is_side, next_apart}
use Rattle.pl_rings.proofs.SideNumbers.{next_permutes, point_of, number_below, side_at-number_of}

pub found_by_number : (p : Cells) (s : Side) → is_side p s ≡ true → side_at p.bounds (number_of p.bounds s) ≡ s
found_by_number p s h = side_at-number_of p.bounds s (point_of p s h)

pub number_stands : (p : Cells) (s : Side) → is_side p s ≡ true → stands p (number_of p.bounds s) ≡ true
number_stands p s h = and_from _ _ (lt-ltb _ _ (number_below p.bounds s (point_of p s h))) (ap (is_side p) (found_by_number p s h) ∙ h)

-- the number before one that counts
pub step_before : (counts : ℕ → Bool) (next : ℕ → ℕ) (n k : ℕ) → Permutes counts next n → counts k ≡ true → (j : ℕ) × (counts j ≡ true) × (next j ≡ k)
step_before counts next n k perm c =
    let r : Returns next n k = returns_to counts next n k perm c in
    let j : ℕ = steps next (r.0 - 1) k in
    let whole : suc (r.0 - 1) ≡ r.0 = omega (arith, r.2.some) in
    (j, steps_count counts next n perm k c (r.0 - 1), ap (λ m. steps next m k) whole ∙ r.2.back)

side_before : (p : Cells) (t : Side) → is_side p t ≡ true → (s : Side) × (is_side p s ≡ true) × (next_side p s ≡ t)
side_before p t h =
    let w : (j : ℕ) × (stands p j ≡ true) × (next_number p j ≡ number_of p.bounds t) = step_before (stands p) (next_number p) (side_count p.bounds) (number_of p.bounds t) (next_permutes p) (number_stands p t h) in
    let s : Side = side_at p.bounds w.0 in
    let hs : is_side p s ≡ true = (and_parts _ _ w.1).1 in
    (s, hs, sym (found_by_number p (next_side p s) (next_is_side p s hs)) ∙ ap (side_at p.bounds) w.2 ∙ found_by_number p t h)

pub next_permutes_sides : (p : Cells) → NextPermutes p
next_permutes_sides p = record { stays = next_is_side p; apart = next_apart p; reached = side_before p }

pub cycles_partition_sides : (p : Cells) → CyclesPartition p
cycles_partition_sides p = record {
  numbered = found_by_number p;
  once = λ s h. once_in_cycles (stands p) (next_number p) (side_count p.bounds) (number_of p.bounds s) (next_permutes p) (number_stands p s h);
  only =
      All-weaker (All (λ k. stands p k ≡ true)) (All (λ k. is_side p (side_at p.bounds k) ≡ true))
      (λ ks h. All-weaker (λ k. stands p k ≡ true) (λ k. is_side p (side_at p.bounds k) ≡ true) (λ k c. (and_parts _ _ c).1) ks h)
      (side_cycles p) (cycles_count (stands p) (next_number p) (side_count p.bounds) (next_permutes p));
}
