-- The rings of a slice, one erosion at a time.
use Rattle.std.proofs.Common.{◌≡◌, ℕ, ◌+◌, List, [], ◌∷◌, ◌++◌, refl, sym, ◌∙◌, ap, add-one, arith}
use Rattle.std.proofs.lemmas.List.FromFn.{map-range_with_len_more}
use Rattle.pl_grid.specs.Planes.{Cells, eroded}
use Rattle.pl_rings.specs.Rings.{eroded_times, rings_of}

-- what holds after n erosions of a slice
pub record AfterErosions (slice : Cells) (n : ℕ) (outer : List Cells) (rest : Cells) : Type 0 where
  pub planes : outer ≡ rings_of n slice
  pub inner : rest ≡ eroded_times n slice

pub erosions_none : (slice : Cells) → AfterErosions slice 0 [] slice
erosions_none slice = record { planes = refl; inner = refl }

pub erosions_more : (slice : Cells) (n : ℕ) (planes : List Cells) (inner next : Cells) → AfterErosions slice n planes inner → next ≡ eroded inner → AfterErosions slice (n + 1) (planes ++ inner ∷ []) next
erosions_more slice n planes inner next w e = record {
  planes =
      ap (λ ps. ps ++ inner ∷ []) w.planes
      ∙ ap (λ p. rings_of n slice ++ p ∷ []) w.inner
      ∙ sym (map-range_with_len_more (λ j. eroded_times j slice) 0 n n (omega arith));
  inner = e ∙ ap eroded w.inner ∙ ap (λ k. eroded_times k slice) (sym (add-one n));
}
