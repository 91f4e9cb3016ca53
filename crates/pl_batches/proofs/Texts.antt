-- A text of numbered parts.
use Rattle.std.proofs.Common.{◌≡◌, ℕ, zero, suc, ◌+◌, List, [], ◌∷◌, ◌++◌, append-nil, append_assoc, refl, sym, ap, ◌∙◌, arith}
use Rattle.std.specs.List.{range_with_len, flat_map}

module _ (part : ℕ → List ℕ) where
  parts_more : (a n : ℕ) → flat_map part (range_with_len a (suc n)) ≡ flat_map part (range_with_len a n) ++ part (a + n)
  parts_more a zero =
      let same : a ≡ a + 0 = omega arith in
      append-nil (part a) ∙ ap part same
  parts_more a (suc n) =
      let same : a + 1 + n ≡ a + suc n = omega arith in
      ap (λ text. part a ++ text) (parts_more (a + 1) n ∙ ap (λ k. flat_map part (range_with_len (a + 1) n) ++ part k) same)
      ∙ sym (append_assoc (part a) (flat_map part (range_with_len (a + 1) n)) (part (a + suc n)))

-- the next part
pub text_more : (head : List ℕ) (part : ℕ → List ℕ) (n : ℕ) (old new : List ℕ) → old ≡ head ++ flat_map part (range_with_len 0 n) → new ≡ old ++ part n → new ≡ head ++ flat_map part (range_with_len 0 (n + 1))
text_more head part n old new before more =
    let next : n + 1 ≡ suc n = omega arith in
    let same : n ≡ 0 + n = omega arith in
    more
    ∙ ap (λ text. text ++ part n) before
    ∙ append_assoc head (flat_map part (range_with_len 0 n)) (part n)
    ∙ ap (λ text. head ++ text) (ap (λ k. flat_map part (range_with_len 0 n) ++ part k) same ∙ sym (parts_more part 0 n) ∙ ap (λ k. flat_map part (range_with_len 0 k)) (sym next))
