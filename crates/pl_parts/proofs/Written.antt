-- The text of a print, one height after another.
use Rattle.std.proofs.Common.{◌≡◌, ℕ, ◌+◌, ◌++◌, List, [], ◌∷◌, append_assoc, append-nil, sym, ap, ◌∙◌, arith}
use Rattle.std.specs.List.{flat_map, range_with_len}
use Rattle.std.proofs.lemmas.Grind.{flat_map-append}
use Rattle.std.proofs.lemmas.List.{map-id}
use Rattle.std.proofs.lemmas.List.FromFn.{map-range_with_len_more}

range_more : (n : ℕ) → range_with_len 0 (n + 1) ≡ range_with_len 0 n ++ n ∷ []
range_more n = sym (map-id (range_with_len 0 (n + 1))) ∙ map-range_with_len_more (λ k. k) 0 n n (omega arith) ∙ ap (λ ks. ks ++ n ∷ []) (map-id (range_with_len 0 n))

-- one more height
pub text_more : (head : List ℕ) (height : ℕ → List ℕ) (n : ℕ) (old new : List ℕ) → old ≡ head ++ flat_map height (range_with_len 0 n) → new ≡ old ++ height n → new ≡ head ++ flat_map height (range_with_len 0 (n + 1))
text_more head height n old new before more =
    more
    ∙ ap (λ text. text ++ height n) before
    ∙ append_assoc head (flat_map height (range_with_len 0 n)) (height n)
    ∙ ap (λ text. head ++ text)
    (sym (ap (flat_map height) (range_more n) ∙ flat_map-append height (range_with_len 0 n) (n ∷ []) ∙ ap (λ last. flat_map height (range_with_len 0 n) ++ last) (append-nil (height n))))
