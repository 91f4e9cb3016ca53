-- Lists made from numbers that go down.
use Rattle.std.proofs.Common.{◌≡◌, ◌↔◌, ℕ, ◌+◌, ◌-◌, ◌<◌, ◌≤◌, List, [], ◌∷◌, ◌++◌, length, map, reverse, take, get_or, refl, sym, ◌∙◌, ap, arith}
use Rattle.std.specs.List.{range_with_len}
use Rattle.std.proofs.lemmas.List.{take_more, take_all, get_or-reverse, length-reverse, map-append, length-map}
use Rattle.std.proofs.lemmas.List.FromFn.{length-range_with_len, get_or-range_with_len}

-- the numbers below n, the greatest first
abbrev pub down_from : ℕ → List ℕ
down_from n = reverse (range_with_len 0 n)

pub length-down_from : (n : ℕ) → length (down_from n) ≡ n
length-down_from n = length-reverse (range_with_len 0 n) ∙ length-range_with_len 0 n

get_or-down_from : (n k d : ℕ) → k < n → get_or (down_from n) k d ≡ n - 1 - k
get_or-down_from n k d less =
    let count : length (range_with_len 0 n) ≡ n = length-range_with_len 0 n in
    let here : k < length (range_with_len 0 n) = omega (arith, count) in
    let there : n - 1 - k < n = omega arith in
    get_or-reverse (range_with_len 0 n) k d here
    ∙ ap (λ m. get_or (range_with_len 0 n) (m - 1 - k) d) count
    ∙ get_or-range_with_len 0 n (n - 1 - k) d there
    ∙ omega arith

-- what has been made of the k greatest
pub record Made {X : Type 0} (g : ℕ → X) (n k : ℕ) (found : List X) : Type 0 where
  pub is : found ≡ map g (take k (down_from n))

pub made_none : {X : Type 0} (g : ℕ → X) (n : ℕ) → Made g n 0 []
made_none g n = record { is = refl }

pub made_more : {X : Type 0} (g : ℕ → X) (n k : ℕ) (old new : List X) (x : X) → Made g n k old → k < n → x ≡ g (n - 1 - k) → new ≡ old ++ x ∷ [] → Made g n (k + 1) new
made_more g n k old new x w less here more =
    let room : k < length (down_from n) = omega (arith, length-down_from n) in
    record {
      is =
          more
          ∙ ap (λ xs. xs ++ x ∷ []) w.is
          ∙ ap (λ y. map g (take k (down_from n)) ++ y ∷ []) (here ∙ ap g (sym (get_or-down_from n k 0 less)))
          ∙ sym (map-append g (take k (down_from n)) (get_or (down_from n) k 0 ∷ []))
          ∙ ap (map g) (sym (take_more (down_from n) k 0 room));
    }

pub made_all : {X : Type 0} (g : ℕ → X) (n k : ℕ) (found : List X) → Made g n k found → n ≤ k → found ≡ map g (down_from n)
made_all g n k found w all = w.is ∙ ap (map g) (take_all k (down_from n) (omega (arith, length-down_from n)))

-- a list of no length
pub nothing : {X : Type 0} (xs : List X) → length xs ≡ 0 → xs ≡ []
nothing [] e = refl
nothing (x ∷ xs) e = absurd (omega arith)

-- one is made for each number
pub made_empty : {X : Type 0} (g : ℕ → X) (n : ℕ) (found : List X) → found ≡ map g (down_from n) → (found ≡ []) ↔ (n ≡ 0)
made_empty g n found e =
    let count : length found ≡ n = ap length e ∙ length-map (down_from n) g ∙ length-down_from n in
    (λ h. sym count ∙ ap length h, λ h. nothing found (count ∙ h))
