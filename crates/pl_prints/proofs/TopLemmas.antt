-- The layer of an object that has a top.
use Rattle.std.proofs.Common.{◌≡◌, ◌≢◌, ℤ, ℕ, pos, negsuc, ◌+ℤ◌, ◌*ℤ◌, ◌≤ℤ◌, ◌+◌, ◌*◌, ◌<◌, ◌≤◌, Bool, true, false, cond, ltb, List, [], ◌∷◌, ◌++◌, append_assoc, length, map, get_or, Some, None, sym, ◌∙◌, ap, arith}
use Rattle.std.specs.Ordering.{int_eq}
use Rattle.std.specs.List.{range_with_len, position}
use Rattle.std.proofs.lemmas.Bool.{false_from_ne_true}
use Rattle.std.proofs.lemmas.Bool.Decides.{nat_tests, Decides-int_eq}
use Rattle.std.proofs.lemmas.Int.{ints}
use Rattle.std.proofs.lemmas.List.{length-append}
use Rattle.std.proofs.lemmas.List.Sums.{position_or_len_is}
use Rattle.std.proofs.lemmas.List.FromFn.{length-map-range_with_len, get_or-map-range_with_len, map-range_with_len_more}
use Rattle.std.proofs.Math.Nat.{mul-le-mul_right}
use Rattle.pl_layers.specs.declared.heights.Heights.{Heights}
use Rattle.pl_layers.specs.Heights.{AreHeights, z_of}
use Rattle.pl_prints.specs.Layers.{Layers, tops_in, layer_in}

is_below : (i n : ℕ) → i < n → ltb i n ≡ true
is_below i n less = grind (arith, nat_tests)

is_not_below : (n : ℕ) → ltb n n ≡ false
is_not_below n = grind (arith, nat_tests)

position_at : {X : Type 0} (p : X → Bool) (xs : List X) (i : ℕ) (d : X) → i < length xs → ((k : ℕ) → k < i → p (get_or xs k d) ≡ false) → p (get_or xs i d) ≡ true → position p xs ≡ Some i
position_at p xs i d less before here =
    ap (λ k. cond (ltb k (length xs)) (Some k) None) (position_or_len_is p xs i d (omega arith) before (λ _. here))
    ∙ ap (λ b. cond b (Some i) None) (is_below i (length xs) less)

position_none : {X : Type 0} (p : X → Bool) (xs : List X) (d : X) → ((k : ℕ) → k < length xs → p (get_or xs k d) ≡ false) → position p xs ≡ None
position_none p xs d never =
    ap (λ k. cond (ltb k (length xs)) (Some k) None) (position_or_len_is p xs (length xs) d (omega arith) never (λ less. absurd (omega arith)))
    ∙ ap (λ b. cond b (Some (length xs)) None) (is_not_below (length xs))

-- ---- the tops rise

rises : (j k m : ℕ) → j < k → 0 < m → j * m < k * m
rises j k m less some = let h : (j + 1) * m ≤ k * m = mul-le-mul_right m (omega arith) in omega (arith, h)

apart : (first height : ℤ) (j k : ℕ) → pos 20000 ≤ℤ height → j < k → (first +ℤ pos j *ℤ height) ≢ (first +ℤ pos k *ℤ height)
apart first (pos m) j k low less e = let h : j * m < k * m = rises j k m less (omega (arith, ints)) in omega (arith, ints, h, e)
apart first (negsuc m) j k low less e = absurd (omega (arith, ints))

pub is_other : (a b : ℤ) → a ≢ b → int_eq a b ≡ false
is_other a b ne = false_from_ne_true _ (λ h. ne ((Decides-int_eq a b).0 h))

pub is_same : (a b : ℤ) → a ≡ b → int_eq a b ≡ true
is_same a b e = (Decides-int_eq a b).1 e

top_at : (layers : Layers) (k : ℕ) → k < layers.count → get_or (tops_in layers) k (pos 0) ≡ z_of layers.heights k
top_at layers k less = get_or-map-range_with_len (z_of layers.heights) 0 layers.count k k (pos 0) less (omega arith)

count_is : (layers : Layers) → length (tops_in layers) ≡ layers.count
count_is layers = length-map-range_with_len (z_of layers.heights) 0 layers.count

-- ---- the layer

pub layer_is : (layers : Layers) (k : ℕ) (z : ℤ) → AreHeights layers.heights → z ≡ z_of layers.heights k → k < layers.count → layer_in layers z ≡ Some k
layer_is layers k z fit top less =
    position_at (λ t. int_eq t z) (tops_in layers) k (pos 0) (omega (arith, count_is layers))
    (λ j before. ap (λ t. int_eq t z) (top_at layers j (omega arith)) ∙ is_other (z_of layers.heights j) z (λ e. apart layers.heights.first.0 layers.heights.height.0 j k fit.low before (e ∙ top)))
    (ap (λ t. int_eq t z) (top_at layers k less) ∙ is_same (z_of layers.heights k) z (sym top))

pub no_layer : (layers : Layers) (z : ℤ) → ((k : ℕ) → k < layers.count → z ≢ z_of layers.heights k) → layer_in layers z ≡ None
no_layer layers z none =
    position_none (λ t. int_eq t z) (tops_in layers) (pos 0)
    (λ k within. let less : k < layers.count = omega (arith, count_is layers) in ap (λ t. int_eq t z) (top_at layers k less) ∙ is_other (z_of layers.heights k) z (λ e. none k less (sym e)))

-- a number of a layer that is not there
pub past_layers : (layers : Layers) (k : ℕ) (z : ℤ) → AreHeights layers.heights → z ≡ z_of layers.heights k → layers.count ≤ k → layer_in layers z ≡ None
past_layers layers k z fit top past =
    no_layer layers z (λ j less e. apart layers.heights.first.0 layers.heights.height.0 j k fit.low (omega arith) (sym e ∙ top))

-- ---- the tops, one after another

pub tops_more : (h : Heights) (n : ℕ) (first old new : List ℤ) (top : ℤ) → old ≡ first ++ map (z_of h) (range_with_len 0 n) → top ≡ z_of h n → new ≡ old ++ top ∷ [] → new ≡ first ++ map (z_of h) (range_with_len 0 (n + 1))
tops_more h n first old new top before here more =
    more
    ∙ ap (λ zs. zs ++ top ∷ []) before
    ∙ append_assoc first (map (z_of h) (range_with_len 0 n)) (top ∷ [])
    ∙ ap (λ z. first ++ (map (z_of h) (range_with_len 0 n) ++ z ∷ [])) here
    ∙ ap (λ zs. first ++ zs) (sym (map-range_with_len_more (z_of h) 0 n n (omega arith)))

pub few_more : (h : Heights) (n : ℕ) (first new : List ℤ) → new ≡ first ++ map (z_of h) (range_with_len 0 n) → n ≤ 100000 → length new ≤ length first + 100000
few_more h n first new is few = omega (arith, few, ap length is ∙ length-append first (map (z_of h) (range_with_len 0 n)), length-map-range_with_len (z_of h) 0 n)
