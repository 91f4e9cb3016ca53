-- The corners of a way along sides, a run at a time.
use Rattle.std.proofs.Common.{◌≡◌, ℕ, zero, suc, ◌<◌, ◌≤◌, ◌+◌, ◌-◌, Bool, true, false, not, ◌==◌, if◌then◌else◌, Some, None, List, [], ◌∷◌, ◌++◌, map, length, refl, sym, ◌∙◌, ap, arith, append_assoc, append-nil, eq-eqb, length-append}
use Rattle.std.specs.declared.option.Option.{Option}
use Rattle.std.specs.List.{range_with_len}
use Rattle.std.proofs.lemmas.Bool.{both_ways}
use Rattle.pl_grid.specs.declared.stroke.Corner.{Corner}
use Rattle.pl_rings.specs.declared.side.Heading.{Heading}
use Rattle.pl_rings.specs.declared.side.Side.{Side}
use Rattle.pl_rings.specs.Sides.{corners_after, corners_of, rank_of}

-- a side with this heading does not go on straight from the one before, where there is one
abbrev pub turns_from : Option Heading → Heading → Bool
turns_from None h = true
turns_from (Some b) h = not (rank_of b == rank_of h)

-- the corners of what is left of a way, after a side with a heading or at its begin
abbrev pub corners_from : Option Heading → List Side → List Corner
corners_from None ss = corners_of ss
corners_from (Some h) ss = corners_after h ss

abbrev pub start_of : Side → Corner
start_of s = record { x = s.x; y = s.y }

pub no_corners : (before : Option Heading) → corners_from before [] ≡ []
no_corners None = refl
no_corners (Some h) = refl

past_test : (t : Bool) (xs ys : List Corner) → not t ≡ true → (if t then xs else ys) ≡ ys
past_test false xs ys h = refl
past_test true xs ys h = absurd (both_ways false refl h)

pub at_turn : (before : Option Heading) (s : Side) (ss : List Side) → turns_from before s.heading ≡ true → corners_from before (s ∷ ss) ≡ start_of s ∷ corners_after s.heading ss
at_turn None s ss h = refl
at_turn (Some b) s ss h = past_test _ _ _ h

-- a run of sides of one heading has no corner after its first
pub run_silent : (S : ℕ → Side) (h : Heading) (i m r : ℕ) → m ≤ r → ((j : ℕ) → i ≤ j → j < i + m → (S j).heading ≡ h) → corners_after h (map S (range_with_len i r)) ≡ corners_after h (map S (range_with_len (i + m) (r - m)))
run_silent S h i zero r small all = let e : i ≡ i + 0 = omega arith in let f : r ≡ r - 0 = omega arith in ap (λ a. corners_after h (map S (range_with_len a r))) e ∙ ap (λ n. corners_after h (map S (range_with_len (i + 0) n))) f
run_silent S h i (suc m) zero small all = absurd (omega (arith, small))
run_silent S h i (suc m) (suc r) small all =
    let here : (S i).heading ≡ h = all i (omega arith) (omega arith) in
    let test : (rank_of h == rank_of (S i).heading) ≡ true = eq-eqb _ _ (ap rank_of (sym here)) in
    let rest : List Side = map S (range_with_len (i + 1) r) in
    let e : i + 1 + m ≡ i + suc m = omega arith in
    let f : r - m ≡ suc r - suc m = omega (arith, small) in
    ap (λ b. if b then corners_after (S i).heading rest else start_of (S i) ∷ corners_after (S i).heading rest) test
    ∙ ap (λ g. corners_after g rest) here
    ∙ run_silent S h (i + 1) m r (omega (arith, small)) (λ j low high. all j (omega (arith, low)) (omega (arith, high)))
    ∙ ap (λ a. corners_after h (map S (range_with_len a (r - m)))) e
    ∙ ap (λ n. corners_after h (map S (range_with_len (i + suc m) n))) f

-- what holds at a corner, i sides after the first of a loop of so many: the corners so far, and those of what is left, are all
pub record AtCorner (S : ℕ → Side) (period i : ℕ) (before : Option Heading) (found : List Corner) : Type 0 where
  pub few : length found ≤ i
  pub within : i ≤ period
  pub all : found ++ corners_from before (map S (range_with_len i (period - i))) ≡ corners_of (map S (range_with_len 0 period))

pub corner_first : (S : ℕ → Side) (period : ℕ) → AtCorner S period 0 None []
corner_first S period = let e : period - 0 ≡ period = omega arith in record { few = omega arith; within = omega arith; all = ap (λ n. corners_of (map S (range_with_len 0 n))) e }

-- one run on: a corner, and m sides of its heading
pub corner_more : (S : ℕ → Side) (period i m : ℕ) (before : Option Heading) (found : List Corner) → AtCorner S period i before found → 0 < m → i + m ≤ period → turns_from before (S i).heading ≡ true → ((j : ℕ) → i ≤ j → j < i + m → (S j).heading ≡ (S i).heading) → AtCorner S period (i + m) (Some (S i).heading) (found ++ start_of (S i) ∷ [])
corner_more S period i m before found c some fits turns run =
    let h : Heading = (S i).heading in
    let rest : List Side = map S (range_with_len (i + 1) (period - i - 1)) in
    let split : period - i ≡ suc (period - i - 1) = omega (arith, some, fits) in
    let to : i + 1 + (m - 1) ≡ i + m = omega (arith, some) in
    let left : period - i - 1 - (m - 1) ≡ period - (i + m) = omega (arith, some, fits) in
    let silent : corners_after h rest ≡ corners_after h (map S (range_with_len (i + m) (period - (i + m)))) =
    run_silent S h (i + 1) (m - 1) (period - i - 1) (omega (arith, some, fits)) (λ j low high. run j (omega (arith, low)) (omega (arith, high, some)))
    ∙ ap (λ a. corners_after h (map S (range_with_len a (period - i - 1 - (m - 1))))) to
    ∙ ap (λ n. corners_after h (map S (range_with_len (i + m) n))) left in
    record {
      few = omega (arith, length-append found (start_of (S i) ∷ []), c.few, some);
      within = fits;
      all =
          append_assoc found (start_of (S i) ∷ []) (corners_after h (map S (range_with_len (i + m) (period - (i + m)))))
          ∙ ap (λ cs. found ++ start_of (S i) ∷ cs) (sym silent)
          ∙ ap (λ cs. found ++ cs) (sym (at_turn before (S i) rest turns))
          ∙ ap (λ n. found ++ corners_from before (map S (range_with_len i n))) (sym split)
          ∙ c.all;
    }

-- back at the first side
pub corner_last : (S : ℕ → Side) (period i : ℕ) (before : Option Heading) (found : List Corner) → AtCorner S period i before found → i ≡ period → found ≡ corners_of (map S (range_with_len 0 period))
corner_last S period i before found c e =
    let none : period - i ≡ 0 = omega (arith, e) in
    sym (append-nil found) ∙ ap (λ cs. found ++ cs) (sym (no_corners before)) ∙ ap (λ n. found ++ corners_from before (map S (range_with_len i n))) (sym none) ∙ c.all
