-- What holds of every order of tools.
use Rattle.std.proofs.Common.{◌≡◌, ℕ, suc, ◌+◌, ◌<◌, ◌≤◌, ◌==◌, ◌&&◌, Bool, true, false, not, cond, List, [], ◌∷◌, ◌++◌, length, length-append, filter, count_by, subst, slice_get, slice_index, get_or, Some, refl, sym, ap, ◌∙◌, arith}
use Rattle.std.specs.List.{range_with_len}
use Rattle.std.specs.List.Sorted.{IsStrictlyIncreasing}
use Rattle.std.proofs.lemmas.Bool.Decides.{nat_tests}
use Rattle.std.proofs.lemmas.List.FromFn.{length-range_with_len, get_or-range_with_len}
use Rattle.std.proofs.lemmas.List.Elements.{filter-append, filter_passes}
use Rattle.std.proofs.lemmas.List.Sums.{length-filter, count_by-le-length}
use Rattle.std.proofs.lemmas.List.Kept.{IsStrictlyIncreasing-filter}
use Rattle.pl_tower.specs.Tools.{has, IsToolSet, members, others, order_of}
use Rattle.pl_tower.specs.Heights.{changes}
use Rattle.pl_tower.proofs.OrderLemmas.{filter-filter, members_at}

-- ---- each used tool once

-- what passes a test and what does not are all
split : (r p : ℕ → Bool) (xs : List ℕ) → length (filter r (filter p xs)) + length (filter r (filter (λ x. not (p x)) xs)) ≡ length (filter r xs)
split r p [] = refl
split r p (x ∷ xs) = grind (arith, split r p xs)

count_order : (current used tool : ℕ) → count_by (λ t. t == tool) (order_of current used) ≡ length (filter (λ t. t == tool) (members used))
count_order current used tool =
    let first : List ℕ = filter (λ t. t == current) (members used) in
    sym (length-filter (λ t. t == tool) (order_of current used))
    ∙ ap length (filter-append (λ t. t == tool) first (others current (members used)))
    ∙ length-append (filter (λ t. t == tool) first) (filter (λ t. t == tool) (others current (members used)))
    ∙ split (λ t. t == tool) (λ t. t == current) (members used)

length_one : (b : Bool) (tool : ℕ) → length (cond b (tool ∷ []) []) ≡ cond b 1 0
length_one true tool = refl
length_one false tool = refl

pub stands_once : (current used : ℕ) → IsToolSet used → (tool : ℕ) → count_by (λ t. t == tool) (order_of current used) ≡ cond (has used tool) 1 0
stands_once current used low tool =
    count_order current used tool
    ∙ ap length (members_at used tool low)
    ∙ length_one (has used tool) tool

pub stands_first : (current used : ℕ) → IsToolSet used → has used current ≡ true → slice_get (order_of current used) 0 ≡ Some current
stands_first current used low is = ap (λ tools. slice_get (tools ++ others current (members used)) 0) (members_at used current low ∙ ap (λ b. cond b (current ∷ []) []) is)

-- ---- the others ascend

filter_none : (p q : ℕ → Bool) (xs : List ℕ) → ((x : ℕ) → (p x && q x) ≡ false) → filter p (filter q xs) ≡ []
filter_none p q xs apart = filter-filter p q xs ∙ none_pass (λ x. p x && q x) xs apart
  where
    none_pass : (r : ℕ → Bool) (ys : List ℕ) → ((x : ℕ) → r x ≡ false) → filter r ys ≡ []
    none_pass r [] never = refl
    none_pass r (y ∷ ys) never = rw (never y) (none_pass r ys never)

filter_again : (p : ℕ → Bool) (xs : List ℕ) → filter p (filter p xs) ≡ filter p xs
filter_again p [] = refl
filter_again p (x ∷ xs) = grind (arith, filter_again p xs)

apart : (b : Bool) → (not b && b) ≡ false
apart true = refl
apart false = refl

pub others_order : (current used : ℕ) → others current (order_of current used) ≡ others current (members used)
others_order current used =
    filter-append (λ t. not (t == current)) (filter (λ t. t == current) (members used)) (others current (members used))
    ∙ ap (λ ts. ts ++ others current (others current (members used))) (filter_none (λ t. not (t == current)) (λ t. t == current) (members used) (λ t. apart (t == current)))
    ∙ filter_again (λ t. not (t == current)) (members used)

range_rises : IsStrictlyIncreasing (range_with_len 0 4)
range_rises k less =
    let within : k + 1 < 4 = omega (arith, length-range_with_len 0 4) in
    omega (arith, get_or-range_with_len 0 4 k 0 (omega arith), get_or-range_with_len 0 4 (k + 1) 0 within)

others_rise : (current used : ℕ) → IsStrictlyIncreasing (others current (members used))
unfolding members
others_rise current used =
    IsStrictlyIncreasing-filter (λ t. not (t == current)) (filter (has used) (range_with_len 0 4))
    (IsStrictlyIncreasing-filter (has used) (range_with_len 0 4) range_rises)

pub others_ascend : (current used : ℕ) → IsStrictlyIncreasing (others current (order_of current used))
others_ascend current used = rw (others_order current used) (others_rise current used)

-- ---- the changes

rising_rest : (tool : ℕ) (tools : List ℕ) → IsStrictlyIncreasing (tool ∷ tools) → IsStrictlyIncreasing tools
rising_rest tool tools rising k less =
    let P : ℕ → Type 0 = λ n. slice_index tools k < slice_index (tool ∷ tools) n in
    let next : suc k + 1 ≡ suc (k + 1) = omega arith in
    subst P next (rising (suc k) (omega arith))

-- tools that rise from one to the next are changes each, where the first is not the current one
rising_changes : (current : ℕ) (tools : List ℕ) → (0 < length tools → (get_or tools 0 0 == current) ≡ false) → IsStrictlyIncreasing tools → changes current tools ≡ tools
rising_changes current [] new rising = refl
rising_changes current (tool ∷ tools) new rising =
    let here : (tool == current) ≡ false = new (omega arith) in
    let next : 0 < length tools → (get_or tools 0 0 == tool) ≡ false = λ some. (let above : tool < get_or tools 0 0 = rising 0 (omega arith) in grind (arith, nat_tests)) in
    let rest : changes tool tools ≡ tools = rising_changes tool tools next (rising_rest tool tools rising) in
    rw (here, rest) refl

is_not : (b : Bool) → not b ≡ true → b ≡ false
is_not true e = sym e
is_not false e = refl

other_changes : (current used : ℕ) → changes current (others current (members used)) ≡ others current (members used)
other_changes current used =
    rising_changes current (others current (members used))
    (λ some. is_not (get_or (others current (members used)) 0 0 == current) (filter_passes (λ t. not (t == current)) (members used) 0 0 some))
    (others_rise current used)

same : (current : ℕ) → (current == current) ≡ true
same current = grind (arith, nat_tests)

-- the current tool is no change
stays : (current : ℕ) (b : Bool) (tools : List ℕ) → changes current (cond b (current ∷ []) [] ++ tools) ≡ changes current tools
stays current true tools = rw (same current) refl
stays current false tools = refl

pub changes_others : (current used : ℕ) → IsToolSet used → changes current (order_of current used) ≡ others current (order_of current used)
changes_others current used low =
    ap (λ ts. changes current (ts ++ others current (members used))) (members_at used current low)
    ∙ stays current (has used current) (others current (members used))
    ∙ other_changes current used
    ∙ sym (others_order current used)

few_members : (used : ℕ) → length (members used) ≤ 4
unfolding members
few_members used = omega (arith, length-filter (has used) (range_with_len 0 4), count_by-le-length (has used) (range_with_len 0 4), length-range_with_len 0 4)

pub few_changes : (current used : ℕ) → IsToolSet used → length (changes current (order_of current used)) ≤ 4
few_changes current used low =
    let is = ap length (changes_others current used low ∙ others_order current used) in
    omega (arith, is, length-filter (λ t. not (t == current)) (members used), count_by-le-length (λ t. not (t == current)) (members used), few_members used)
