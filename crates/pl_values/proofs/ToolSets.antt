-- Sets of tools that are made by a test, and their orders.
use Rattle.std.proofs.Common.{⊎_elim, true≢false, ◌≡◌, ℕ, zero, suc, ◌<◌, ◌≤◌, ◌+◌, ◌^◌, ◌==◌, Bool, true, false, not, cond, List, [], ◌∷◌, length, length-append, filter, count_by, refl, sym, ap, ◌∙◌, arith}
use Rattle.std.specs.Prelude.{Contains}
use Rattle.std.specs.List.{range_with_len}
use Rattle.std.proofs.lemmas.Bool.{cases_lt}
use Rattle.std.proofs.lemmas.List.Elements.{Contains-append_left, Contains-append_right, Contains-append_cases}
use Rattle.std.proofs.lemmas.List.FromFn.{length-range_with_len}
use Rattle.std.proofs.lemmas.List.Sums.{length-filter, count_by-le-length}
use Rattle.pl_tower.specs.Tools.{has, IsToolSet, members, others, order_of}
use Rattle.pl_tower.proofs.SetLemmas.{is_tool_set}
use Rattle.pl_tower.proofs.LawLemmas.{stands_once}
use Rattle.pl_values.specs.PrintValues.{tool_set_of}
use Rattle.pl_values.proofs.Members.{Contains-filter, Contains-from_filter, Contains-range, Contains-from_range}

-- ---- sets of tools

-- a number has these four bits, and no others
record HasBits (set : ℕ) (a b c d : Bool) : Type 0 where
  zeroth : has set 0 ≡ a
  first : has set 1 ≡ b
  second : has set 2 ≡ c
  third : has set 3 ≡ d
  low : set < 16

abbrev number_with : Bool → Bool → Bool → Bool → ℕ
number_with a b c d = 0 + cond a (2 ^ 0) 0 + cond b (2 ^ 1) 0 + cond c (2 ^ 2) 0 + cond d (2 ^ 3) 0

abbrev HasItsBits : Bool → Bool → Bool → Bool → Type 0
HasItsBits a b c d = HasBits (number_with a b c d) a b c d

has_bits : (a b c d : Bool) → HasItsBits a b c d
has_bits true true true true = record { zeroth = refl; first = refl; second = refl; third = refl; low = omega arith }
has_bits true true true false = record { zeroth = refl; first = refl; second = refl; third = refl; low = omega arith }
has_bits true true false true = record { zeroth = refl; first = refl; second = refl; third = refl; low = omega arith }
has_bits true true false false = record { zeroth = refl; first = refl; second = refl; third = refl; low = omega arith }
has_bits true false true true = record { zeroth = refl; first = refl; second = refl; third = refl; low = omega arith }
has_bits true false true false = record { zeroth = refl; first = refl; second = refl; third = refl; low = omega arith }
has_bits true false false true = record { zeroth = refl; first = refl; second = refl; third = refl; low = omega arith }
has_bits true false false false = record { zeroth = refl; first = refl; second = refl; third = refl; low = omega arith }
has_bits false true true true = record { zeroth = refl; first = refl; second = refl; third = refl; low = omega arith }
has_bits false true true false = record { zeroth = refl; first = refl; second = refl; third = refl; low = omega arith }
has_bits false true false true = record { zeroth = refl; first = refl; second = refl; third = refl; low = omega arith }
has_bits false true false false = record { zeroth = refl; first = refl; second = refl; third = refl; low = omega arith }
has_bits false false true true = record { zeroth = refl; first = refl; second = refl; third = refl; low = omega arith }
has_bits false false true false = record { zeroth = refl; first = refl; second = refl; third = refl; low = omega arith }
has_bits false false false true = record { zeroth = refl; first = refl; second = refl; third = refl; low = omega arith }
has_bits false false false false = record { zeroth = refl; first = refl; second = refl; third = refl; low = omega arith }

bits_of : (test : ℕ → Bool) → HasBits (tool_set_of test) (test 0) (test 1) (test 2) (test 3)
bits_of test = has_bits (test 0) (test 1) (test 2) (test 3)

pub IsToolSet-tool_set_of : (test : ℕ → Bool) → IsToolSet (tool_set_of test)
IsToolSet-tool_set_of test = is_tool_set (tool_set_of test) (bits_of test).low

pub has-tool_set_of : (test : ℕ → Bool) (tool : ℕ) → tool < 4 → has (tool_set_of test) tool ≡ test tool
has-tool_set_of test zero low = (bits_of test).zeroth
has-tool_set_of test (suc zero) low = (bits_of test).first
has-tool_set_of test (suc (suc zero)) low = (bits_of test).second
has-tool_set_of test (suc (suc (suc zero))) low = (bits_of test).third
has-tool_set_of test (suc (suc (suc (suc n)))) low = absurd (omega arith)

-- ---- how many tools an order has

parted : (p : ℕ → Bool) (xs : List ℕ) → length (filter p xs) + length (filter (λ x. not (p x)) xs) ≡ length xs
parted p [] = refl
parted p (x ∷ xs) = grind (arith, parted p xs)

pub few_in_order : (current used : ℕ) → length (order_of current used) ≤ 4
unfolding members
few_in_order current used = omega (
  arith,
  length-append (filter (λ t. t == current) (members used)) (others current (members used)),
  parted (λ t. t == current) (members used),
  length-filter (has used) (range_with_len 0 4),
  count_by-le-length (has used) (range_with_len 0 4),
  length-range_with_len 0 4,
)

pub some_in_order : (current used tool : ℕ) → IsToolSet used → has used tool ≡ true → 1 ≤ length (order_of current used)
some_in_order current used tool low h =
    let once : count_by (λ t. t == tool) (order_of current used) ≡ 1 = stands_once current used low tool ∙ ap (λ b. cond b 1 0) h in
    omega (arith, once, count_by-le-length (λ t. t == tool) (order_of current used))

-- ---- what an order has

pub Contains-order_of : (current used tool : ℕ) → IsToolSet used → has used tool ≡ true → Contains (order_of current used) tool
unfolding members
Contains-order_of current used tool low h =
    let small : tool < 4 = ⊎_elim (λ l. l) (λ far. absurd (true≢false (sym h ∙ low tool far))) (cases_lt tool 4) in
    let member : Contains (members used) tool = Contains-filter (has used) (range_with_len 0 4) tool (Contains-range 4 tool small) h in
    elim (tool == current) as (λ b. (tool == current) ≡ b → Contains (order_of current used) tool) [
      | true ↦ λ e. Contains-append_left (filter (λ t. t == current) (members used)) (others current (members used)) tool (Contains-filter (λ t. t == current) (members used) tool member e)
      | false ↦ λ e. Contains-append_right (filter (λ t. t == current) (members used)) (others current (members used)) tool (Contains-filter (λ t. not (t == current)) (members used) tool member (ap not e))
    ] refl

pub Contains-from_order_of : (current used tool : ℕ) → Contains (order_of current used) tool → (tool < 4) × (has used tool ≡ true)
unfolding members
Contains-from_order_of current used tool c =
    let member : Contains (members used) tool = ⊎_elim
    (λ d. (Contains-from_filter (λ t. t == current) (members used) tool d).0)
    (λ d. (Contains-from_filter (λ t. not (t == current)) (members used) tool d).0)
    (Contains-append_cases (filter (λ t. t == current) (members used)) (others current (members used)) tool c) in
    let found = Contains-from_filter (has used) (range_with_len 0 4) tool member in
    (Contains-from_range 4 tool found.0, found.1)
