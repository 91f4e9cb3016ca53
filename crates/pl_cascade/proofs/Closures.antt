-- The closure of a set of slots.
use Rattle.std.proofs.Common.{◌≡◌, ◌⊎◌, ℕ, ◌+◌, ◌<◌, Bool, true, false, refl, ap, sym, subst, ◌∙◌, inl, inr}
use Rattle.std.specs.Prelude.{◌&&◌, ◌||◌}
use Rattle.std.specs.List.{list_any, range_with_len}
use Rattle.std.proofs.lemmas.Bool.{and_parts, and_from, or_cases, or_left, or_right}
use Rattle.pl_cascade.specs.Cascade.{takes, IsClosure, with_taken, closure_of}
use Rattle.pl_cascade.proofs.Searches.{any_below, some_below, any_next, equal_truths, or-false}
use Rattle.pl_cascade.proofs.Arrows.{taker_below, taken_below, takes_thrice}

-- ---- a set and what its members take

pub with_member : (set : ℕ → Bool) (slot : ℕ) → set slot ≡ true → with_taken set slot ≡ true
unfolding with_taken
with_member set slot h = or_left _ _ h

pub with_arrow : (set : ℕ → Bool) (member slot : ℕ) → set member ≡ true → takes member slot ≡ true → with_taken set slot ≡ true
unfolding with_taken
with_arrow set member slot h t = or_right _ _ (any_below (λ m. set m && takes m slot) 100 member (taker_below member slot t) (and_from _ _ h t))

-- a slot of the set, or one that a member takes
pub with_cases : (set : ℕ → Bool) (slot : ℕ) → with_taken set slot ≡ true → (set slot ≡ true) ⊎ ((member : ℕ) × (member < 100) × (set member ≡ true) × (takes member slot ≡ true))
unfolding with_taken
with_cases set slot h = elim (or_cases _ _ h) [
  | inl member ↦ inl member
  | inr taken ↦
      let w = some_below (λ m. set m && takes m slot) 100 taken in
      let parts = and_parts _ _ w.2 in
      inr (w.0, w.1, parts.0, parts.1)
]

-- ---- the closure

pub closure_member : (set : ℕ → Bool) (slot : ℕ) → set slot ≡ true → closure_of set slot ≡ true
closure_member set slot h = with_member (with_taken set) slot (with_member set slot h)

pub closure_once : (set : ℕ → Bool) (member slot : ℕ) → set member ≡ true → takes member slot ≡ true → closure_of set slot ≡ true
closure_once set member slot h t = with_member (with_taken set) slot (with_arrow set member slot h t)

pub closure_twice : (set : ℕ → Bool) (member between slot : ℕ) → set member ≡ true → takes member between ≡ true → takes between slot ≡ true → closure_of set slot ≡ true
closure_twice set member between slot h t u = with_arrow (with_taken set) between slot (with_arrow set member between h t) u

pub closure_taken : (set : ℕ → Bool) (slot taken : ℕ) → closure_of set slot ≡ true → takes slot taken ≡ true → closure_of set taken ≡ true
closure_taken set slot taken h v = elim (with_cases (with_taken set) slot h) [
  | inl near ↦ with_arrow (with_taken set) slot taken near v
  | inr w ↦ elim (with_cases set w.0 w.2) [
    | inl member ↦ closure_twice set w.0 slot taken member w.3 v
    | inr z ↦ elim (takes_thrice z.0 w.0 slot taken z.3 w.3 v) [
      | inl shorter ↦ closure_twice set z.0 slot taken z.2 shorter v
      | inr shorter ↦ closure_twice set z.0 w.0 taken z.2 z.3 shorter
    ]
  ]
]

with_least : (set other : ℕ → Bool) → ((slot : ℕ) → set slot ≡ true → other slot ≡ true) → ((slot taken : ℕ) → other slot ≡ true → takes slot taken ≡ true → other taken ≡ true) → (slot : ℕ) → with_taken set slot ≡ true → other slot ≡ true
with_least set other all closed slot h = elim (with_cases set slot h) [
  | inl member ↦ all slot member
  | inr w ↦ closed w.0 slot (all w.0 w.2) w.3
]

pub is_closure : (set : ℕ → Bool) → IsClosure set (closure_of set)
is_closure set = record {
  all = closure_member set;
  taken = closure_taken set;
  least = λ other all closed slot h. with_least (with_taken set) other (with_least set other all closed) closed slot h;
}

-- ---- what is no slot does not matter

with_low : (set other : ℕ → Bool) → ((slot : ℕ) → slot < 100 → set slot ≡ true → other slot ≡ true) → (slot : ℕ) → slot < 100 → with_taken set slot ≡ true → with_taken other slot ≡ true
with_low set other low slot less h = elim (with_cases set slot h) [
  | inl member ↦ with_member other slot (low slot less member)
  | inr w ↦ with_arrow other w.0 slot (low w.0 w.1 w.2) w.3
]

closure_low : (set other : ℕ → Bool) → ((slot : ℕ) → slot < 100 → set slot ≡ true → other slot ≡ true) → (slot : ℕ) → slot < 100 → closure_of set slot ≡ true → closure_of other slot ≡ true
closure_low set other low = with_low (with_taken set) (with_taken other) (with_low set other low)

pub same_closures : (set other : ℕ → Bool) → ((slot : ℕ) → slot < 100 → set slot ≡ other slot) → (slot : ℕ) → slot < 100 → closure_of set slot ≡ closure_of other slot
same_closures set other same slot less =
    equal_truths _ _ (closure_low set other (λ k low h. sym (same k low) ∙ h) slot less) (closure_low other set (λ k low h. same k low ∙ h) slot less)

-- ---- the loop over the members

pub taken_so_far : (ℕ → Bool) → ℕ → ℕ → Bool
taken_so_far set n slot = set slot || list_any (λ member. set member && takes member slot) (range_with_len 0 n)

pub taken-none : (set : ℕ → Bool) (k : ℕ) → set k ≡ taken_so_far set 0 k
unfolding taken_so_far
taken-none set k = sym (or-false (set k))

one_more : (s l t b : Bool) → b ≡ true → ((s || l) || t) ≡ (s || (l || (b && t)))
one_more true l t b e = refl
one_more false true t b e = refl
one_more false false t b e = ap (λ c. c && t) (sym e)

still : (s l t b : Bool) → b ≡ false → (s || l) ≡ (s || (l || (b && t)))
still true l t b e = refl
still false true t b e = refl
still false false t b e = ap (λ c. c && t) (sym e)

pub taken-more : (set : ℕ → Bool) (n k : ℕ) (old new : Bool) → old ≡ taken_so_far set n k → new ≡ (old || takes n k) → set n ≡ true → new ≡ taken_so_far set (n + 1) k
unfolding taken_so_far
taken-more set n k old new before e h =
    e ∙ ap (λ b. b || takes n k) before ∙ one_more (set k) (list_any (λ member. set member && takes member k) (range_with_len 0 n)) (takes n k) (set n) h
    ∙ ap (λ b. set k || b) (sym (any_next (λ member. set member && takes member k) n))

pub taken-still : (set : ℕ → Bool) (n k : ℕ) (old : Bool) → old ≡ taken_so_far set n k → set n ≡ false → old ≡ taken_so_far set (n + 1) k
unfolding taken_so_far
taken-still set n k old before h =
    before ∙ still (set k) (list_any (λ member. set member && takes member k) (range_with_len 0 n)) (takes n k) (set n) h
    ∙ ap (λ b. set k || b) (sym (any_next (λ member. set member && takes member k) n))

pub taken-all : (set : ℕ → Bool) (n k : ℕ) (b : Bool) → n ≡ 100 → b ≡ taken_so_far set n k → b ≡ with_taken set k
unfolding taken_so_far with_taken
taken-all set n k b all e = e ∙ ap (λ m. taken_so_far set m k) all

-- two rounds give the closure
pub closure_told : (set once result : ℕ → Bool) → ((k : ℕ) → once k ≡ with_taken set k) → ((k : ℕ) → result k ≡ with_taken once k) → IsClosure set result
closure_told set once result first second =
    let path : result ≡ closure_of set = λ i k. (second k ∙ ap (λ s. with_taken s k) (λ j m. first m j)) i in
    subst (IsClosure set) (sym path) (is_closure set)

-- the closure of slots has no others
with_below : (set : ℕ → Bool) → ((slot : ℕ) → set slot ≡ true → slot < 100) → (slot : ℕ) → with_taken set slot ≡ true → slot < 100
with_below set low slot h = elim (with_cases set slot h) [
  | inl member ↦ low slot member
  | inr w ↦ taken_below w.0 slot w.3
]

pub closure_below : (set : ℕ → Bool) → ((slot : ℕ) → set slot ≡ true → slot < 100) → (slot : ℕ) → closure_of set slot ≡ true → slot < 100
closure_below set low slot h = with_below (with_taken set) (with_below set low) slot h
