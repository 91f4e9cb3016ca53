-- All passes joined: where each of them stands, and that each number has one.
use Rattle.std.proofs.Common.{◌≡◌, ◌⊎◌, ℕ, ◌<◌, ◌≤◌, List, ◌∷◌, ◌++◌, map, ap, sym, subst, ◌∙◌, ⊎_elim, arith, Option}
use Rattle.std.specs.Prelude.{All, Any}
use Rattle.std.proofs.lemmas.List.Elements.{All-map, All-weaker}
use mathlib.Core.List.{IsPrefix}
use Rattle.pl_ports.specs.declared.gate.Actor.{Actor}
use Rattle.pl_machine.specs.Tickets.{number_of}
use Rattle.pl_turn.specs.declared.turned.Turned.{Ghosts}
use Rattle.pl_turn.specs.declared.lock.TurnLock.{TurnLock}
use Rattle.pl_turn.specs.declared.lock.Pass.{Pass}
use Rattle.pl_turn.specs.declared.view.Joined.{Joined}
use Rattle.pl_turn.specs.History.{HasItsEntries, HasSeen, made_by}
use Rattle.pl_turn.specs.Passes.{number, own, seen}
use Rattle.pl_runs.specs.Places.{IsPlaced, Place, place_in, place_of, place_of_some}
use Rattle.pl_runs.specs.Seats.{HasAll, IsAccount}
use Rattle.pl_runs.proofs.Lists.{any_cons, any_from_map, any_left, any_right, any_to_map, any_more, here, prefix_trans}

module _ {E : Type 0} (caller : E → ℕ) (history : List E) where
  -- the passes that were joined stand where they should
  pub joined_placed : (js : List (Joined E)) (places : List (Place E)) → map place_in js ≡ places → All (HasItsEntries caller history) js → All (HasSeen history) js → All (IsPlaced caller history) places
  joined_placed js places are own seen = subst (All (IsPlaced caller history)) are (All-map (IsPlaced caller history) place_in js (λ k d lt. (own k d lt, (seen k d lt).0)))

  -- each entry has the number of a pass
  pub makers_are : (first : Place E) (js : List (Joined E)) (places all : List (Place E)) → map place_in js ≡ places → first ∷ places ≡ all → first.number ≡ 1
      → All (λ e. (caller e ≡ 1) ⊎ Any (λ j. j.number ≡ caller e) js) history → All (λ e. Any (λ p. p.number ≡ caller e) all) history
  makers_are first js places all are is one makers = All-weaker (λ e. (caller e ≡ 1) ⊎ Any (λ j. j.number ≡ caller e) js) (λ e. Any (λ p. p.number ≡ caller e) all)
      (λ e. ⊎_elim
      (λ (by : caller e ≡ 1). subst (Any (λ p. p.number ≡ caller e)) is (here (λ p. p.number ≡ caller e) first places (one ∙ sym by)))
      (λ (by : Any (λ j. j.number ≡ caller e) js). subst (Any (λ p. p.number ≡ caller e)) is (any_more (λ p. p.number ≡ caller e) first places (subst (Any (λ p. p.number ≡ caller e)) are (any_to_map (λ p. p.number ≡ caller e) place_in js by)))))
      history makers

-- the first pass stands where it should, which has seen more and more
pub first_placed : {A E H : Type 0} {g : Ghosts A E H} (caller : E → ℕ) (history : List E) (p q : Pass A E H g) → number q ≡ number p → own q ≡ own p → IsPrefix (seen p) (seen q) → IsPrefix (seen q) history → own q ≡ made_by caller (number q) history
    → IsPlaced caller history (place_of p)
first_placed caller history p q numbers owns grows before made = (sym owns ∙ (made ∙ ap (λ n. made_by caller n history) numbers), prefix_trans (seen p) (seen q) history grows before)

-- a number from 2 that is that of a place is that of a joined pass
pub joined_has : {E : Type 0} (first : Place E) (js : List (Joined E)) (places all : List (Place E)) (n : ℕ) → map place_in js ≡ places → first ∷ places ≡ all → first.number ≡ 1 → 2 ≤ n
    → Any (λ p. p.number ≡ n) all → Any (λ j. j.number ≡ n) js
joined_has first js places all n are is one high any = ⊎_elim
    (λ (by : first.number ≡ n). absurd (omega (arith, by, one, high)))
    (λ (by : Any (λ p. p.number ≡ n) places). any_from_map (λ p. p.number ≡ n) place_in js (subst (Any (λ p. p.number ≡ n)) (sym are) by))
    (any_cons (λ p. p.number ≡ n) first places (subst (Any (λ p. p.number ≡ n)) (sym is) any))

module _ {A E H X : Type 0} {g : Ghosts A E H} (lock : TurnLock A E H) (actor : X → Actor) (pass : X → Pass A E H g) where
  with_pass : (n : ℕ) (xs : List X) → All (λ x. IsAccount lock (actor x) (pass x)) xs → Any (λ x. number_of (actor x) ≡ n) xs → Any (λ x. number (pass x) ≡ n) xs
  with_pass n xs accounts (k, x, lt, is, by) = (k, x, lt, is, subst (λ y. number (pass y) ≡ number_of (actor y)) is (accounts k x lt).1 ∙ by)

  -- each number from 2 to 24 is that of a place
  pub places_have : (first : Option (Pass A E H g)) (xs : List X) (idle : List (Pass A E H g)) → All (λ x. IsAccount lock (actor x) (pass x)) xs → HasAll (map actor xs) (map (λ p. number p) idle) → (n : ℕ) → 2 ≤ n → n < 25
      → Any (λ p. p.number ≡ n) ((place_of_some first ++ map (λ x. place_of (pass x)) xs) ++ map (λ p. place_of p) idle)
  places_have first xs idle accounts all n low high = ⊎_elim
      (λ (by : Any (λ a. number_of a ≡ n) (map actor xs)). any_left (λ p. p.number ≡ n) (place_of_some first ++ map (λ x. place_of (pass x)) xs) (map (λ p. place_of p) idle)
      (any_right (λ p. p.number ≡ n) (place_of_some first) (map (λ x. place_of (pass x)) xs)
      (any_to_map (λ p. p.number ≡ n) (λ x. place_of (pass x)) xs (with_pass n xs accounts (any_from_map (λ a. number_of a ≡ n) actor xs by)))))
      (λ (by : Any (λ i. i ≡ n) (map (λ p. number p) idle)). any_right (λ p. p.number ≡ n) (place_of_some first ++ map (λ x. place_of (pass x)) xs) (map (λ p. place_of p) idle)
      (any_to_map (λ p. p.number ≡ n) (λ p. place_of p) idle (any_from_map (λ i. i ≡ n) (λ p. number p) idle by)))
      (all n low high)
