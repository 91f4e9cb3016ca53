-- The first pass: it is that of session 1, or nobody's.
use Rattle.std.proofs.Common.{◌≡◌, ◌≤◌, List, [], ◌∷◌, ◌++◌, map, get_or, remove, refl, ap, sym, subst, ◌∙◌, arith, Option, Some, None}
use Rattle.std.specs.Prelude.{All}
use Rattle.std.proofs.lemmas.List.Elements.{All-head, All-tail}
use Rattle.pl_ports.specs.declared.gate.Actor.{Actor}
use Rattle.pl_machine.specs.Tickets.{number_of}
use Rattle.pl_turn.specs.declared.turned.Turned.{Ghosts}
use Rattle.pl_turn.specs.declared.lock.TurnLock.{TurnLock}
use Rattle.pl_turn.specs.declared.lock.Pass.{Pass}
use Rattle.pl_turn.specs.Passes.{IsOf, joined, number, splits}
use Rattle.pl_runs.specs.Places.{IsOther, place_of, place_of_some}
use Rattle.pl_runs.specs.Seats.{BeginsWithOne, HasFirst, IsAccount}
use Rattle.pl_runs.proofs.Lists.{all_from_map}

module _ {A E H X : Type 0} {g : Ghosts A E H} (lock : TurnLock A E H) (actor : X → Actor) (pass : X → Pass A E H g) where
  others_are : (xs : List X) → All (λ x. IsAccount lock (actor x) (pass x)) xs → All (λ a. 2 ≤ number_of a) (map actor xs) → All (λ x. IsOther lock (pass x)) xs
  others_are xs accounts high k d lt =
      let a = accounts k d lt in
      let above = all_from_map (λ a. 2 ≤ number_of a) actor xs high k d lt in
      let is = a.1 in
      (a.0, omega (arith, above, is), a.2)

  -- what is known of the first pass, and of the accounts of the other ones
  pub record IsParted (first : Option (Pass A E H g)) (xs : List X) (p : Pass A E H g) (others : List X) : Type 0 where
    pub lock_is : IsOf lock p
    pub number_is : number p ≡ 1
    pub joined_are : joined p ≡ []
    pub splits_are : splits p ≡ 23
    pub others_are : All (λ x. IsOther lock (pass x)) others
    pub places_are : place_of p ∷ map (λ x. place_of (pass x)) others ≡ place_of_some first ++ map (λ x. place_of (pass x)) xs

  pub parted_some : (first : Option (Pass A E H g)) (p : Pass A E H g) (xs : List X) → first ≡ Some p → HasFirst lock first (map actor xs) → All (λ x. IsAccount lock (actor x) (pass x)) xs → IsParted first xs p xs
  parted_some first p xs some has accounts =
      let h : HasFirst lock (Some p) (map actor xs) = subst (λ o. HasFirst lock o (map actor xs)) some has in record {
        lock_is = h.0.lock_is;
        number_is = h.0.number_is;
        joined_are = h.0.joined_are;
        splits_are = h.1;
        others_are = others_are xs accounts h.2;
        places_are = ap (λ o. place_of_some o ++ map (λ x. place_of (pass x)) xs) (sym some);
      }

  begins_with : (xs : List X) → BeginsWithOne (map actor xs) → (x : X) × (rest : List X) × (xs ≡ x ∷ rest)
  begins_with [] begins = absurd begins
  begins_with (x ∷ xs) begins = (x, xs, refl)

  pub some_account : (first : Option (Pass A E H g)) (xs : List X) → first ≡ None → HasFirst lock first (map actor xs) → (x : X) × (rest : List X) × (xs ≡ x ∷ rest)
  some_account first xs none has = begins_with xs (subst (λ o. HasFirst lock o (map actor xs)) none has)

  parted : (xs : List X) (x : X) (others : List X) → BeginsWithOne (map actor xs) → All (λ y. IsAccount lock (actor y) (pass y)) xs → x ≡ get_or xs 0 x → others ≡ remove xs 0 → IsParted None xs (pass x) others
  parted [] x others begins accounts is left = absurd begins
  parted (y ∷ ys) x others begins accounts is left =
      let one = All-head (λ z. IsAccount lock (actor z) (pass z)) y ys accounts in
      let rest = All-tail (λ z. IsAccount lock (actor z) (pass z)) y ys accounts in
      let mine : IsAccount lock (actor y) (pass x) = subst (λ z. IsAccount lock (actor y) (pass z)) (sym is) one in
      let first : number_of (actor y) ≡ 1 = ap number_of begins.0 in record {
        lock_is = mine.0;
        number_is = mine.1 ∙ first;
        joined_are = mine.2;
        splits_are = mine.3 first;
        others_are = subst (All (λ z. IsOther lock (pass z))) (sym left) (others_are ys rest begins.1);
        places_are = ap (λ z. place_of (pass z) ∷ map (λ x. place_of (pass x)) others) is ∙ ap (λ l. place_of (pass y) ∷ map (λ x. place_of (pass x)) l) left;
      }

  pub parted_none : (first : Option (Pass A E H g)) (xs : List X) (x : X) (others : List X) → first ≡ None → HasFirst lock first (map actor xs) → All (λ y. IsAccount lock (actor y) (pass y)) xs → x ≡ get_or xs 0 x → others ≡ remove xs 0
      → IsParted first xs (pass x) others
  parted_none first xs x others none has accounts is left = subst (λ o. IsParted o xs (pass x) others) (sym none) (parted xs x others (subst (λ o. HasFirst lock o (map actor xs)) none has) accounts is left)
