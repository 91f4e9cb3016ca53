-- Passes that are split off or joined one after another.
use Rattle.std.proofs.Common.{◌≡◌, ℕ, ◌+◌, List, [], ◌∷◌, ◌++◌, length, map, ap, sym, subst, ◌∙◌, append_assoc, arith}
use Rattle.std.proofs.lemmas.List.{map-append, append-nil}
use Rattle.pl_turn.specs.declared.turned.Turned.{Ghosts}
use Rattle.pl_turn.specs.declared.lock.TurnLock.{TurnLock}
use Rattle.pl_turn.specs.declared.lock.Pass.{Pass}
use Rattle.pl_turn.specs.declared.view.Joined.{Joined}
use Rattle.pl_runs.specs.Places.{AreFresh, IsFresh, Place, place_in}

module _ {X E H : Type 0} {g : Ghosts X E H} (lock : TurnLock X E H) where
  pub fresh_push : (n : ℕ) (ps : List (Pass X E H g)) (p : Pass X E H g) → AreFresh lock n ps → IsFresh lock (n + length ps) p → AreFresh lock n (ps ++ p ∷ [])
  fresh_push n [] p all one = let e : n + 0 ≡ n = omega arith in (subst (λ k. IsFresh lock k p) e one, tt)
  fresh_push n (q ∷ ps) p all one = let e : n + length (q ∷ ps) ≡ (n + 1) + length ps = omega arith in (all.0, fresh_push (n + 1) ps p all.1 (subst (λ k. IsFresh lock k p) e one))

module _ {E Y : Type 0} (f : Y → Place E) where
  -- one more is joined, and one less is left
  pub joined_more : (js js' more : List (Joined E)) (j : Joined E) (items rest : List Y) (y : Y) (total : List (Place E)) → map place_in js ++ map f items ≡ total → items ≡ y ∷ rest → js' ≡ js ++ j ∷ more → more ≡ []
      → place_in j ≡ f y → map place_in js' ++ map f rest ≡ total
  joined_more js js' more j items rest y total sum is grown none same =
      ap (λ l. map place_in l ++ map f rest) (grown ∙ ap (λ l. js ++ j ∷ l) none) ∙ (ap (λ l. l ++ map f rest) (map-append place_in js (j ∷ [])) ∙ (append_assoc (map place_in js) (place_in j ∷ []) (map f rest)
      ∙ (ap (λ z. map place_in js ++ (z ∷ map f rest)) same ∙ (ap (λ l. map place_in js ++ map f l) (sym is) ∙ sum))))

  pub joined_all : (js : List (Joined E)) (items : List Y) (total : List (Place E)) → map place_in js ++ map f items ≡ total → length items ≡ 0 → map place_in js ≡ total
  joined_all js [] total sum none = sym (append-nil (map place_in js)) ∙ sum
  joined_all js (y ∷ ys) total sum none = absurd (omega arith)
