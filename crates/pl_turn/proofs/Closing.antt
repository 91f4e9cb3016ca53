-- The rule of a lock at its start, and what it says at its end.
use Rattle.std.proofs.Common.{◌≡◌, ℕ, ◌+◌, ◌<◌, ◌≤◌, ◌⊎◌, Bool, true, eqb, List, [], ◌∷◌, get_or, Option, Some, refl, ap, sym, ◌∙◌, subst, ⊎_elim, inl, inr, arith, cond, ne_eqb}
use Rattle.std.proofs.lemmas.List.Elements.{All-nil}
use Rattle.std.specs.Prelude.{All, Any}
use mathlib.Core.Option.{some, none, some-injective, some-ne-none}
use mathlib.Core.Option as maybe
use mathlib.Core.Logic.{dite}
use native.Mathlib.Decide.{ℕ_discrete}
use lib.ListN.{get_elem?}
use Rattle.atomic_table.specs.Table.{State, opening, Final, Seen}
use Rattle.pl_turn.specs.declared.view.Stage.TheVariants.{Idle}
use Rattle.pl_turn.specs.declared.view.View.{View}
use Rattle.pl_turn.specs.History.{HasItsEntries, HasSeen, FitsHistory}
use Rattle.pl_turn.specs.Rule.{opening_view, IsNotGiven, HasNoTurn, IsJoinedAt, IsInOrder, Turning}
use Rattle.pl_turn.proofs.Lists.{at_end}
use Rattle.pl_turn.proofs.Histories.{has_made}
use Rattle.pl_turn.proofs.Views.{given_least, given_most}

module _ {X E H : Type 0} (history : X → List E) (home : X → H) (caller : E → ℕ) (there : H) where
  abbrev S : Type 0
  S = State (Option X) (View E H)

  abbrev Rule : S → Type 0
  Rule = Turning history home caller there

  -- every number that was given is that of the pass, or of one that was joined into it
  abbrev pub AllJoined : View E H → Type 0
  AllJoined v = (n : ℕ) → 2 ≤ n → n ≤ v.splits + 1 → Any (λ j. j.number ≡ n) v.joined

  pub record Leaves (v : View E H) (x : X) : Type 0 where
    pub fits : FitsHistory caller v (history x)
    pub there_is : v.home ≡ Some (home x)
    pub makers : All (λ e. (caller e ≡ 1) ⊎ Any (λ j. j.number ≡ caller e) v.joined) (history x)

  -- then no other seat has a turn
  none_left : (s : S) (r : Rule s) (id : ℕ) (v : View E H) → get_elem? s.views id ≡ some v → v.live ≡ true → v.number ≡ 1 → v.stage ≡ Idle → AllJoined v
      → (at : ℕ) (d : View E H) → get_elem? s.views at ≡ some d → d.live ≡ true → HasNoTurn d.stage
  none_left s r id v here live one idle all at d there_is lives = let f = r.each id v here live in let g = r.each at d there_is lives in
      let given : ¬ (IsNotGiven r.splits d.number) = λ free. some-ne-none at (sym g.seated ∙ (r.unborn d.number free).0) in
      let count : v.splits ≡ r.splits = f.first one in
      dite (ℕ_discrete d.number 1)
      (λ first. let same : at ≡ id = some-injective at id (sym g.seated ∙ (ap r.seat (first ∙ sym one) ∙ f.seated)) in
      let is_v : d ≡ v = some-injective d v (sym there_is ∙ (ap (λ (i : ℕ). get_elem? s.views i) same ∙ here)) in
      subst HasNoTurn (sym (ap (λ (z : View E H). z.stage) is_v ∙ idle)) tt)
      (λ other. let least = given_least r.splits d.number given in let most = given_most r.splits d.number given in let high : 2 ≤ d.number = omega arith in let low : d.number ≤ v.splits + 1 = omega arith in
      let j = all d.number high low in let p = subst (IsJoinedAt r.seat id v.number) j.3 (f.joined j.0 j.1 j.2) in
      let same : at ≡ id = some-injective at id (sym g.seated ∙ (ap r.seat (sym j.4) ∙ p.0)) in
      let is_v : d ≡ v = some-injective d v (sym there_is ∙ (ap (λ (i : ℕ). get_elem? s.views i) same ∙ here)) in
      absurd (p.1 (j.4 ∙ ap (λ (z : View E H). z.number) is_v)))

  -- each entry was made by the first pass, or by one that was joined into it
  makers_of : (s : S) (r : Rule s) (v : View E H) → v.splits ≡ r.splits → AllJoined v → All (λ e. (caller e ≡ 1) ⊎ Any (λ j. j.number ≡ caller e) v.joined) r.log
  makers_of s r v count all k d lt = let n : ℕ = caller (get_or r.log k d) in
      let given : ¬ (IsNotGiven r.splits n) = λ free. has_made caller r.log k d lt (r.unborn n free).1 in
      let least = given_least r.splits n given in let most = given_most r.splits n given in
      dite (ℕ_discrete n 1) (λ first. inl first) (λ other. let high : 2 ≤ n = omega arith in let low : n ≤ v.splits + 1 = omega arith in inr (all n high low))

  pub closes : (id : ℕ) (v : View E H) (words : List ℕ) (xs : List (Option X)) (o : Option X) → v.live ≡ true → v.number ≡ 1 → v.stage ≡ Idle → AllJoined v
      → Final (Seen Rule id v) words xs → get_elem? xs 0 ≡ some o → (x : X) × (o ≡ Some x) × Leaves v x
  closes id v words xs o live one idle all end at = let s : S = end.0 in let r : Rule s = end.1.0 in let f = r.each id v end.1.1 live in
      let h = r.rest (none_left s r id v end.1.1 live one idle all) in let x : X = h.0 in
      let slot = end.4 0 (Some x) (ap (λ (l : List (maybe.Option (Option X))). get_elem? l 0) h.1) in
      let log : r.log ≡ history x = sym h.2 in (
        x,
        some-injective o (Some x) (sym at ∙ slot),
        record {
          fits = subst (FitsHistory caller v) log f.fits;
          there_is = f.home ∙ ap Some (sym h.3);
          makers = subst (All (λ e. (caller e ≡ 1) ⊎ Any (λ j. j.number ≡ caller e) v.joined)) log (makers_of s r v (f.first one) all);
        },
      )

  pub opens : (x : X) → history x ≡ [] → home x ≡ there → Rule (opening (0 ∷ 0 ∷ []) (Some x ∷ []) (opening_view there))
  opens x empty at_home = let log : List E = [] in record {
    log = log;
    ticket = 0;
    serving = 0;
    splits = 0;
    seat = λ n. cond (eqb n 1) (some 0) none;
    drawn = λ t. 0;
    words = refl;
    order = omega arith;
    unborn = λ n free. (ap (λ (b : Bool). cond b (some 0) none) (ne_eqb n 1 (λ e. let no = free (omega arith) in omega arith)), refl);
    out = λ t from below. absurd (omega arith);
    each = λ at v is live. ⊎_elim
        (λ t. let low : at < 0 = t.0 in absurd (omega arith))
        (λ (t : (at ≡ 0) × (opening_view there ≡ v)). subst (λ (z : ℕ × View E H). IsInOrder caller log 0 0 0 there (λ n. cond (eqb n 1) (some 0) none) (λ t. 0) z.0 z.1) (λ i. (sym t.0 i, t.1 i)) record {
          fits = (([], refl), (refl, All-nil (HasItsEntries caller log)), All-nil (HasSeen log));
          fits_seen = (([], refl), (refl, All-nil (HasItsEntries caller log)), All-nil (HasSeen log));
          seated = refl;
          home = refl;
          first = λ _. refl;
          stage = tt;
          joined = All-nil (IsJoinedAt (λ n. cond (eqb n 1) (some 0) none) 0 1);
          differ = λ i j d lt within. absurd (omega arith);
        })
        (at_end [] (opening_view there) v at is);
    rest = λ _. (x, refl, empty, at_home);
  }

-- the home that a pass knows is the one of its lock
pub home_is : {H : Type 0} (known : Option H) (a b : H) → known ≡ Some a → known ≡ Some b → a ≡ b
home_is known a b e f = let same : Some a ≡ Some b = sym e ∙ f in cc
