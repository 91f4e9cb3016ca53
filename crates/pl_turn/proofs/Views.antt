-- The views of a table after a step of one seat, and who has which number.
use Rattle.std.proofs.Common.{◌≡◌, ◌≢◌, ℕ, ◌+◌, ◌≤◌, Bool, true, false, eqb, List, [], ◌∷◌, length, set, Option, None, refl, ap, sym, ◌∙◌, subst, ⊎_elim, arith, cond, eq-eqb, ne_eqb}
use mathlib.Core.Option.{some, none, some-injective}
use mathlib.Core.Option as maybe
use mathlib.Core.Logic.{dite}
use native.Mathlib.Decide.{ℕ_discrete, dec_le}
use lib.ListN.{get_elem?}
use Rattle.atomic_table.proofs.Lists.{at_set, set_here, set_else}
use Rattle.pl_turn.specs.declared.view.Stage.{Stage}
use Rattle.pl_turn.specs.declared.view.Stage.TheVariants.{Idle}
use Rattle.pl_turn.specs.declared.view.View.{View}
use Rattle.pl_turn.specs.Rule.{IsNotGiven, HasNoTurn, HasTicket, IsOut}
use Rattle.pl_turn.proofs.Lists.{at_inside}

module _ {E H : Type 0} where
  -- what holds of the view of a seat after its step, and of the others, holds of all
  pub each_set : (F : ℕ → View E H → Type 0) (vs : List (View E H)) (me : ℕ) (w : View E H) → (w.live ≡ true → F me w) → ((j : ℕ) (d : View E H) → j ≢ me → get_elem? vs j ≡ some d → d.live ≡ true → F j d)
      → (j : ℕ) (d : View E H) → get_elem? (set vs me w) j ≡ some d → d.live ≡ true → F j d
  each_set F vs me w own others j d e = ⊎_elim (λ (t : (j ≡ me) × (w ≡ d)). subst (λ (x : ℕ × View E H). x.1.live ≡ true → F x.0 x.1) (λ i. (sym t.0 i, t.1 i)) own)
      (λ (t : (j ≢ me) × (get_elem? vs j ≡ some d)). others j d t.0 t.1) (at_set vs me j w d e)

  -- where the view had no turn, and the others have none after the step, none had one before it
  pub none_before : (vs : List (View E H)) (me : ℕ) (v w : View E H) → get_elem? vs me ≡ some v → HasNoTurn v.stage
      → ((j : ℕ) (d : View E H) → get_elem? (set vs me w) j ≡ some d → d.live ≡ true → HasNoTurn d.stage)
      → (j : ℕ) (d : View E H) → get_elem? vs j ≡ some d → d.live ≡ true → HasNoTurn d.stage
  none_before vs me v w at no_turn none_after j d there live = dite (ℕ_discrete j me)
      (λ e. subst (λ (z : View E H). HasNoTurn z.stage) (some-injective v d (sym at ∙ (ap (λ (i : ℕ). get_elem? vs i) (sym e) ∙ there))) no_turn)
      (λ ne. none_after j d (set_else vs me j w ne ∙ there) live)

module _ {E H : Type 0} where
  -- a ticket stays out where the view at its place keeps it
  pub still_out : (vs : List (View E H)) (me : ℕ) (v w : View E H) (t at : ℕ) → get_elem? vs me ≡ some v → (HasTicket t v.stage → (w.live ≡ true) × HasTicket t w.stage) → IsOut vs t at → IsOut (set vs me w) t at
  still_out vs me v w t at here keeps_it o = dite (ℕ_discrete at me)
      (λ same. let is_v : o.0 ≡ v = some-injective o.0 v (sym o.1 ∙ (ap (λ (i : ℕ). get_elem? vs i) same ∙ here)) in
      let k = keeps_it (subst (λ (z : View E H). HasTicket t z.stage) is_v o.3) in
      (w, ap (λ (i : ℕ). get_elem? (set vs me w) i) same ∙ set_here vs me w (at_inside vs v me here), k.0, k.1))
      (λ other. (o.0, set_else vs me at w other ∙ o.1, o.2, o.3))

pub none_idle : {E : Type 0} (t : ℕ) (st : Stage E) → st ≡ Idle → HasTicket t st → ⊥
none_idle t st idle h = subst (HasTicket t) idle h

pub only_one : {A : Type 0} (l : List (maybe.Option A)) (a : A) → length l ≡ 1 → set l 0 (some a) ≡ some a ∷ []
only_one [] a e = absurd (omega arith)
only_one (x ∷ []) a e = refl
only_one (x ∷ y ∷ l) a e = absurd (omega arith)

abbrev pub slot_of : {A : Type 0} → List (ℕ × Option A) → Option A
slot_of [] = None
slot_of (p ∷ ps) = p.1

-- where all numbers at one seat go to another
abbrev pub moved : ℕ → ℕ → maybe.Option ℕ → maybe.Option ℕ
moved from to none = none
moved from to (some k) = cond (eqb k from) (some to) (some k)

pub moved_here : (from to : ℕ) → moved from to (some from) ≡ some to
moved_here from to = ap (λ (b : Bool). cond b (some to) (some from)) (eq-eqb from from refl)

pub moved_not : (from to k : ℕ) → k ≢ from → moved from to (some k) ≡ some k
moved_not from to k ne = ap (λ (b : Bool). cond b (some to) (some k)) (ne_eqb k from ne)

-- who has a number, where the number m goes to another
pub elsewhere : (seat : ℕ → maybe.Option ℕ) (o : maybe.Option ℕ) (m n : ℕ) → n ≢ m → cond (eqb n m) o (seat n) ≡ seat n
elsewhere seat o m n ne = ap (λ (b : Bool). cond b o (seat n)) (ne_eqb n m ne)

pub right_here : (seat : ℕ → maybe.Option ℕ) (o : maybe.Option ℕ) (m n : ℕ) → n ≡ m → cond (eqb n m) o (seat n) ≡ o
right_here seat o m n e = ap (λ (b : Bool). cond b o (seat n)) (eq-eqb n m e)

pub given_least : (splits n : ℕ) → ¬ (IsNotGiven splits n) → 1 ≤ n
given_least splits n h = elim (dec_le 1 n) [ yes p ↦ p | no q ↦ absurd (h (λ l. absurd (q l))) ]

pub given_most : (splits n : ℕ) → ¬ (IsNotGiven splits n) → n ≤ splits + 1
given_most splits n h = elim (dec_le n (splits + 1)) [ yes p ↦ p | no q ↦ absurd (h (λ _. omega arith)) ]

pub false_is_not_true : false ≡ true → ⊥
false_is_not_true e = cc
