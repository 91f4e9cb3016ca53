-- The entries of one number in a history that grows, and what fits it.
use Rattle.std.proofs.Common.{◌≡◌, ◌≢◌, ℕ, zero, suc, ◌<◌, ◌==◌, Bool, true, false, eqb, List, [], ◌∷◌, ◌++◌, length, refl, ap, sym, ◌∙◌, cond, eq-eqb, ne_eqb, ltb, get_or, arith}
use Rattle.std.proofs.lemmas.List.Elements.{filter-append, All-append, All-cons, All-head, All-tail, All-weaker}
use Rattle.std.proofs.lemmas.List.{append-nil}
use Rattle.std.proofs.lemmas.Bool.{ltb-true, ltb-false}
use Rattle.std.specs.Prelude.{All}
use mathlib.Core.List.{IsPrefix}
use Rattle.pl_turn.specs.declared.view.Joined.{Joined}
use Rattle.pl_turn.specs.declared.view.View.{View}
use Rattle.pl_turn.specs.History.{made_by, Grows, HasItsEntries, HasSeen, FitsHistory}
use Rattle.pl_turn.specs.Steps.{joined_of, longer, with_joined}
use Rattle.pl_turn.proofs.Lists.{prefix_self, prefix_trans, prefix_shorter, adds_none}

pub All_both : {A : Type 0} (P Q R : A → Type 0) (xs : List A) → ((x : A) → P x → Q x → R x) → All P xs → All Q xs → All R xs
All_both P Q R xs f h k i d lt = f (get_or xs i d) (h i d lt) (k i d lt)

-- the longer of two beginnings of one list begins it, and each of them begins the longer
module _ {E : Type 0} (xs ys log : List E) (p : IsPrefix xs log) (q : IsPrefix ys log) where
  pub longer_begins : IsPrefix (longer xs ys) log
  longer_begins = elim (ltb (length xs) (length ys)) as (λ b. IsPrefix (cond b ys xs) log) [ true ↦ q | false ↦ p ]

  first_of : (b : Bool) → ltb (length xs) (length ys) ≡ b → IsPrefix xs (cond b ys xs)
  first_of true e = let lt = ltb-true (length xs) (length ys) e in prefix_shorter xs ys log p q (omega arith)
  first_of false e = prefix_self xs

  second_of : (b : Bool) → ltb (length xs) (length ys) ≡ b → IsPrefix ys (cond b ys xs)
  second_of true e = prefix_self ys
  second_of false e = prefix_shorter ys xs log q p (ltb-false (length xs) (length ys) e)

  pub begins_longer : IsPrefix xs (longer xs ys) × IsPrefix ys (longer xs ys)
  begins_longer = (first_of (ltb (length xs) (length ys)) refl, second_of (ltb (length xs) (length ys)) refl)

-- what was a beginning of a history is one of a longer one
pub seen_grown : {E : Type 0} (js : List (Joined E)) (found now : List E) → IsPrefix found now → All (HasSeen found) js → All (HasSeen now) js
seen_grown js found now p has = All-weaker (HasSeen found) (HasSeen now) (λ j h. (prefix_trans j.seen found now h.0 p, prefix_trans j.found found now h.1 p)) js has

in_middle : {A : Type 0} (P : A → Type 0) (xs : List A) (y : A) (ys : List A) → All P (xs ++ y ∷ ys) → P y
in_middle P [] y ys all = All-head P y ys all
in_middle P (x ∷ xs) y ys all = in_middle P xs y ys (All-tail P x (xs ++ y ∷ ys) all)

-- what each of two had seen begins what they have seen that are made one
pub both_begin : {E H : Type 0} (v w : View E H) → All (HasSeen (longer v.seen w.seen)) (with_joined v w).joined → IsPrefix v.seen (longer v.seen w.seen) × IsPrefix w.seen (longer v.seen w.seen)
both_begin v w all = let h = in_middle (HasSeen (longer v.seen w.seen)) v.joined (joined_of v.seen w) w.joined all in (h.1, h.0)

module _ {E : Type 0} (caller : E → ℕ) where
  made-append : (n : ℕ) (xs ys : List E) → made_by caller n (xs ++ ys) ≡ made_by caller n xs ++ made_by caller n ys
  made-append n xs ys = filter-append (λ e. caller e == n) xs ys

  pub made_still : (n number : ℕ) (found now : List E) → n ≢ number → Grows caller number found now → made_by caller n now ≡ made_by caller n found
  made_still n number found now other g = ap (made_by caller n) (sym g.1) ∙ (made-append n found g.0 ∙ (ap (λ l. made_by caller n found ++ l) (g.2 n other) ∙ append-nil (made_by caller n found)))

  -- entries that stand in a beginning, and are all in the whole, are all in what lies between
  pub made_between : (n : ℕ) (own a b c : List E) → IsPrefix a b → IsPrefix b c → own ≡ made_by caller n a → own ≡ made_by caller n c → own ≡ made_by caller n b
  made_between n own a b c p q first whole =
      let now : made_by caller n b ≡ own ++ made_by caller n p.0 = ap (made_by caller n) (sym p.1) ∙ (made-append n a p.0 ∙ ap (λ l. l ++ made_by caller n p.0) (sym first)) in
      let all : own ≡ (own ++ made_by caller n p.0) ++ made_by caller n q.0 = whole ∙ (ap (made_by caller n) (sym q.1) ∙ (made-append n b q.0 ∙ ap (λ l. l ++ made_by caller n q.0) now)) in
      sym (now ∙ (ap (λ l. own ++ l) (adds_none own (made_by caller n p.0) (made_by caller n q.0) all) ∙ append-nil own))

  -- a number with no entry in the whole has none in a beginning
  pub none_before_any : (n : ℕ) (a b : List E) → IsPrefix a b → made_by caller n b ≡ [] → made_by caller n a ≡ []
  none_before_any n a b p none =
      let all : [] ≡ ([] ++ made_by caller n a) ++ made_by caller n p.0 = sym none ∙ (ap (made_by caller n) (sym p.1) ∙ made-append n a p.0) in
      adds_none [] (made_by caller n a) (made_by caller n p.0) all

  first_made : (x : E) (rest : List E) (b : Bool) → b ≡ true → cond b (x ∷ rest) rest ≡ [] → ⊥
  first_made x rest true is e = cc e
  first_made x rest false is e = cc is

  rest_none : (x : E) (rest : List E) (b : Bool) → cond b (x ∷ rest) rest ≡ [] → rest ≡ []
  rest_none x rest true e = absurd (cc e)
  rest_none x rest false e = e

  -- a number that an entry has is not one without entries
  pub has_made : (log : List E) (k : ℕ) (d : E) → k < length log → made_by caller (caller (get_or log k d)) log ≡ [] → ⊥
  has_made [] k d lt none = omega arith
  has_made (x ∷ xs) zero d lt none = first_made x (made_by caller (caller x) xs) (eqb (caller x) (caller x)) (eq-eqb (caller x) (caller x) refl) none
  has_made (x ∷ xs) (suc k) d lt none = let n = caller (get_or xs k d) in has_made xs k d (omega arith) (rest_none x (made_by caller n xs) (eqb (caller x) n) none)

  pub joined_grown : (js : List (Joined E)) (number : ℕ) (found now : List E) → All (λ j. j.number ≢ number) js → Grows caller number found now → All (HasItsEntries caller found) js → All (HasItsEntries caller now) js
  joined_grown js number found now others g has = All_both (HasItsEntries caller found) (λ j. j.number ≢ number) (HasItsEntries caller now) js (λ j h ne. h ∙ sym (made_still j.number number found now ne g)) has others

  module _ {H : Type 0} where
    -- what fits a history fits it once it has grown by entries of another number
    pub fits_grown : (v : View E H) (number : ℕ) (found now : List E) → v.number ≢ number → All (λ j. j.number ≢ number) v.joined → Grows caller number found now
        → FitsHistory caller v found → FitsHistory caller v now
    fits_grown v number found now other others g f = (
      prefix_trans v.seen found now f.0 (g.0, g.1),
      (f.1.0 ∙ sym (made_still v.number number found now other g), joined_grown v.joined number found now others g f.1.1),
      seen_grown v.joined found now (g.0, g.1) f.2,
    )

    -- what fits what it has seen and the whole history fits all that lies between
    fits_between : (v : View E H) (l log : List E) → IsPrefix v.seen l → IsPrefix l log → FitsHistory caller v v.seen → FitsHistory caller v log → FitsHistory caller v l
    fits_between v l log p q f g = (
      p,
      (
        made_between v.number v.own v.seen l log p q f.1.0 g.1.0,
        All_both (HasItsEntries caller v.seen) (HasItsEntries caller log) (HasItsEntries caller l) v.joined (λ j has all. made_between j.number j.own v.seen l log p q has all) f.1.1 g.1.1,
      ),
      seen_grown v.joined v.seen l p f.2,
    )

    fits_with : (v w : View E H) (l : List E) → IsPrefix (longer v.seen w.seen) l → FitsHistory caller v l → FitsHistory caller w l → FitsHistory caller (with_joined v w) l
    fits_with v w l p f g = (
      p,
      (f.1.0, All-append (HasItsEntries caller l) v.joined (joined_of v.seen w ∷ w.joined) f.1.1 (All-cons (HasItsEntries caller l) (joined_of v.seen w) w.joined g.1.0 g.1.1)),
      All-append (HasSeen l) v.joined (joined_of v.seen w ∷ w.joined) f.2 (All-cons (HasSeen l) (joined_of v.seen w) w.joined (g.0, f.0) g.2),
    )

    -- two views that are made one fit the history, and what the one has seen of it
    pub fits_joined : (v w : View E H) (log : List E) → FitsHistory caller v log → FitsHistory caller w log → FitsHistory caller (with_joined v w) log
    fits_joined v w log f g = fits_with v w log (longer_begins v.seen w.seen log f.0 g.0) f g

    pub fits_joined_seen : (v w : View E H) (log : List E) → FitsHistory caller v v.seen → FitsHistory caller w w.seen → FitsHistory caller v log → FitsHistory caller w log
        → FitsHistory caller (with_joined v w) (longer v.seen w.seen)
    fits_joined_seen v w log f g f' g' =
        let l : List E = longer v.seen w.seen in
        let q = longer_begins v.seen w.seen log f'.0 g'.0 in
        let b = begins_longer v.seen w.seen log f'.0 g'.0 in
        fits_with v w l (prefix_self l) (fits_between v l log b.0 q f f') (fits_between w l log b.1 q g g')

  -- a turn that added nothing, and one that added an entry of its number
  pub grows_by_none : (number : ℕ) (found now : List E) → now ≡ found → Grows caller number found now
  grows_by_none number found now e = ([], append-nil found ∙ sym e, λ n other. refl)

  others_none : (n : ℕ) (e : E) → (b : Bool) → eqb (caller e) n ≡ b → n ≢ caller e → made_by caller n (e ∷ []) ≡ []
  others_none n e b is other = rw (ne_eqb (caller e) n (λ same. other (sym same))) refl

  pub grows_by_one : (number : ℕ) (found now : List E) (e : E) → now ≡ found ++ e ∷ [] → caller e ≡ number → Grows caller number found now
  grows_by_one number found now e is own = (e ∷ [], sym is, λ n other. others_none n e (eqb (caller e) n) refl (λ same. other (same ∙ own)))

  -- the entries of a number, after one more of that number
  pub made_one_more : (number : ℕ) (own found now : List E) (e : E) → own ≡ made_by caller number found → now ≡ found ++ e ∷ [] → caller e ≡ number → made_by caller number now ≡ own ++ e ∷ []
  made_one_more number own found now e was is by =
      let one : made_by caller number (e ∷ []) ≡ e ∷ [] = rw (eq-eqb (caller e) number by) refl in
      ap (made_by caller number) is ∙ (made-append number found (e ∷ []) ∙ (λ i. sym was i ++ one i))
