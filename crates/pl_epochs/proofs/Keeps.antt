-- Each step keeps the rule of a table of epochs.
use Rattle.std.proofs.Common.{◌≡◌, ◌≢◌, ℕ, zero, suc, ◌+◌, ◌%◌, ◌^◌, ◌<◌, ◌≤◌, List, [], ◌∷◌, set, get_or, replicate, refl, ap, sym, ◌∙◌, subst, ⊎_elim, arith, length-set, get_or-set_other, le_refl}
use mathlib.Core.Option.{some, some-injective, some-ne-none}
use mathlib.Core.Logic.{dite}
use native.Mathlib.Decide.{ℕ_discrete}
use lib.ListN.{get_elem?}
use lib.Seq.{set-get_or}
use Rattle.atomic_table.specs.Table.{State, Me, step, keeps, stepped, Allows, Splits, Joins, opening}
use Rattle.atomic_table.proofs.Lists.{at_set, set_else, at_snoc}
use Rattle.pl_epochs.specs.declared.view.View.{View}
use Rattle.pl_epochs.specs.declared.view.View.TheVariants.{Writes, Reads, Spent}
use Rattle.pl_epochs.specs.Rule.{zeros, opening_view, counts_of, notes_of, numbers_of, AtMost, AllAtMost, Knows, Counted}
use Rattle.pl_epochs.specs.Steps.{loaded, raised, compared, itself, new_reader, with_note}
use mathlib.Core.Option as maybe
use Rattle.atomic_table.specs.Seated.{TableId}
use Rattle.pl_epochs.specs.Words.{named}
use Rattle.pl_epochs.specs.declared.seats.TableName.{TableName}

-- tables of one name are one table
pub same_table : {a b : TableId} → named a ≡ named b → a ≡ b
same_table e = ap (λ (t : TableName). t.table_id) e

-- what holds of the view of a seat after its step, and of the others, holds of all
each_set : (K : ℕ → View → Type 0) (vs : List View) (me : ℕ) (w : View) → K me w → ((j : ℕ) (d : View) → j ≢ me → get_elem? vs j ≡ some d → K j d) → (j : ℕ) (d : View) → get_elem? (set vs me w) j ≡ some d → K j d
each_set K vs me w mine others j d e = ⊎_elim (λ (t : (j ≡ me) × (w ≡ d)). subst (λ (x : ℕ × View). K x.0 x.1) (λ i. (sym t.0 i, t.1 i)) mine) (λ (t : (j ≢ me) × (get_elem? vs j ≡ some d)). others j d t.0 t.1) (at_set vs me j w d e)

-- a step that changes no word
unmoved : (s : State ℕ View) (r : Counted s) (i me : ℕ) (cs : List (ℕ × ℕ)) (w : View) → Knows r.writer s.words me w → Counted (stepped s i (get_or s.words i 0) me cs w keeps)
unmoved s r i me cs w mine = subst (λ (ws : List ℕ). Counted record { words = ws; homes = s.homes; views = set s.views me w }) (sym (set-get_or s.words i 0)) record {
  writer = r.writer;
  wide = r.wide;
  each = each_set (Knows r.writer s.words) s.views me w mine (λ j d _. r.each j d);
}

-- a list has at a place at most what was put there
set_below : (numbers : List ℕ) (i x : ℕ) → get_or (set numbers i x) i 0 ≤ x
set_below [] i x = omega arith
set_below (y ∷ ys) zero x = le_refl x
set_below (y ∷ ys) (suc i) x = set_below ys i x

-- a reader that reads one word more knows no more than the words
read_one : (numbers words : List ℕ) (i : ℕ) → AtMost numbers words → AtMost (set numbers i (get_or words i 0)) words
read_one numbers words i below s = dite (ℕ_discrete s i)
    (λ same. subst (λ (z : ℕ). get_or (set numbers i (get_or words i 0)) z 0 ≤ get_or words z 0) (sym same) (set_below numbers i (get_or words i 0)))
    (λ other. subst (λ (z : ℕ). z ≤ get_or words s 0) (sym (get_or-set_other numbers i s (get_or words i 0) 0 other)) (below s))

-- a reader may load a word
pub loads : (slots id : ℕ) (me : Me ℕ View) (i : ℕ) → me.0 ≡ Reads (numbers_of me.0) → Allows Counted slots id me i (λ n. n) (loaded (step slots i 0 0 maybe.none) me)
loads slots id me i is s r _ at _ = let below = subst (Knows r.writer s.words id) is (r.each id me.0 at) in (
  Reads (set (numbers_of me.0) i (get_or s.words i 0)),
  keeps,
  tt,
  unmoved s r i id me.1 (Reads (set (numbers_of me.0) i (get_or s.words i 0))) (read_one (numbers_of me.0) s.words i below),
  (refl, below i),
)

-- where one word goes up, numbers that were at most the words still are
raise_others : (words : List ℕ) (i n : ℕ) → get_or words i 0 ≤ n → (numbers : List ℕ) → AtMost numbers words → AtMost numbers (set words i n)
raise_others [] i n up numbers below s = below s
raise_others (x ∷ xs) zero n up numbers below zero = let b = below 0 in omega arith
raise_others (x ∷ xs) zero n up numbers below (suc s) = below (suc s)
raise_others (x ∷ xs) (suc i) n up numbers below zero = below 0
raise_others (x ∷ xs) (suc i) n up [] below (suc s) = omega arith
raise_others (x ∷ xs) (suc i) n up (y ∷ ys) below (suc s) = raise_others xs i n up ys (λ k. below (suc k)) s

-- so the views of the other seats still know what is so
raised_view : (writer id : ℕ) (words : List ℕ) (i n : ℕ) → id ≡ writer → get_or words i 0 ≤ n → (j : ℕ) (d : View) → j ≢ id → Knows writer words j d → Knows writer (set words i n) j d
raised_view writer id words i n is up j (Writes counts notes) other k = absurd (other (k.0 ∙ sym is))
raised_view writer id words i n is up j (Reads numbers) other k = raise_others words i n up numbers k
raised_view writer id words i n is up j Spent other k = tt

-- the writer may raise a word
pub raises : (slots id : ℕ) (me : Me ℕ View) (i : ℕ) → me.0 ≡ Writes (counts_of me.0) (notes_of me.0) → get_or (counts_of me.0) i 0 + 1 < 2 ^ 64
    → Allows Counted slots id me i (λ n. (n + 1) % 2 ^ 64) (raised (step slots i 1 0 maybe.none) me)
raises slots id me i is room s r _ at _ = let k = subst (Knows r.writer s.words id) is (r.each id me.0 at) in
    let counts : List ℕ = counts_of me.0 in let notes : List (List ℕ) = notes_of me.0 in let x : ℕ = get_or s.words i 0 in
    let same : get_or counts i 0 ≡ x = ap (λ (l : List ℕ). get_or l i 0) k.1 in
    let next : (x + 1) % 2 ^ 64 ≡ x + 1 = omega arith in
    let w : View = Writes (set counts i (x + 1)) notes in
    let known : (j : ℕ) (d : View) → get_elem? (set s.views id w) j ≡ some d → Knows r.writer (set s.words i (x + 1)) j d = each_set (Knows r.writer (set s.words i (x + 1))) s.views id w
    (k.0, ap (λ (l : List ℕ). set l i (x + 1)) k.1, λ p numbers e. raise_others s.words i (x + 1) (omega arith) numbers (k.2 p numbers e))
    (λ j d other there_is. raised_view r.writer id s.words i (x + 1) k.0 (omega arith) j d other (r.each j d there_is)) in (
      w,
      keeps,
      tt,
      subst (λ (n : ℕ). Counted record { words = set s.words i n; homes = s.homes; views = set s.views id w }) (sym next) record {
        writer = r.writer;
        wide = length-set s.words i (x + 1) ∙ r.wide;
        each = known;
      },
      (refl, sym same),
    )

-- the writer may compare its counts with the notes
pub compares : (slots id : ℕ) (me : Me ℕ View) → me.0 ≡ Writes (counts_of me.0) (notes_of me.0) → Allows Counted slots id me 0 (λ n. n) (compared (step slots 0 0 0 maybe.none) me)
compares slots id me is s r _ at _ = let k = subst (Knows r.writer s.words id) is (r.each id me.0 at) in (
  me.0,
  keeps,
  tt,
  unmoved s r 0 id me.1 me.0 (r.each id me.0 at),
  (refl, subst (AllAtMost (notes_of me.0)) (sym k.1) k.2),
)

-- a seat is split, and each part knows no more than may be known
splits_to : (id : ℕ) (v right : View) → ((s : State ℕ View) (r : Counted s) → get_elem? s.views id ≡ some v → (at : ℕ) → Knows r.writer s.words at right) → Splits Counted id v v right
splits_to id v right knows s r at = record {
  writer = r.writer;
  wide = r.wide;
  each = λ j d is. ⊎_elim (λ (t : get_elem? (set s.views id v) j ≡ some d). each_set (Knows r.writer s.words) s.views id v (r.each id v at) (λ i e _. r.each i e) j d t)
      (λ (t : right ≡ d). subst (Knows r.writer s.words j) t (knows s r at j)) (at_snoc (set s.views id v) right d j is);
}

-- a reader may be split off a reader
pub splits_reader : (id : ℕ) (v : View) → v ≡ Reads (numbers_of v) → Splits Counted id v (itself v) (itself v)
splits_reader id v is = splits_to id v v (λ s r at j. subst (Knows r.writer s.words j) (sym is) (subst (Knows r.writer s.words id) is (r.each id v at)))

-- what holds of a note and of the others holds of all
first_or_rest : (x : List ℕ) (xs : List (List ℕ)) (words : List ℕ) → AtMost x words → AllAtMost xs words → AllAtMost (x ∷ xs) words
first_or_rest x xs words p q zero y e = subst (λ l. AtMost l words) (some-injective x y e) p
first_or_rest x xs words p q (suc k) y e = q k y e

-- a note may be joined into the writer
pub joins_note : (id : ℕ) (v : View) (other : ℕ) (w : View) → v ≡ Writes (counts_of v) (notes_of v) → w ≡ Reads (numbers_of w) → Joins Counted id v other w (with_note v w) Spent
joins_note id v other w writes reads s r at apart there_is =
    let k = subst (Knows r.writer s.words id) writes (r.each id v at) in
    let below = subst (Knows r.writer s.words other) reads (r.each other w (sym (set_else s.views id other (with_note v w) apart) ∙ there_is)) in
    let K : ℕ → View → Type 0 = Knows r.writer s.words in record {
      writer = r.writer;
      wide = r.wide;
      each = each_set K (set s.views id (with_note v w)) other Spent tt (λ j d _. each_set K s.views id (with_note v w)
          (k.0, k.1, first_or_rest (numbers_of w) (notes_of v) s.words below k.2) (λ i e _. r.each i e) j d);
    }

-- zeros are at most anything
zeros_below : (n k x : ℕ) → get_or (replicate n 0) k 0 ≤ x
zeros_below zero k x = omega arith
zeros_below (suc n) zero x = omega arith
zeros_below (suc n) (suc k) x = zeros_below n k x

-- the one view of a new table
fresh_knows : (at : ℕ) (v : View) → get_elem? (opening_view ∷ []) at ≡ some v → Knows 0 zeros at v
fresh_knows zero v e = subst (Knows 0 zeros 0) (some-injective opening_view v e) (refl, refl, λ k n is. absurd (some-ne-none n (sym is)))
fresh_knows (suc at) v e = absurd (some-ne-none v (sym e))

-- a new table meets the rule
pub opens : Counted (opening zeros [] opening_view)
opens = record { writer = 0; wide = refl; each = fresh_knows }

-- the first reader may be split off the writer
pub splits_first : (id : ℕ) (v : View) → Splits Counted id v (itself v) (new_reader v)
splits_first id v = splits_to id v (new_reader v) (λ s r at j k. zeros_below 100 k (get_or s.words k 0))
