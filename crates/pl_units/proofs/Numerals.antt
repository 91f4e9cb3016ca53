-- Texts by their parts are numerals, and each numeral is read by its parts.
use Rattle.std.proofs.Common.{◌≡◌, ◌==◌, ◌||◌, ◌&&◌, ◌+◌, ◌-◌, ◌*◌, ◌<◌, ◌≤◌, ℕ, suc, Bool, true, false, List, [], ◌∷◌, ◌++◌, length, take, drop, get_or, refl, ap, sym, ◌∙◌, arith, cond, Option, Some, None, ◌⊎◌, inl, inr, length-append, subst}
use Rattle.std.specs.Prelude.{nat_le, nat_lt, position}
use Rattle.std.specs.List.{position_or_len}
use Rattle.std.specs.Char.{is_ascii_digit}
use Rattle.std.proofs.lemmas.List.{append-nil, take-append-drop, drop_more}
use Rattle.std.proofs.lemmas.List.Quantifiers.{position-Some}
use Rattle.std.proofs.lemmas.Bool.{ltb-true, lt-ltb, leb-true, le-leb, eqb-true}
use Rattle.pl_units.specs.Numeral.{digits_after, written, is_mark, IsSign, unsigned, plus, minus, IsDecimal, whole, pointed, IsExponent, zeroth, power, IsNumeral}
use Rattle.pl_units.specs.Lengths.{is_minus, after_sign, of_power, of_power_digits, exponent_of, of_number, of_digits, of_point, decimal_of, of_mark, numeral_of}
use Rattle.pl_units.specs.declared.numeral.Numeral.{Numeral}
use Rattle.pl_units.specs.declared.numeral.Exponent.{Exponent}

-- an `if` that came to a value
pub chosen : {A : Type 0} (b : Bool) (x y z : A) → cond b x y ≡ z → ((b ≡ true) × (x ≡ z)) ⊎ ((b ≡ false) × (y ≡ z))
chosen true x y z e = inl (refl, e)
chosen false x y z e = inr (refl, e)

pub both : (a b : Bool) → (a && b) ≡ true → (a ≡ true) × (b ≡ true)
both true b e = (refl, e)
both false b e = absurd (cc e)

pub either : (a b : Bool) → (a || b) ≡ true → (a ≡ true) ⊎ (b ≡ true)
either true b e = inl refl
either false b e = inr e

pub neither : (a b : Bool) → (a || b) ≡ false → (a ≡ false) × (b ≡ false)
neither true b e = absurd (cc e)
neither false b e = (refl, e)

-- Digits one after another.

pub digits_then : (xs ys : List ℕ) (m k : ℕ) → digits_after m xs ≡ Some k → digits_after m (xs ++ ys) ≡ digits_after k ys
digits_then [] ys m k e = let same : m ≡ k = cc in ap (λ n. digits_after n ys) same
digits_then (x ∷ xs) ys m k e =
    elim (chosen (is_ascii_digit x) _ _ _ e) [
      | inl c ↦ rw c.0 (digits_then xs ys (m * 10 + (x - 48)) k c.1)
      | inr c ↦ absurd (cc c.1)
    ]

pub digits_stop : (xs ys : List ℕ) (m : ℕ) → digits_after m xs ≡ None → digits_after m (xs ++ ys) ≡ None
digits_stop [] ys m e = absurd (cc e)
digits_stop (x ∷ xs) ys m e =
    elim (chosen (is_ascii_digit x) _ _ _ e) [
      | inl c ↦ rw c.0 (digits_stop xs ys (m * 10 + (x - 48)) c.1)
      | inr c ↦ rw c.0 refl
    ]

-- no byte passes a test
abbrev pub Avoids : (ℕ → Bool) → List ℕ → Type 0
Avoids p [] = Unit {0}
Avoids p (x ∷ xs) = (p x ≡ false) × Avoids p xs

pub avoids_first : (p : ℕ → Bool) (xs ys : List ℕ) → Avoids p (xs ++ ys) → Avoids p xs
avoids_first p [] ys h = tt
avoids_first p (x ∷ xs) ys h = (h.0, avoids_first p xs ys h.1)

pub avoids_last : (p : ℕ → Bool) (xs ys : List ℕ) → Avoids p (xs ++ ys) → Avoids p ys
avoids_last p [] ys h = h
avoids_last p (x ∷ xs) ys h = avoids_last p xs ys h.1

pub avoids_both : (p : ℕ → Bool) (xs ys : List ℕ) → Avoids p xs → Avoids p ys → Avoids p (xs ++ ys)
avoids_both p [] ys h k = k
avoids_both p (x ∷ xs) ys h k = (h.0, avoids_both p xs ys h.1 k)

pub digits_avoid : (p : ℕ → Bool) → ((b : ℕ) → is_ascii_digit b ≡ true → p b ≡ false) → (xs : List ℕ) (m n : ℕ) → digits_after m xs ≡ Some n → Avoids p xs
digits_avoid p other [] m n e = tt
digits_avoid p other (x ∷ xs) m n e =
    elim (chosen (is_ascii_digit x) _ _ _ e) [
      | inl c ↦ (other x c.0, digits_avoid p other xs (m * 10 + (x - 48)) n c.1)
      | inr c ↦ absurd (cc c.1)
    ]

pub digit_range : (b : ℕ) → is_ascii_digit b ≡ true → (48 ≤ b) × (b ≤ 57)
digit_range b d = let h = both (nat_le 48 b) (nat_le b 57) d in (leb-true 48 b h.0, leb-true b 57 h.1)

pub digit_small : (b : ℕ) → is_ascii_digit b ≡ true → b - 48 ≤ 9
digit_small b d = let r = digit_range b d in omega arith

pub digit_step : (text : List ℕ) (i m : ℕ) → i < length text → is_ascii_digit (get_or text i 0) ≡ true → digits_after m (drop i text) ≡ digits_after (m * 10 + (get_or text i 0 - 48)) (drop (i + 1) text)
digit_step text i m h d = rw (drop_more text i 0 h, d) refl

pub digit_is_other : (b c : ℕ) → c < 48 → is_ascii_digit b ≡ true → (b == c) ≡ false
digit_is_other b c h d = go (b == c) refl
  where
    go : (v : Bool) → (b == c) ≡ v → (b == c) ≡ false
    go true e = let f : b ≡ c = eqb-true b c e in absurd (omega (arith, f, (digit_range b d).0))
    go false e = e

pub digit_is_no_mark : (b : ℕ) → is_ascii_digit b ≡ true → is_mark b ≡ false
digit_is_no_mark b d = go (is_mark b) refl
  where
    go : (v : Bool) → is_mark b ≡ v → is_mark b ≡ false
    go true e =
        let r = digit_range b d in
        elim (either (b == 101) (b == 69) e) [
          | inl f ↦ let is : b ≡ 101 = eqb-true b 101 f in absurd (omega (arith, is, r.1))
          | inr f ↦ let is : b ≡ 69 = eqb-true b 69 f in absurd (omega (arith, is, r.1))
        ]
    go false e = e

-- The first byte that passes a test.

pub none_passes : (p : ℕ → Bool) (xs : List ℕ) → Avoids p xs → position_or_len p xs ≡ length xs
none_passes p [] h = refl
none_passes p (x ∷ xs) h = let rest = none_passes p xs h.1 in rw (h.0, rest) (omega arith)

pub first_passes : (p : ℕ → Bool) (xs : List ℕ) (y : ℕ) (ys : List ℕ) → Avoids p xs → p y ≡ true → position_or_len p (xs ++ y ∷ ys) ≡ length xs
first_passes p [] y ys h is = rw is refl
first_passes p (x ∷ xs) y ys h is = let rest = first_passes p xs y ys h.1 is in rw (h.0, rest) (omega arith)

place_none : (a b : ℕ) → a ≡ b → cond (nat_lt a b) (Some a) None ≡ None
place_none a b e = go (nat_lt a b) refl
  where
    go : (v : Bool) → nat_lt a b ≡ v → cond (nat_lt a b) (Some a) None ≡ None
    go true t = absurd (omega (arith, e, ltb-true a b t))
    go false f = rw f refl

place_some : (a b n : ℕ) → a ≡ n → n < b → cond (nat_lt a b) (Some a) None ≡ Some n
place_some a b n e h = let t : nat_lt a b ≡ true = lt-ltb a b (omega (arith, e, h)) in rw t (ap (λ m. Some m) e)

pub no_place : (p : ℕ → Bool) (xs : List ℕ) → Avoids p xs → position p xs ≡ None
no_place p xs h = place_none (position_or_len p xs) (length xs) (none_passes p xs h)

pub place : (p : ℕ → Bool) (xs : List ℕ) (y : ℕ) (ys : List ℕ) → Avoids p xs → p y ≡ true → position p (xs ++ y ∷ ys) ≡ Some (length xs)
place p xs y ys h is =
    place_some (position_or_len p (xs ++ y ∷ ys)) (length (xs ++ y ∷ ys)) (length xs) (first_passes p xs y ys h is) (let l = length-append xs (y ∷ ys) in omega (arith, l))

-- a list at the place of its first element that passes
pub split : (p : ℕ → Bool) (xs : List ℕ) (i : ℕ) → position p xs ≡ Some i → (y : ℕ) × (xs ≡ take i xs ++ y ∷ drop (i + 1) xs) × (p y ≡ true)
split p xs i e =
    let h = position-Some p xs i 0 e in
    (get_or xs i 0, sym (take-append-drop i xs) ∙ ap (λ l. take i xs ++ l) (drop_more xs i 0 h.0), h.1)

pub take_front : (xs ys : List ℕ) → take (length xs) (xs ++ ys) ≡ xs
take_front [] ys = refl
take_front (x ∷ xs) ys = ap (λ l. x ∷ l) (take_front xs ys)

pub drop_front : (xs : List ℕ) (y : ℕ) (ys : List ℕ) → drop (length xs + 1) (xs ++ y ∷ ys) ≡ ys
drop_front [] y ys = refl
drop_front (x ∷ xs) y ys = let e : suc (length xs) + 1 ≡ suc (length xs + 1) = omega arith in rw e (drop_front xs y ys)

-- The sign.

pub sign_text : (text : List ℕ) → (sign : List ℕ) × (text ≡ sign ++ after_sign text) × IsSign sign (is_minus text)
sign_text [] = ([], refl, unsigned)
sign_text (b ∷ bs) = go (b == 43) (b == 45) refl refl
  where
    go : (p m : Bool) → (b == 43) ≡ p → (b == 45) ≡ m → (sign : List ℕ) × (b ∷ bs ≡ sign ++ after_sign (b ∷ bs)) × IsSign sign (is_minus (b ∷ bs))
    go true m e f = let is : b ≡ 43 = eqb-true b 43 e in rw is (43 ∷ [], refl, plus)
    go false true e f = let is : b ≡ 45 = eqb-true b 45 f in rw is (45 ∷ [], refl, minus)
    go false false e f = ([], rw (e, f) refl, rw f unsigned)

-- no sign stands first
abbrev pub NoSign : List ℕ → Type 0
NoSign [] = Unit {0}
NoSign (b ∷ bs) = ((b == 43) ≡ false) × ((b == 45) ≡ false)

pub sign_of : {sign : List ℕ} {negative : Bool} (rest : List ℕ) → IsSign sign negative → NoSign rest → (is_minus (sign ++ rest) ≡ negative) × (after_sign (sign ++ rest) ≡ rest)
sign_of [] unsigned h = (refl, refl)
sign_of (b ∷ bs) unsigned h = (h.1, rw (h.0, h.1) refl)
sign_of rest plus h = (refl, refl)
sign_of rest minus h = (refl, refl)

pub digits_no_sign : (xs ys : List ℕ) (m n : ℕ) → 1 ≤ length xs → digits_after m xs ≡ Some n → NoSign (xs ++ ys)
digits_no_sign [] ys m n some e = absurd (omega (arith, some))
digits_no_sign (x ∷ xs) ys m n some e =
    let a = digits_avoid (λ b. b == 43) (λ b d. digit_is_other b 43 (omega arith) d) (x ∷ xs) m n e in
    let b = digits_avoid (λ b. b == 45) (λ b d. digit_is_other b 45 (omega arith) d) (x ∷ xs) m n e in
    (a.0, b.0)

pub pointed_no_sign : (before after rest : List ℕ) (n : ℕ) → written (before ++ after) ≡ Some n → NoSign ((before ++ 46 ∷ after) ++ rest)
pointed_no_sign [] after rest n e = (refl, refl)
pointed_no_sign (x ∷ xs) after rest n e =
    let a = digits_avoid (λ b. b == 43) (λ b d. digit_is_other b 43 (omega arith) d) (x ∷ (xs ++ after)) 0 n e in
    let b = digits_avoid (λ b. b == 45) (λ b d. digit_is_other b 45 (omega arith) d) (x ∷ (xs ++ after)) 0 n e in
    (a.0, b.0)

pub decimal_no_sign : {text : List ℕ} {number places : ℕ} (rest : List ℕ) → IsDecimal text number places → NoSign (text ++ rest)
decimal_no_sign rest (whole digits number e some few) = digits_no_sign digits rest 0 number some e
decimal_no_sign rest (pointed before after number e some few) = pointed_no_sign before after rest number e

-- A numeral is read by its parts.

pub decimal_no_mark : {text : List ℕ} {number places : ℕ} → IsDecimal text number places → Avoids is_mark text
decimal_no_mark (whole digits number e some few) = digits_avoid is_mark digit_is_no_mark digits 0 number e
decimal_no_mark (pointed before after number e some few) =
    let h = digits_avoid is_mark digit_is_no_mark (before ++ after) 0 number e in
    avoids_both is_mark before (46 ∷ after) (avoids_first is_mark before after h) (refl, avoids_last is_mark before after h)

pub digits_read : (negative : Bool) (before after : List ℕ) (number : ℕ) (x : Exponent) → written (before ++ after) ≡ Some number → 1 ≤ length (before ++ after) → length (before ++ after) ≤ 30 → of_digits negative before after x ≡ Some (record { negative = negative; number = number; places = length after; exponent = x })
digits_read negative before after number x e some few =
    let l = length-append before after in
    let a : nat_lt 0 (length before + length after) ≡ true = lt-ltb 0 (length before + length after) (omega (arith, some, l)) in
    let b : nat_le (length before + length after) 30 ≡ true = le-leb (length before + length after) 30 (omega (arith, few, l)) in
    rw (a, b, e) refl

pub decimal_read : {text : List ℕ} {number places : ℕ} (negative : Bool) (x : Exponent) → IsDecimal text number places → decimal_of negative text (Some x) ≡ Some (record { negative = negative; number = number; places = places; exponent = x })
decimal_read negative x (whole digits number e some few) =
    let none = no_place (λ b. b == 46) digits (digits_avoid (λ b. b == 46) (λ b d. digit_is_other b 46 (omega arith) d) digits 0 number e) in
    let all = append-nil digits in
    ap (λ o. of_point negative o digits x) none ∙ digits_read negative digits [] number x (rw all e) (rw all some) (rw all few)
decimal_read negative x (pointed before after number e some few) =
    let h = digits_avoid (λ b. b == 46) (λ b d. digit_is_other b 46 (omega arith) d) (before ++ after) 0 number e in
    let at = place (λ b. b == 46) before 46 after (avoids_first (λ b. b == 46) before after h) refl in
    ap (λ o. of_point negative o (before ++ 46 ∷ after) x) at ∙ ap (λ b. of_digits negative b (drop (length before + 1) (before ++ 46 ∷ after)) x) (take_front before (46 ∷ after))
    ∙ ap (λ a. of_digits negative before a x) (drop_front before 46 after) ∙ digits_read negative before after number x e some few

pub power_read : (below : Bool) (digits : List ℕ) (size : ℕ) → written digits ≡ Some size → 1 ≤ length digits → length digits ≤ 4 → size ≤ 60 → of_power_digits below digits ≡ Some (record { below = below; size = size })
power_read below digits size e some few small =
    let a : nat_lt 0 (length digits) ≡ true = lt-ltb 0 (length digits) (omega (arith, some)) in
    let b : nat_le (length digits) 4 ≡ true = le-leb (length digits) 4 few in
    let c : nat_le size 60 ≡ true = le-leb size 60 small in
    rw (a, b, e, c) refl

pub exponent_read : {sign : List ℕ} {below : Bool} (digits : List ℕ) (size : ℕ) → IsSign sign below → written digits ≡ Some size → 1 ≤ length digits → length digits ≤ 4 → size ≤ 60 → exponent_of (sign ++ digits) ≡ Some (record { below = below; size = size })
exponent_read {sign} {below} digits size s e some few small =
    let plain : NoSign digits = rw append-nil at (digits_no_sign digits [] 0 size some e) in
    let h = sign_of digits s plain in
    ap (λ b. of_power_digits b (after_sign (sign ++ digits))) h.0 ∙ ap (λ d. of_power_digits below d) h.1 ∙ power_read below digits size e some few small

pub mark_read : {d e : List ℕ} {number places size : ℕ} {below : Bool} (negative : Bool) → IsDecimal d number places → IsExponent e below size → of_mark negative (position is_mark (d ++ e)) (d ++ e) ≡ Some (record { negative = negative; number = number; places = places; exponent = record { below = below; size = size } })
mark_read {d} negative dec zeroth =
    let all = append-nil d in
    rw all (ap (λ o. of_mark negative o d) (no_place is_mark d (decimal_no_mark dec)) ∙ decimal_read negative (record { below = false; size = 0 }) dec)
mark_read {d} negative dec (power mark sign digits below size is s w some few small) =
    let at = place is_mark d mark (sign ++ digits) (decimal_no_mark dec) is in
    ap (λ o. of_mark negative o (d ++ mark ∷ (sign ++ digits))) at
    ∙ ap (λ t. decimal_of negative t (exponent_of (drop (length d + 1) (d ++ mark ∷ (sign ++ digits))))) (take_front d (mark ∷ (sign ++ digits)))
    ∙ ap (λ t. decimal_of negative d (exponent_of t)) (drop_front d mark (sign ++ digits))
    ∙ ap (λ o. decimal_of negative d o) (exponent_read digits size s w some few small)
    ∙ decimal_read negative (record { below = below; size = size }) dec

pub numeral_read : (text : List ℕ) (n : Numeral) → IsNumeral text n → numeral_of text ≡ Some n
numeral_read text n h =
    let s = sign_of (h.decimal ++ h.exponent) h.is_sign (decimal_no_sign h.exponent h.is_decimal) in
    ap numeral_of h.all ∙ ap (λ m. of_mark m (position is_mark (after_sign (h.sign ++ (h.decimal ++ h.exponent)))) (after_sign (h.sign ++ (h.decimal ++ h.exponent)))) s.0
    ∙ ap (λ t. of_mark n.negative (position is_mark t) t) s.1 ∙ mark_read n.negative h.is_decimal h.is_exponent

-- What is read by its parts is a numeral.

pub of_number_is : (negative : Bool) (o : Option ℕ) (places : ℕ) (x : Exponent) (n : Numeral) → of_number negative o places x ≡ Some n → (o ≡ Some n.number) × (n ≡ record { negative = negative; number = n.number; places = places; exponent = x })
of_number_is negative None places x n e = absurd (cc e)
of_number_is negative (Some number) places x n e =
    let same : n ≡ record { negative = negative; number = number; places = places; exponent = x } = cc in
    rw same (refl, refl)

pub digits_are : (negative : Bool) (before after : List ℕ) (x : Exponent) (n : Numeral) → of_digits negative before after x ≡ Some n → (written (before ++ after) ≡ Some n.number) × (n ≡ record { negative = negative; number = n.number; places = length after; exponent = x }) × (1 ≤ length (before ++ after)) × (length (before ++ after) ≤ 30)
digits_are negative before after x n e =
    elim (chosen (nat_lt 0 (length before + length after) && nat_le (length before + length after) 30) _ _ _ e) [
      | inl c ↦
          let b = both (nat_lt 0 (length before + length after)) (nat_le (length before + length after) 30) c.0 in
          let some = ltb-true 0 (length before + length after) b.0 in
          let few = leb-true (length before + length after) 30 b.1 in
          let l = length-append before after in
          let w = of_number_is negative (written (before ++ after)) (length after) x n c.1 in
          (w.0, w.1, omega (arith, some, l), omega (arith, few, l))
      | inr c ↦ absurd (cc c.1)
    ]

none_at_all : (b : Bool) (o : Option Numeral) → o ≡ None → cond b o None ≡ None
none_at_all true o e = e
none_at_all false o e = refl

pub digits_none : (negative : Bool) (before after : List ℕ) (x : Exponent) → written (before ++ after) ≡ None → of_digits negative before after x ≡ None
digits_none negative before after x e =
    none_at_all (nat_lt 0 (length before + length after) && nat_le (length before + length after) 30) _ (ap (λ o. of_number negative o (length after) x) e)

-- the parts behind the sign
pub record Parts (negative : Bool) (text : List ℕ) (x : Exponent) (n : Numeral) : Type 0 where
  pub is_decimal : IsDecimal text n.number n.places
  pub sign : n.negative ≡ negative
  pub exponent : n.exponent ≡ x

pub point_are : (negative : Bool) (text : List ℕ) (x : Exponent) (n : Numeral) (o : Option ℕ) → position (λ b. b == 46) text ≡ o → of_point negative o text x ≡ Some n → Parts negative text x n
point_are negative text x n None at e =
    let d = digits_are negative text [] x n e in
    let w : written text ≡ Some n.number = rw append-nil at d.0 in
    let some : 1 ≤ length text = rw append-nil at d.2 in
    let few : length text ≤ 30 = rw append-nil at d.3 in
    let none : n.places ≡ 0 = ap (λ (m : Numeral). m.places) d.1 in
    record { is_decimal = rw none (whole text n.number w some few); sign = ap (λ (m : Numeral). m.negative) d.1; exponent = ap (λ (m : Numeral). m.exponent) d.1 }
point_are negative text x n (Some i) at e =
    let d = digits_are negative (take i text) (drop (i + 1) text) x n e in
    let s = split (λ b. b == 46) text i at in
    let is : s.0 ≡ 46 = eqb-true s.0 46 s.2 in
    let all : text ≡ take i text ++ 46 ∷ drop (i + 1) text = s.1 ∙ ap (λ y. take i text ++ y ∷ drop (i + 1) text) is in
    let places : n.places ≡ length (drop (i + 1) text) = ap (λ (m : Numeral). m.places) d.1 in
    let made = pointed (take i text) (drop (i + 1) text) n.number d.0 d.2 d.3 in
    record { is_decimal = subst (λ t. IsDecimal t n.number n.places) (sym all) (rw places made); sign = ap (λ (m : Numeral). m.negative) d.1; exponent = ap (λ (m : Numeral). m.exponent) d.1 }

pub of_power_is : (below : Bool) (o : Option ℕ) (x : Exponent) → of_power below o ≡ Some x → (o ≡ Some x.size) × (x.below ≡ below) × (x.size ≤ 60)
of_power_is below None x e = absurd (cc e)
of_power_is below (Some size) x e =
    elim (chosen (nat_le size 60) _ _ _ e) [
      | inl c ↦
          let same : x ≡ record { below = below; size = size } = cc in
          rw same (refl, refl, leb-true size 60 c.0)
      | inr c ↦ absurd (cc c.1)
    ]

pub power_are : (mark : ℕ) (text : List ℕ) (x : Exponent) → is_mark mark ≡ true → exponent_of text ≡ Some x → IsExponent (mark ∷ text) x.below x.size
power_are mark text x is e =
    elim (chosen (nat_lt 0 (length (after_sign text)) && nat_le (length (after_sign text)) 4) _ _ _ e) [
      | inl c ↦
          let b = both (nat_lt 0 (length (after_sign text))) (nat_le (length (after_sign text)) 4) c.0 in
          let p = of_power_is (is_minus text) (written (after_sign text)) x c.1 in
          let s = sign_text text in
          let sign : IsSign s.0 x.below = rw p.1 s.2 in
          let some : 1 ≤ length (after_sign text) = omega (arith, ltb-true 0 (length (after_sign text)) b.0) in
          let made = power mark s.0 (after_sign text) x.below x.size is sign p.0 some (leb-true (length (after_sign text)) 4 b.1) p.2 in
          subst (λ t. IsExponent (mark ∷ t) x.below x.size) (sym s.1) made
      | inr c ↦ absurd (cc c.1)
    ]

pub record Rest (negative : Bool) (text : List ℕ) (n : Numeral) : Type 0 where
  pub decimal : List ℕ
  pub exponent : List ℕ
  pub all : text ≡ decimal ++ exponent
  pub sign : n.negative ≡ negative
  pub is_decimal : IsDecimal decimal n.number n.places
  pub is_exponent : IsExponent exponent n.exponent.below n.exponent.size

pub power_with : (negative : Bool) (text front back : List ℕ) (y : ℕ) (n : Numeral) (o : Option Exponent) → text ≡ front ++ y ∷ back → is_mark y ≡ true → exponent_of back ≡ o → decimal_of negative front o ≡ Some n → Rest negative text n
power_with negative text front back y n None all is x e = absurd (cc e)
power_with negative text front back y n (Some p) all is x e =
    let h = point_are negative front p n (position (λ b. b == 46) front) refl e in
    record { decimal = front; exponent = y ∷ back; all = all; sign = h.sign; is_decimal = h.is_decimal; is_exponent = rw h.exponent (power_are y back p is x) }

pub mark_are : (negative : Bool) (text : List ℕ) (n : Numeral) (o : Option ℕ) → position is_mark text ≡ o → of_mark negative o text ≡ Some n → Rest negative text n
mark_are negative text n None at e =
    let h = point_are negative text (record { below = false; size = 0 }) n (position (λ b. b == 46) text) refl e in
    record { decimal = text; exponent = []; all = sym (append-nil text); sign = h.sign; is_decimal = h.is_decimal; is_exponent = rw h.exponent zeroth }
mark_are negative text n (Some i) at e =
    let s = split is_mark text i at in
    power_with negative text (take i text) (drop (i + 1) text) s.0 n (exponent_of (drop (i + 1) text)) s.1 s.2 refl e

pub numeral_is : (text : List ℕ) (n : Numeral) → numeral_of text ≡ Some n → IsNumeral text n
numeral_is text n e =
    let s = sign_text text in
    let r = mark_are (is_minus text) (after_sign text) n (position is_mark (after_sign text)) refl e in
    record { sign = s.0; decimal = r.decimal; exponent = r.exponent; all = s.1 ∙ ap (λ t. s.0 ++ t) r.all; is_sign = rw r.sign s.2; is_decimal = r.is_decimal; is_exponent = r.is_exponent }
