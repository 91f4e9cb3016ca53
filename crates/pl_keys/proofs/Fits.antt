-- What a text writes is a value of the option.
use Rattle.std.proofs.Common.{◌≡◌, ℕ, ℤ, Bool, true, false, if◌then◌else◌, List, length, Result, Ok, Err, IfOk, ap, refl, subst}
use Rattle.std.proofs.lemmas.Bool.{leb-true}
use Rattle.pl_units.specs.declared.Nm.{Nm}
use Rattle.pl_units.specs.declared.numeral.NumberFault.{NumberFault}
use Rattle.pl_units.specs.declared.numeral.NumberFault.TheVariants.{BadNumber, TooFar}
use Rattle.pl_units.specs.Lengths.{length_of}
use Rattle.pl_keys.specs.declared.key.Key.{Key}
use Rattle.pl_keys.specs.declared.key.Kind.{Kind}
use Rattle.pl_keys.specs.declared.key.Kind.TheVariants as kind
use Rattle.pl_keys.specs.declared.value.Value.{Value}
use Rattle.pl_keys.specs.declared.value.Value.TheVariants.{Flag, Words}
use Rattle.pl_keys.specs.declared.value.ValueFault.{ValueFault}
use Rattle.pl_keys.specs.declared.value.ValueFault.TheVariants.{BadValue, OutOfRange}
use Rattle.pl_keys.specs.declared.value.ValueStop.{ValueStop}
use Rattle.pl_keys.specs.Table.{Row, row}
use Rattle.pl_keys.specs.Trim.{trimmed}
use Rattle.pl_keys.specs.Values.{in_range, numbered, is_whole, number_of, numeral_in, of_length, unescaped, value_in, value_of, fits, IsValueOf, Answers}

chosen : (b : Bool) (v value : Value) → (let r : Result Value ValueFault = if b then Ok v else Err OutOfRange in r) ≡ Ok value → (b ≡ true) × (v ≡ value)
chosen true v value e = (refl, cc)
chosen false v value e = absurd (cc)

-- the kinds of numbers
is_numeric : Kind → Type 0
is_numeric kind.Flag = ⊥
is_numeric kind.Text = ⊥
is_numeric _ = Unit {0}

numbered_fits : (k : Kind) (r : Row) (number : ℤ) → is_numeric k → r.kind ≡ k → in_range r.least r.greatest number ≡ true → fits r (numbered k number)
unfolding is_numeric
numbered_fits kind.Length r number numeric same within = (same, within)
numbered_fits kind.Whole r number numeric same within = (ap is_whole same, within)
numbered_fits kind.Percent r number numeric same within = (ap is_whole same, within)
numbered_fits kind.Factor r number numeric same within = (ap is_whole same, within)
numbered_fits kind.Flag r number numeric same within = absurd numeric
numbered_fits kind.Text r number numeric same within = absurd numeric

length_fits : (r : Row) (said : Result Nm NumberFault) (value : Value) → is_numeric r.kind → of_length r said ≡ Ok value → fits r value
length_fits r (Ok nm) value numeric e =
    let number = number_of r.kind nm.0 in
    let both = chosen (in_range r.least r.greatest number) (numbered r.kind number) value e in
    subst (λ v. fits r v) both.1 (numbered_fits r.kind r number numeric refl both.0)
length_fits r (Err BadNumber) value numeric e = absurd (cc)
length_fits r (Err TooFar) value numeric e = absurd (cc)

flag_fits : (zero one : Bool) (r : Row) (value : Value) → r.kind ≡ kind.Flag
    → (let said : Result Value ValueFault = if zero then Ok (Flag false) else (if one then Ok (Flag true) else Err BadValue) in said) ≡ Ok value → fits r value
flag_fits true one r value same e = let v : Flag false ≡ value = cc in subst (λ v. fits r v) v same
flag_fits false true r value same e = let v : Flag true ≡ value = cc in subst (λ v. fits r v) v same
flag_fits false false r value same e = absurd (cc)

kind_fits : (k : Kind) (r : Row) (text : List ℕ) (value : Value) → r.kind ≡ k → value_in k r text ≡ Ok value → fits r value
unfolding is_numeric
kind_fits kind.Length r text value same e = length_fits r (length_of (numeral_in r.kind text)) value (rw same tt) e
kind_fits kind.Whole r text value same e = length_fits r (length_of (numeral_in r.kind text)) value (rw same tt) e
kind_fits kind.Percent r text value same e = length_fits r (length_of (numeral_in r.kind text)) value (rw same tt) e
kind_fits kind.Factor r text value same e = length_fits r (length_of (numeral_in r.kind text)) value (rw same tt) e
kind_fits kind.Flag r text value same e = flag_fits _ _ r value same e
kind_fits kind.Text r text value same e =
    let both = chosen _ (Words (unescaped text)) value e in
    subst (λ v. fits r v) both.1 (same, leb-true (length (unescaped text)) r.greatest both.0)

pub value_fits : (key : Key) (text : List ℕ) (value : Value) → value_of key text ≡ Ok value → IsValueOf key value
value_fits key text value e = kind_fits (row key).kind (row key) (trimmed text) value refl e

pub answer_fits : (key : Key) (text : List ℕ) (result : Result Value ValueStop) → Answers result (value_of key text) → IfOk result (IsValueOf key)
answer_fits key text (Ok value) e = value_fits key text value e
answer_fits key text (Err stop) e = tt
