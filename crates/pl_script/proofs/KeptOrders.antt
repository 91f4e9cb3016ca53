-- What orders keep.
use Rattle.std.proofs.Common.{◌≡◌, ℕ, ◌≤◌, nat_le, Bool, true, false, Option, Some, None, List, [], ◌∷◌, All, inl, inr, sym, subst, ◌*◌, ◌^◌, arith}
use Rattle.std.proofs.lemmas.Int.{ints}
use Rattle.std.specs.Result.{IfOk, result_ok}
use Rattle.std.specs.Option.{IfSome, ok_or}
use Rattle.std.proofs.lemmas.Bool.{cases_Bool, cond-true, cond-false}
use Rattle.std.proofs.lemmas.Bool.Decides.{nat_tests}
use Rattle.std.proofs.lemmas.List.Elements.{All-head, All-tail}
use Rattle.pl_units.specs.declared.numeral.Numeral.{Numeral}
use Rattle.pl_units.specs.Numeral.{written, signed, raised, lowered}
use Rattle.pl_units.specs.Lengths.{numeral_of, length_of_numeral, up_to_a_metre, rounded}
use Rattle.pl_edit.specs.Data.{Data}
use Rattle.pl_edit.specs.declared.edit.Edit.TheVariants as edit
use Rattle.pl_machine.specs.declared.entry.Command.TheVariants as command
use Rattle.pl_script.specs.declared.verb.Verb.{Verb}
use Rattle.pl_script.specs.declared.verb.Verb.TheVariants as verb
use Rattle.pl_script.specs.declared.fault.ScriptFault.TheVariants.{BadLine, UnknownCommand, BadSession, NoData}
use Rattle.pl_script.specs.Outcomes.{mapped}
use Rattle.pl_script.specs.Lines.{after_word}
use Rattle.pl_script.specs.Forms.{is_name, is_whole, up_to, whole_of, from_one, session_of, byte_of, nm_of}
use Rattle.pl_script.specs.Orders.{Order, one_of, two_of, three_of, four_of, first_of, first_two_of, alone, delete_in, copy_in, move_in, drop_in, turn_in, set_in, override_in, unset_in, block_named, block_of, load_words, reload_words, ini_in, after_calls, after_words, order_in, order_of, verb_of}
use Rattle.pl_script.specs.Kept.{IsInLine, IsWord, IsShort, IsPlace, IsSession, IsOrder, HasBlock}
use Rattle.pl_script.proofs.Apart.{found_named}
use Rattle.pl_script.proofs.Keeping.{some_then, some_map, some_or, some_where, some_fact, ok_of_some, ok_mapped, ok_where, after_word_in_line, trimmed_in_line}

up_to_most : (most : ℕ) (o : Option ℕ) → IfSome (up_to most o) (λ n. n ≤ most)
up_to_most most None = tt
up_to_most most (Some n) = some_where (λ m. m ≤ most) (nat_le n most) (Some n) (λ e. grind (arith, nat_tests, e))

pub whole_up_to : (most : ℕ) (word : List ℕ) → IfSome (whole_of most word) (λ n. n ≤ most)
whole_up_to most word = some_where (λ m. m ≤ most) (is_whole word) (up_to most (written word)) (λ e. up_to_most most (written word))

-- the place of a word
place_in : (word : List ℕ) (p : ℕ) → byte_of word ≡ Some p → IsPlace p
place_in word p e = some_fact IsPlace _ p e (whole_up_to 255 word)

from_one_range : (o : Option ℕ) → IfSome o (λ n. n ≤ 16) → IfSome (from_one o) IsSession
from_one_range None h = tt
from_one_range (Some n) h = some_where IsSession (nat_le 1 n) (Some n) (λ e. (grind (arith, nat_tests, e), h))

pub session_range : (word : List ℕ) → IfSome (session_of word) IsSession
session_range word = from_one_range (whole_of 16 word) (whole_up_to 16 word)

signed_within : (negative : Bool) (size : ℕ) → size ≤ 1000000000 → IsShort (record { 0 = signed negative size })
signed_within true size le = record { low = omega (arith, ints, le); high = omega (arith, ints, le) }
signed_within false size le = record { low = omega (arith, ints, le); high = omega (arith, ints, le) }

metre_short : (negative : Bool) (size : ℕ) → IfSome (result_ok (up_to_a_metre negative size)) IsShort
metre_short negative size =
    elim (cases_Bool (nat_le size 1000000000)) [
      | inl near ↦ subst (λ r. IfSome (result_ok r) IsShort) (sym (cond-true (nat_le size 1000000000) _ _ near)) (signed_within negative size (grind (arith, nat_tests, near)))
      | inr far ↦ subst (λ r. IfSome (result_ok r) IsShort) (sym (cond-false (nat_le size 1000000000) _ _ far)) tt
    ]

numeral_short : (o : Option Numeral) → IfSome (result_ok (length_of_numeral o)) IsShort
numeral_short None = tt
numeral_short (Some n) = metre_short n.negative (rounded (n.number * 10 ^ raised n) (10 ^ lowered n))

pub length_short : (word : List ℕ) → IfSome (nm_of word) IsShort
length_short word = numeral_short (numeral_of word)

first_word_of : (words : List (List ℕ)) → All IsWord words → IfSome (first_of words) IsWord
first_word_of [] h = tt
first_word_of (a ∷ words) h = All-head IsWord a words h

second_word_of : (words : List (List ℕ)) → All IsWord words → IfSome (first_two_of words) (λ w. IsWord w.1)
second_word_of [] h = tt
second_word_of (a ∷ []) h = tt
second_word_of (a ∷ b ∷ words) h = All-head IsWord b words (All-tail IsWord a (b ∷ words) h)

last_of_two : (words : List (List ℕ)) → All IsWord words → IfSome (two_of words) (λ w. IsWord w.1)
last_of_two [] h = tt
last_of_two (a ∷ []) h = tt
last_of_two (a ∷ b ∷ []) h = All-head IsWord b [] (All-tail IsWord a (b ∷ []) h)
last_of_two (a ∷ b ∷ c ∷ words) h = tt

module _ (blocks : List Data) where
  abbrev pub Keeps : Order → Type 0
  Keeps order = IsOrder order × HasBlock blocks order

  alone_keeps : (order : Order) (words : List (List ℕ)) → Keeps order → IfOk (ok_or (alone order words) BadLine) Keeps
  alone_keeps order [] h = h
  alone_keeps order (word ∷ words) h = tt

  delete_keeps : (words : List (List ℕ)) → IfOk (ok_or (delete_in words) BadLine) Keeps
  delete_keeps words = ok_of_some Keeps _ BadLine (some_then Keeps (one_of words) _ (λ place e. some_map Keeps (byte_of place) _ (λ p is_p. (place_in place p is_p, tt))))

  copy_keeps : (words : List (List ℕ)) → IfOk (ok_or (copy_in words) BadLine) Keeps
  copy_keeps words =
      ok_of_some Keeps _ BadLine
      (some_then Keeps (three_of words) _ (λ w e. some_then Keeps (byte_of w.0) _ (λ p is_p. some_then Keeps (nm_of w.1) _ (λ x is_x. some_map Keeps (nm_of w.2) _ (λ y is_y.
      ((place_in w.0 p is_p, some_fact IsShort _ x is_x (length_short w.1), some_fact IsShort _ y is_y (length_short w.2)), tt))))))

  move_keeps : (words : List (List ℕ)) → IfOk (ok_or (move_in words) BadLine) Keeps
  move_keeps words =
      ok_of_some Keeps _ BadLine
      (some_then Keeps (four_of words) _ (λ w e. some_then Keeps (byte_of w.0) _ (λ p is_p. some_then Keeps (byte_of w.1) _ (λ i is_i. some_then Keeps (nm_of w.2) _ (λ x is_x. some_map Keeps (nm_of w.3) _ (λ y is_y.
      ((place_in w.0 p is_p, place_in w.1 i is_i, some_fact IsShort _ x is_x (length_short w.2), some_fact IsShort _ y is_y (length_short w.3)), tt)))))))

  drop_keeps : (words : List (List ℕ)) → IfOk (ok_or (drop_in words) BadLine) Keeps
  drop_keeps words = ok_of_some Keeps _ BadLine (some_then Keeps (two_of words) _ (λ w e. some_then Keeps (byte_of w.0) _ (λ p is_p. some_map Keeps (byte_of w.1) _ (λ i is_i. ((place_in w.0 p is_p, place_in w.1 i is_i), tt)))))

  turn_keeps : (words : List (List ℕ)) → IfOk (ok_or (turn_in words) BadLine) Keeps
  turn_keeps words =
      ok_of_some Keeps _ BadLine
      (some_then Keeps (two_of words) _ (λ w e. some_then Keeps (byte_of w.0) _ (λ p is_p. some_map Keeps (whole_of 3 w.1) _ (λ q is_q. ((place_in w.0 p is_p, some_fact (λ n. n ≤ 3) _ q is_q (whole_up_to 3 w.1)), tt)))))

  set_keeps : (words : List (List ℕ)) (text : List ℕ) → All IsWord words → IsInLine text → IfOk (ok_or (set_in words text) BadLine) Keeps
  set_keeps words text h line =
      ok_of_some Keeps _ BadLine
      (some_map Keeps (first_of words) _ (λ key is_key. ((some_fact IsWord _ key is_key (first_word_of words h), trimmed_in_line (after_word text) (after_word_in_line text line)), tt)))

  override_keeps : (words : List (List ℕ)) (text : List ℕ) → All IsWord words → IsInLine text → IfOk (ok_or (override_in words text) BadLine) Keeps
  override_keeps words text h line =
      ok_of_some Keeps _ BadLine
      (some_then Keeps (first_two_of words) _ (λ w is_w. some_map Keeps (byte_of w.0) _ (λ p is_p.
      ((place_in w.0 p is_p, some_fact (λ v. IsWord v.1) _ w is_w (second_word_of words h), trimmed_in_line (after_word (after_word text)) (after_word_in_line (after_word text) (after_word_in_line text line))), tt))))

  unset_keeps : (words : List (List ℕ)) → All IsWord words → IfOk (ok_or (unset_in words) BadLine) Keeps
  unset_keeps words h =
      ok_of_some Keeps _ BadLine (some_then Keeps (two_of words) _ (λ w is_w. some_map Keeps (byte_of w.0) _ (λ p is_p. ((place_in w.0 p is_p, some_fact (λ v. IsWord v.1) _ w is_w (last_of_two words h)), tt))))

  abbrev pub IsOneOf : Data → Type 0
  IsOneOf block = block_named blocks block.name ≡ Some block

  block_is_one : (name : List ℕ) → IfOk (block_of blocks name) IsOneOf
  block_is_one name = ok_where IsOneOf (is_name name) (ok_or (block_named blocks name) NoData) BadLine (λ e. ok_of_some IsOneOf (block_named blocks name) NoData (found_named blocks name))

  block_keeps : (name : List ℕ) (f : Data → Order) → ((block : Data) → IsOneOf block → Keeps (f block)) → IfOk (mapped f (block_of blocks name)) Keeps
  block_keeps name f h = ok_mapped Keeps (block_of blocks name) f (λ block e. h block (subst (λ r. IfOk r IsOneOf) e (block_is_one name)))

  load_keeps : (words : Option (List ℕ × List ℕ)) → IfOk (load_words blocks words) Keeps
  load_keeps None = tt
  load_keeps (Some w) = ok_where Keeps (is_name w.0) (mapped (λ block. command.Edit (edit.Load w.0 block)) (block_of blocks w.1)) BadLine (λ named. block_keeps w.1 (λ block. command.Edit (edit.Load w.0 block)) (λ block h. (named, h)))

  reload_keeps : (words : Option (List ℕ × List ℕ)) → IfOk (reload_words blocks words) Keeps
  reload_keeps None = tt
  reload_keeps (Some w) = some_or Keeps (byte_of w.0) _ BadLine (λ p is_p. block_keeps w.1 (λ block. command.Edit (edit.Reload p block)) (λ block h. (place_in w.0 p is_p, h)))

  ini_keeps : (words : List (List ℕ)) → IfOk (ini_in blocks words) Keeps
  ini_keeps words = some_or Keeps (one_of words) _ BadLine (λ name e. block_keeps name (λ block. command.Edit (edit.Ini block)) (λ block h. (tt, h)))

  after_calls_keeps : (session : List ℕ) (calls : ℕ) → calls ≤ 10000 → IfOk (after_calls session calls) Keeps
  after_calls_keeps session calls few =
      ok_where Keeps (is_whole session) _ BadLine
      (λ e. ok_of_some Keeps _ BadSession (some_map Keeps (session_of session) _ (λ s is_s. ((some_fact IsSession _ s is_s (session_range session), few), tt))))

  after_keeps : (words : Option (List ℕ × List ℕ)) → IfOk (after_words words) Keeps
  after_keeps None = tt
  after_keeps (Some w) = some_or Keeps (whole_of 10000 w.1) _ BadLine (λ calls is_calls. after_calls_keeps w.0 calls (some_fact (λ n. n ≤ 10000) _ calls is_calls (whole_up_to 10000 w.1)))

  order_in_keeps : (v : Verb) (words : List (List ℕ)) (text : List ℕ) → All IsWord words → IsInLine text → IfOk (order_in blocks v words text) Keeps
  order_in_keeps verb.Load words text h line = load_keeps (two_of words)
  order_in_keeps verb.Reload words text h line = reload_keeps (two_of words)
  order_in_keeps verb.Delete words text h line = delete_keeps words
  order_in_keeps verb.Copy words text h line = copy_keeps words
  order_in_keeps verb.Move words text h line = move_keeps words
  order_in_keeps verb.Drop words text h line = drop_keeps words
  order_in_keeps verb.Turn words text h line = turn_keeps words
  order_in_keeps verb.Set words text h line = set_keeps words text h line
  order_in_keeps verb.Override words text h line = override_keeps words text h line
  order_in_keeps verb.Unset words text h line = unset_keeps words h
  order_in_keeps verb.Ini words text h line = ini_keeps words
  order_in_keeps verb.Apply words text h line = alone_keeps command.Apply words (tt, tt)
  order_in_keeps verb.Export words text h line = alone_keeps command.Export words (tt, tt)
  order_in_keeps verb.Status words text h line = alone_keeps command.Status words (tt, tt)
  order_in_keeps verb.Cancel words text h line = alone_keeps command.Cancel words (tt, tt)
  order_in_keeps verb.After words text h line = after_keeps (two_of words)

  pub order_keeps : (words : List (List ℕ)) (text : List ℕ) → All IsWord words → IsInLine text → IfOk (order_of blocks words text) Keeps
  order_keeps [] text h line = tt
  order_keeps (word ∷ words) text h line =
      some_or Keeps (verb_of word) _ UnknownCommand (λ v e. order_in_keeps v words (after_word text) (All-tail IsWord word words h) (after_word_in_line text line))
