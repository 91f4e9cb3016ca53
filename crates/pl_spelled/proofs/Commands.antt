-- Commands of one script are told by their words.
use Rattle.std.proofs.Common.{◌≡◌, ℕ, zero, suc, Bool, true, false, List, [], ◌∷◌, length, Some, refl, ap, arith}
use Rattle.std.specs.Fmt.{decimal}
use Rattle.std.specs.Str.{bytes_eq}
use Rattle.pl_edit.specs.Data.{Data}
use Rattle.pl_edit.specs.declared.edit.Edit.{Edit}
use Rattle.pl_edit.specs.declared.edit.Edit.TheVariants as edit
use Rattle.pl_machine.specs.declared.entry.Command.{Command}
use Rattle.pl_machine.specs.declared.entry.Command.TheVariants as command
use Rattle.pl_transcript.specs.Commands.{command_words}
use Rattle.pl_spelled.specs.Script.{IsPlace, IsSpelled, block_of}
use Rattle.pl_spelled.proofs.Numbers.{mm_injective, number_told}
use Rattle.pl_spelled.proofs.Words.{front_words, value_of}

abbrev pub first_of : List (List ℕ) → List ℕ
first_of [] = []
first_of (word ∷ words) = word

abbrev pub rest_of : List (List ℕ) → List (List ℕ)
rest_of [] = []
rest_of (word ∷ words) = words

-- the first word of a command
abbrev pub verb_of : Command Edit → List ℕ
verb_of c = first_of (front_words c)

pub verb_first : (c : Command Edit) → command_words c ≡ verb_of c ∷ rest_of (command_words c)
verb_first (command.Edit (edit.Load name block)) = refl
verb_first (command.Edit (edit.Reload place block)) = refl
verb_first (command.Edit (edit.Delete place)) = refl
verb_first (command.Edit (edit.Copy place x y)) = refl
verb_first (command.Edit (edit.Move place instance x y)) = refl
verb_first (command.Edit (edit.Drop place instance)) = refl
verb_first (command.Edit (edit.Turn place quarter)) = refl
verb_first (command.Edit (edit.Set key value)) = refl
verb_first (command.Edit (edit.Override place key value)) = refl
verb_first (command.Edit (edit.Unset place key)) = refl
verb_first (command.Edit (edit.Ini block)) = refl
verb_first command.Apply = refl
verb_first command.Export = refl
verb_first command.Status = refl
verb_first command.Cancel = refl
verb_first (command.After session calls) = refl

-- the k-th word
abbrev word_at : ℕ → List (List ℕ) → List ℕ
word_at k [] = []
word_at zero (word ∷ words) = word
word_at (suc k) (word ∷ words) = word_at k words

abbrev pub IsEdit : Command Edit → Type 0
IsEdit (command.Edit change) = Unit {0}
IsEdit c = ⊥

-- blocks of these commands that have one name are one block
abbrev pub ShareBlocks : Command Edit → Command Edit → Type 0
ShareBlocks c d = (a b : Data) → block_of c ≡ Some a → block_of d ≡ Some b → a.name ≡ b.name → a ≡ b

-- a test that computes, as a fact
abbrev pub Says : Bool → Type 0
Says true = Unit {0}
Says false = ⊥

place_told : (p q : ℕ) → IsPlace p → IsPlace q → decimal p ≡ decimal q → p ≡ q
place_told p q s t e = number_told p q (omega arith) (omega arith) e

-- equal texts have equal words at each place
at : (k : ℕ) (ws vs : List (List ℕ)) → ws ≡ vs → word_at k ws ≡ word_at k vs
at k ws vs e = ap (word_at k) e

-- as many words; and where all words and the values are equal, so are the commands
abbrev pub AreTold : Command Edit → Command Edit → Type 0
AreTold c d = (length (front_words c) ≡ length (front_words d)) × (front_words c ≡ front_words d → (IsEdit c → IsEdit d → value_of c ≡ value_of d) → c ≡ d)

pub command_told : (c d : Command Edit) → IsSpelled c → IsSpelled d → ShareBlocks c d → Says (bytes_eq (verb_of c) (verb_of d)) → AreTold c d
command_told (command.Edit (edit.Load n a)) (command.Edit (edit.Load m b)) s t one h =
    (refl, λ e v. let name : n ≡ m = at 1 _ _ e in let block : a ≡ b = one a b refl refl (at 2 _ _ e) in cc)
command_told (command.Edit (edit.Reload p a)) (command.Edit (edit.Reload q b)) s t one h =
    (refl, λ e v. let place = place_told p q s.0 t.0 (at 1 _ _ e) in let block : a ≡ b = one a b refl refl (at 2 _ _ e) in cc)
command_told (command.Edit (edit.Delete p)) (command.Edit (edit.Delete q)) s t one h =
    (refl, λ e v. let place = place_told p q s t (at 1 _ _ e) in cc)
command_told (command.Edit (edit.Copy p x y)) (command.Edit (edit.Copy q u w)) s t one h =
    (refl, λ e v. let place = place_told p q s.0 t.0 (at 1 _ _ e) in let right = mm_injective x u s.1 t.1 (at 2 _ _ e) in let up = mm_injective y w s.2 t.2 (at 3 _ _ e) in cc)
command_told (command.Edit (edit.Move p i x y)) (command.Edit (edit.Move q j u w)) s t one h = (
  refl,
  λ e v. let place = place_told p q s.0 t.0 (at 1 _ _ e) in let instance = place_told i j s.1 t.1 (at 2 _ _ e) in let right = mm_injective x u s.2 t.2 (at 3 _ _ e) in let up = mm_injective y w s.3 t.3 (at 4 _ _ e) in cc,
)
command_told (command.Edit (edit.Drop p i)) (command.Edit (edit.Drop q j)) s t one h =
    (refl, λ e v. let place = place_told p q s.0 t.0 (at 1 _ _ e) in let instance = place_told i j s.1 t.1 (at 2 _ _ e) in cc)
command_told (command.Edit (edit.Turn p i)) (command.Edit (edit.Turn q j)) s t one h =
    (refl, λ e v. let place = place_told p q s.0 t.0 (at 1 _ _ e) in let quarter = place_told i j (omega (arith, s.1)) (omega (arith, t.1)) (at 2 _ _ e) in cc)
command_told (command.Edit (edit.Set k x)) (command.Edit (edit.Set l y)) s t one h =
    (refl, λ e v. let key : k ≡ l = at 1 _ _ e in let value : x ≡ y = v tt tt in cc)
command_told (command.Edit (edit.Override p k x)) (command.Edit (edit.Override q l y)) s t one h =
    (refl, λ e v. let place = place_told p q s.0 t.0 (at 1 _ _ e) in let key : k ≡ l = at 2 _ _ e in let value : x ≡ y = v tt tt in cc)
command_told (command.Edit (edit.Unset p k)) (command.Edit (edit.Unset q l)) s t one h =
    (refl, λ e v. let place = place_told p q s.0 t.0 (at 1 _ _ e) in let key : k ≡ l = at 2 _ _ e in cc)
command_told (command.Edit (edit.Ini a)) (command.Edit (edit.Ini b)) s t one h =
    (refl, λ e v. let block : a ≡ b = one a b refl refl (at 1 _ _ e) in cc)
command_told command.Apply command.Apply s t one h = (refl, λ e v. refl)
command_told command.Export command.Export s t one h = (refl, λ e v. refl)
command_told command.Status command.Status s t one h = (refl, λ e v. refl)
command_told command.Cancel command.Cancel s t one h = (refl, λ e v. refl)
command_told (command.After i n) (command.After j m) s t one h =
    (refl, λ e v. let session = number_told i j s.0 t.0 (at 1 _ _ e) in let calls = number_told n m s.1 t.1 (at 2 _ _ e) in cc)
command_told command.Apply (command.Edit (edit.Ini b)) s t one h = absurd h
command_told command.Export (command.Edit (edit.Ini b)) s t one h = absurd h
command_told command.Status (command.Edit (edit.Ini b)) s t one h = absurd h
command_told command.Cancel (command.Edit (edit.Ini b)) s t one h = absurd h
command_told (command.After i n) (command.Edit (edit.Ini b)) s t one h = absurd h
command_told c d s t one h = absurd h
