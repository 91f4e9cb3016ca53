-- The words of a script's commands have no space and no line end in them.
use Rattle.std.proofs.Common.{◌≡◌, ◌≢◌, ◌==◌, ◌||◌, ◌&&◌, nat_le, not, ℕ, Bool, true, false, List, [], ◌∷◌, ◌++◌, length, codes, refl, ap, sym, ◌∙◌, true≢false, inl, inr}
use Rattle.std.specs.List.{AllByRecursion, list_all}
use Rattle.std.proofs.lemmas.List.Elements.{recursion_from_All}
use Rattle.std.proofs.lemmas.Bool.Decides.{eqb_tells}
use Rattle.std.specs.Fmt.{decimal}
use Rattle.pl_script.specs.Forms.{is_name_byte}
use Rattle.pl_edit.specs.declared.edit.Edit.{Edit}
use Rattle.pl_edit.specs.declared.edit.Edit.TheVariants as edit
use Rattle.pl_machine.specs.declared.entry.Command.{Command}
use Rattle.pl_machine.specs.declared.entry.Command.TheVariants as command
use Rattle.pl_transcript.specs.Commands.{value_words, command_words}
use Rattle.pl_spelled.specs.Script.{IsName, IsNoBlank, IsWord, IsSpelled}
use Rattle.pl_spelled.proofs.Splitting.{weaker, Lacks, is_end, AreSolid}
use Rattle.pl_spelled.proofs.Numbers.{decimal_solid, mm_solid}

-- the words of a command but its value
abbrev pub front_words : Command Edit → List (List ℕ)
front_words (command.Edit (edit.Set key value)) = codes "set" ∷ key ∷ []
front_words (command.Edit (edit.Override place key value)) = codes "override" ∷ decimal place ∷ key ∷ []
front_words c = command_words c

-- the value, empty where there is none
abbrev pub value_of : Command Edit → List ℕ
value_of (command.Edit (edit.Set key value)) = value
value_of (command.Edit (edit.Override place key value)) = value
value_of c = []

pub words_parts : (c : Command Edit) → command_words c ≡ front_words c ++ value_words (value_of c)
words_parts (command.Edit (edit.Set key value)) = refl
words_parts (command.Edit (edit.Override place key value)) = refl
words_parts c = refl

-- a byte that is neither a space nor a line end
pub no_end : (b : ℕ) → b ≢ 32 → b ≢ 10 → is_end b ≡ false
no_end b p q = elim (eqb_tells b 32) [
  | inl same ↦ absurd (p same.1)
  | inr space ↦ elim (eqb_tells b 10) [
    | inl same ↦ absurd (q same.1)
    | inr line ↦ ap (λ v. v || (b == 10)) space.0 ∙ line.0
  ]
]

and_left : (a b : Bool) → (a && b) ≡ true → a ≡ true
and_left true b h = refl
and_left false b h = absurd (true≢false (sym h))

and_right : (a b : Bool) → (a && b) ≡ true → b ≡ true
and_right true b h = h
and_right false b h = absurd (true≢false (sym h))

name_byte_no_end : (b : ℕ) → is_name_byte b ≡ true → is_end b ≡ false
name_byte_no_end b h = no_end b (λ e. true≢false (sym h ∙ ap is_name_byte e)) (λ e. true≢false (sym h ∙ ap is_name_byte e))

all_told : (f : ℕ → Bool) (text : List ℕ) → list_all f text ≡ true → AllByRecursion (λ b. f b ≡ true) text
all_told f [] h = tt
all_told f (b ∷ bs) h = (and_left (f b) _ h, all_told f bs (and_right (f b) _ h))

not_told : (b : Bool) → not b ≡ true → b ≡ false
not_told true h = absurd (true≢false (sym h))
not_told false h = refl

-- a text whose bytes can be looked at
pub literal_lacks : (test : ℕ → Bool) (text : List ℕ) → list_all (λ b. not (test b)) text ≡ true → Lacks test text
literal_lacks test text h = weaker (λ b. not (test b) ≡ true) (λ b. test b ≡ false) (λ b. not_told (test b)) text (all_told (λ b. not (test b)) text h)

pub literal_solid : (text : List ℕ) → list_all (λ b. not (is_end b)) text ≡ true → Lacks is_end text
literal_solid text h = literal_lacks is_end text h

pub name_solid : (text : List ℕ) → IsName text → Lacks is_end text
name_solid text h = weaker (λ b. is_name_byte b ≡ true) (λ b. is_end b ≡ false) name_byte_no_end text (all_told is_name_byte text (and_right (nat_le (length text) 64) _ (and_right (nat_le 1 (length text)) _ h)))

pub key_solid : (text : List ℕ) → IsWord text → Lacks is_end text
key_solid text h = weaker IsNoBlank (λ b. is_end b ≡ false) (λ b n. no_end b n.0 n.2) text (recursion_from_All IsNoBlank text h.solid)

pub front_solid : (c : Command Edit) → IsSpelled c → AreSolid (front_words c)
front_solid (command.Edit (edit.Load name block)) s = (literal_solid (codes "load") refl, (name_solid name s.0, (name_solid block.name s.1, tt)))
front_solid (command.Edit (edit.Reload place block)) s = (literal_solid (codes "reload") refl, (decimal_solid place, (name_solid block.name s.1, tt)))
front_solid (command.Edit (edit.Delete place)) s = (literal_solid (codes "delete") refl, (decimal_solid place, tt))
front_solid (command.Edit (edit.Copy place x y)) s = (literal_solid (codes "copy") refl, (decimal_solid place, (mm_solid x, (mm_solid y, tt))))
front_solid (command.Edit (edit.Move place instance x y)) s = (literal_solid (codes "move") refl, (decimal_solid place, (decimal_solid instance, (mm_solid x, (mm_solid y, tt)))))
front_solid (command.Edit (edit.Drop place instance)) s = (literal_solid (codes "drop") refl, (decimal_solid place, (decimal_solid instance, tt)))
front_solid (command.Edit (edit.Turn place quarter)) s = (literal_solid (codes "turn") refl, (decimal_solid place, (decimal_solid quarter, tt)))
front_solid (command.Edit (edit.Set key value)) s = (literal_solid (codes "set") refl, (key_solid key s.0, tt))
front_solid (command.Edit (edit.Override place key value)) s = (literal_solid (codes "override") refl, (decimal_solid place, (key_solid key s.1, tt)))
front_solid (command.Edit (edit.Unset place key)) s = (literal_solid (codes "unset") refl, (decimal_solid place, (key_solid key s.1, tt)))
front_solid (command.Edit (edit.Ini block)) s = (literal_solid (codes "ini") refl, (name_solid block.name s, tt))
front_solid command.Apply s = (literal_solid (codes "apply") refl, tt)
front_solid command.Export s = (literal_solid (codes "export") refl, tt)
front_solid command.Status s = (literal_solid (codes "status") refl, tt)
front_solid command.Cancel s = (literal_solid (codes "cancel") refl, tt)
front_solid (command.After session calls) s = (literal_solid (codes "after") refl, (decimal_solid session, (decimal_solid calls, tt)))
