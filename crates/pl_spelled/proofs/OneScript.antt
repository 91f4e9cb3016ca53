-- The commands of a script are commands of one script.
use Rattle.std.proofs.Common.{◌≡◌, ◌≢◌, ℕ, Bool, false, Some, Ok, List, [], ◌∷◌, map, All, refl, sym, ap, ◌∙◌, subst, true≢false, arith, inl, inr}
use Rattle.std.specs.Option.{IfSome}
use Rattle.std.specs.List.{find}
use Rattle.std.proofs.lemmas.Bool.{cases_Bool, cond-true, cond-false}
use Rattle.std.proofs.lemmas.List.Elements.{All-head, All-tail, All-map, All-contains}
use Rattle.pl_edit.specs.Data.{Data}
use Rattle.pl_edit.specs.declared.edit.Edit.{Edit}
use Rattle.pl_edit.specs.declared.edit.Edit.TheVariants as edit
use Rattle.pl_machine.specs.declared.entry.Command.TheVariants as command
use Rattle.pl_script.specs.declared.script.Line.{Line}
use Rattle.pl_script.specs.Lines.{is_word, is_blank}
use Rattle.pl_script.specs.Orders.{Order, block_named}
use Rattle.pl_script.specs.Script.{Script, script_of}
use Rattle.pl_script.specs.Kept as kept
use Rattle.pl_script.proofs.Keeping.{some_fact}
use Rattle.pl_spelled.specs.Script.{IsName, IsNoBlank, IsWord, IsSpelledEdit, IsSpelled, block_of, AreOfOneScript}
use Rattle.pl_spelled.proofs.ScriptLines.{AreNamed, Keeps, script_keeps}

-- what all elements have, one that is found has
found_holds : {X : Type 0} (P : X → Type 0) (test : X → Bool) (xs : List X) → All P xs → IfSome (find test xs) P
found_holds P test [] h = tt
found_holds P test (x ∷ xs) h =
    elim (cases_Bool (test x)) [
      | inl here ↦ subst (λ o. IfSome o P) (sym (cond-true (test x) _ _ here)) (All-head P x xs h)
      | inr later ↦ subst (λ o. IfSome o P) (sym (cond-false (test x) _ _ later)) (found_holds P test xs (All-tail P x xs h))
    ]

no_blank : (b : ℕ) → is_blank b ≡ false → b ≢ 10 → IsNoBlank b
no_blank b h line = (λ e. true≢false (sym (ap is_blank e) ∙ h), λ e. true≢false (sym (ap is_blank e) ∙ h), line)

word_is : (word : List ℕ) → kept.IsWord word → IsWord word
word_is word h = record {
  some = λ e. true≢false (sym h.some ∙ ap is_word e);
  solid = λ k d lt. no_blank _ (h.whole k d lt) (h.line k d lt);
}

module _ (blocks : List Data) (named : AreNamed blocks) where
  carried_named : (block : Data) → block_named blocks block.name ≡ Some block → IsName block.name
  carried_named block e = some_fact (λ b. IsName b.name) (block_named blocks block.name) block e (found_holds (λ b. IsName b.name) _ blocks named)

  edit_spelled : (e : Edit) → kept.IsEdit e → kept.HasBlock blocks (command.Edit e) → IsSpelledEdit e
  edit_spelled (edit.Load name block) h has = (h, carried_named block has)
  edit_spelled (edit.Reload place block) h has = (omega (arith, h), carried_named block has)
  edit_spelled (edit.Delete place) h has = omega (arith, h)
  edit_spelled (edit.Copy place x y) h has = (omega (arith, h.0), h.1, h.2)
  edit_spelled (edit.Move place instance x y) h has = (omega (arith, h.0), omega (arith, h.1), h.2, h.3)
  edit_spelled (edit.Drop place instance) h has = (omega (arith, h.0), omega (arith, h.1))
  edit_spelled (edit.Turn place quarter) h has = (omega (arith, h.0), omega (arith, h.1))
  edit_spelled (edit.Set key value) h has = (word_is key h.0, h.1)
  edit_spelled (edit.Override place key value) h has = (omega (arith, h.0), word_is key h.1, h.2)
  edit_spelled (edit.Unset place key) h has = (omega (arith, h.0), word_is key h.1)
  edit_spelled (edit.Ini block) h has = carried_named block has

  order_spelled : (c : Order) → kept.IsOrder c → kept.HasBlock blocks c → IsSpelled c
  order_spelled (command.Edit e) h has = edit_spelled e h has
  order_spelled (command.After session calls) h has = (omega (arith, h.0.1), omega (arith, h.1))
  order_spelled command.Apply h has = tt
  order_spelled command.Export h has = tt
  order_spelled command.Status h has = tt
  order_spelled command.Cancel h has = tt

-- the block of a command is found by its name
block_found : (blocks : List Data) (c : Order) (a : Data) → kept.HasBlock blocks c → block_of c ≡ Some a → block_named blocks a.name ≡ Some a
block_found blocks (command.Edit (edit.Load name block)) a has e = some_fact (λ b. block_named blocks b.name ≡ Some b) (Some block) a e has
block_found blocks (command.Edit (edit.Reload place block)) a has e = some_fact (λ b. block_named blocks b.name ≡ Some b) (Some block) a e has
block_found blocks (command.Edit (edit.Ini block)) a has e = some_fact (λ b. block_named blocks b.name ≡ Some b) (Some block) a e has
block_found blocks c a has e = absurd (cc)

one_found : (blocks : List Data) (a b : Data) → block_named blocks a.name ≡ Some a → block_named blocks b.name ≡ Some b → a.name ≡ b.name → a ≡ b
one_found blocks a b found other name = some_fact (λ x. x ≡ b) (Some a) a refl (subst (λ o. IfSome o (λ x. x ≡ b)) (sym other ∙ ap (block_named blocks) (sym name) ∙ found) refl)

pub are_of_one_script : (bytes : List ℕ) (script : Script) → script_of bytes ≡ Ok script → AreOfOneScript (map (λ line. line.command) script.lines)
are_of_one_script bytes script e =
    let keeps : Keeps script = script_keeps bytes script e in
    let commands = map (λ (line : Line). line.command) script.lines in
    let carried : All (kept.HasBlock script.blocks) commands = All-map (kept.HasBlock script.blocks) (λ line. line.command) script.lines keeps.carried in
    record {
      spelled = All-map IsSpelled (λ line. line.command) script.lines (λ k d lt. order_spelled script.blocks keeps.named _ (keeps.lines k d lt).order (keeps.carried k d lt));
      one_block = λ c d a b is other p q name.
          one_found script.blocks a b
          (block_found script.blocks c a (All-contains (kept.HasBlock script.blocks) commands c carried is) p)
          (block_found script.blocks d b (All-contains (kept.HasBlock script.blocks) commands d carried other) q)
          name;
    }
