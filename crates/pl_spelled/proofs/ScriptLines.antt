-- What the commands and the blocks of a script keep, by the lines of its text.
use Rattle.std.proofs.Common.{◌≡◌, ℕ, ◌+◌, Option, Some, None, Ok, List, [], ◌∷◌, ◌++◌, length, All, sym, subst}
use Rattle.std.specs.Result.{IfOk}
use Rattle.std.proofs.lemmas.List.Elements.{All-nil, All-cons, All-head, All-tail, All-push}
use Rattle.pl_edit.specs.Data.{Data}
use Rattle.pl_script.specs.declared.fault.ScriptFault.TheVariants.{BadLine}
use Rattle.pl_script.specs.declared.script.Line.{Line}
use Rattle.pl_script.specs.Lines.{lines_of, line_text, line_words, without_last}
use Rattle.pl_script.specs.Forms.{is_name}
use Rattle.pl_script.specs.Orders.{two_of}
use Rattle.pl_script.specs.Script.{Script, script_of, name_in, data_name}
use Rattle.pl_script.specs.Grammar.{IsBlock, IsBeginning, head, passed, workers, block, command}
use Rattle.pl_script.specs.Kept.{IsInLine, IsLine, HasBlock, HaveBlocks}
use Rattle.pl_script.proofs.Keeping.{ok_where, ok_fact, text_in_line, lines_in_line}
use Rattle.pl_script.proofs.KeptLines.{KeepsLine, command_keeps}
use Rattle.pl_script.proofs.Texts.{empty_is}
use Rattle.pl_script.proofs.Told.{command_read}
use Rattle.pl_script.proofs.OneReading.{its_script}
use Rattle.pl_spelled.specs.Script.{IsName}

abbrev pub AreNamed : List Data → Type 0
AreNamed blocks = All (λ block. IsName block.name) blocks

-- the commands are of their forms, and carry blocks of the script, which have names of the form of names
pub record Keeps (script : Script) : Type 0 where
  pub lines : All IsLine script.lines
  pub carried : HaveBlocks script.blocks script.lines
  pub named : AreNamed script.blocks

all_front : {X : Type 0} (P : X → Type 0) (xs ys : List X) → All P (xs ++ ys) → All P xs
all_front P [] ys h = All-nil P
all_front P (x ∷ xs) ys h = All-cons P x xs (All-head P x (xs ++ ys) h) (all_front P xs ys (All-tail P x (xs ++ ys) h))

all_back : {X : Type 0} (P : X → Type 0) (xs ys : List X) → All P (xs ++ ys) → All P ys
all_back P [] ys h = h
all_back P (x ∷ xs) ys h = all_back P xs ys (All-tail P x (xs ++ ys) h)

name_in_named : (words : Option (List ℕ × List ℕ)) → IfOk (name_in words) IsName
name_in_named None = tt
name_in_named (Some w) = ok_where IsName (is_name w.1) (Ok w.1) BadLine (λ e. e)

block_is_named : (part : List (List ℕ)) (data_block : Data) → IsBlock part data_block → IsName data_block.name
block_is_named part data_block is = ok_fact IsName (data_name (line_words is.first)) data_block.name is.name (name_in_named (two_of (line_words is.first)))

text_keeps : (lines : List (List ℕ)) (script : Script) → IsBeginning lines script → All IsInLine lines → Keeps script
text_keeps _ _ (head line e) h = record { lines = All-nil IsLine; carried = All-nil (λ l. HasBlock [] l.command); named = All-nil (λ b. IsName b.name) }
text_keeps _ _ (passed before script line t e) h = text_keeps before script t (all_front IsInLine before (line ∷ []) h)
text_keeps _ _ (workers before script line number t sets is) h =
    let k = text_keeps before script t (all_front IsInLine before (line ∷ []) h) in
    record { lines = k.lines; carried = k.carried; named = k.named }
text_keeps _ _ (block before script part data_block t none is new) h =
    let k = text_keeps before script t (all_front IsInLine before part h) in
    let blocks = script.blocks ++ data_block ∷ [] in
    record {
      lines = k.lines;
      carried = subst (HaveBlocks blocks) (sym (empty_is script.lines none)) (All-nil (λ l. HasBlock blocks l.command));
      named = All-push (λ b. IsName b.name) script.blocks data_block k.named (block_is_named part data_block is);
    }
text_keeps _ _ (command before script line session order t other is few) h =
    let c : Line = record { number = length before + 1; session = session; command = order } in
    let read = command_read script.blocks (length script.lines) (length before + 1) (line_text line) session order is few in
    let k = text_keeps before script t (all_front IsInLine before (line ∷ []) h) in
    let in_line = text_in_line line (All-head IsInLine line [] (all_back IsInLine before (line ∷ []) h)) in
    let keeps : KeepsLine script.blocks (length script.lines) c = ok_fact (KeepsLine script.blocks (length script.lines)) _ c read (command_keeps script.blocks (length script.lines) (length before + 1) (line_text line) in_line) in
    record {
      lines = All-push IsLine script.lines c k.lines keeps.is;
      carried = All-push (λ l. HasBlock script.blocks l.command) script.lines c k.carried keeps.block;
      named = k.named;
    }

pub script_keeps : (bytes : List ℕ) (script : Script) → script_of bytes ≡ Ok script → Keeps script
script_keeps bytes script e = text_keeps (lines_of bytes) script (its_script (lines_of bytes) script e).says (lines_in_line (without_last 10 bytes))
