-- The text of a history: a line for each entry, and a last one.
use Rattle.std.specs.Prelude.{ℕ, suc, List, [], ◌∷◌, ◌++◌, length, codes}
use Rattle.std.specs.Fmt.{decimal}
use Rattle.pl_edit.specs.declared.edit.Edit.{Edit}
use Rattle.pl_edit.specs.declared.reply.EditReply.{EditReply}
use Rattle.pl_tech.specs.Technology.{Meaning}
use Rattle.pl_ports.specs.declared.gate.Actor.{Actor}
use Rattle.pl_ports.specs.declared.gate.Actor.TheVariants.{Session, Worker}
use Rattle.pl_machine.specs.declared.entry.What.{What}
use Rattle.pl_machine.specs.declared.entry.What.TheVariants.{Call, Start, Finish, Late, Bye}
use Rattle.pl_machine.specs.declared.entry.Entry.{Entry}
use Rattle.pl_transcript.specs.Words.{spaced}
use Rattle.pl_transcript.specs.Commands.{command_words}
use Rattle.pl_transcript.specs.Replies.{reply_words}

abbrev pub actor_word : Actor → List ℕ
actor_word (Session i) = codes "s" ++ decimal i
actor_word (Worker k) = codes "w" ++ decimal k

-- the last line: the number of entries, and the number of runs
abbrev pub end_text : ℕ → ℕ → List ℕ
end_text entries runs = codes "end" ++ spaced (decimal entries ∷ codes "runs" ∷ decimal runs ∷ []) ++ 10 ∷ []

module _ {P O : Type 0} (m : Meaning P Edit EditReply O) {T J B : Type 0} where
  -- what an actor did
  abbrev pub what_words : What T P Edit EditReply O J B → List (List ℕ)
  what_words (Call command reply) = command_words command ++ codes "=" ∷ reply_words m reply
  what_words (Start slot epoch) = codes "start" ∷ m.name slot ∷ decimal epoch ∷ []
  what_words (Finish slot epoch) = codes "done" ∷ m.name slot ∷ decimal epoch ∷ []
  what_words (Late slot since now) = codes "late" ∷ m.name slot ∷ decimal since ∷ decimal now ∷ []
  what_words Bye = codes "bye" ∷ []

  -- the line of entry n
  abbrev pub entry_text : ℕ → Entry T P Edit EditReply O J B → List ℕ
  entry_text n entry = decimal n ++ spaced (actor_word entry.actor ∷ what_words entry.what) ++ 10 ∷ []

  -- entries, numbered on from n
  abbrev pub entries_text : ℕ → List (Entry T P Edit EditReply O J B) → List ℕ
  entries_text n [] = []
  entries_text n (entry ∷ entries) = entry_text n entry ++ entries_text (suc n) entries

  abbrev pub transcript : List (Entry T P Edit EditReply O J B) → ℕ → List ℕ
  transcript history runs = entries_text 1 history ++ end_text (length history) runs

  -- the lines of entries, numbered on from n, and all lines of a history
  abbrev pub entry_lines : ℕ → List (Entry T P Edit EditReply O J B) → List (List ℕ)
  entry_lines n [] = []
  entry_lines n (entry ∷ entries) = entry_text n entry ∷ entry_lines (suc n) entries

  abbrev pub lines : List (Entry T P Edit EditReply O J B) → ℕ → List (List ℕ)
  lines history runs = entry_lines 1 history ++ end_text (length history) runs ∷ []
