use Rattle.std.proofs.Common.{◌≡◌, ◌+◌, drop}
use Rattle.std.specs.List.{prefix_len}
use Rattle.pl_script.specs.Lines.{is_letter}
use Rattle.pl_script.proofs.words.word_len.Given as goal

abbrev pub invariant-loop-at : goal.invariant-loop-at
invariant-loop-at l = prefix_len is_letter l.text ≡ l.at + prefix_len is_letter (drop l.at l.text)
