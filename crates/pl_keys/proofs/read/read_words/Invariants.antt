use Rattle.std.proofs.Common.{◌≡◌, ◌≤◌, ◌++◌, length}
use Rattle.pl_keys.specs.Values.{unescaped}
use Rattle.pl_keys.proofs.read.read_words.Given as goal

abbrev pub invariant-loop-byte : goal.invariant-loop-byte
invariant-loop-byte l = record { read : unescaped l.text ≡ l.words ++ unescaped l.rest; short : length l.words ≤ 65536 }

abbrev pub decreases-loop-byte : goal.decreases-loop-byte
decreases-loop-byte l = length l.rest
