use Rattle.std.proofs.Common.{◌≡◌, ◌≤◌, ◌-◌, ℕ, [], length, take, drop, sum_by}
use Rattle.std.specs.List.{between}
use Rattle.pl_stl.specs.Tokens.{tokens_from, line_end}
use Rattle.pl_stl.proofs.read.word_end.Given as goal

abbrev pub invariant-loop-i : goal.invariant-loop-i
invariant-loop-i l = record {
  begun : l.from ≤ l.i;
  within : l.i ≤ length l.bytes;
  rest : (line : ℕ) → tokens_from line (between l.from l.i l.bytes) (drop l.i l.bytes) ≡ tokens_from line [] (drop l.from l.bytes);
  line : sum_by line_end (take l.i l.bytes) ≡ sum_by line_end (take l.from l.bytes);
}

abbrev pub decreases-loop-i : goal.decreases-loop-i
decreases-loop-i l = length l.bytes - l.i
