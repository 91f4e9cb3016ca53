use Rattle.std.proofs.Common.{◌≡◌, ◌+◌, drop}
use Rattle.std.specs.List.{prefix_len}
use Rattle.pl_keys.specs.Trim.{is_white}
use Rattle.pl_keys.proofs.white.trim_start.Given as goal

abbrev pub invariant-loop-at : goal.invariant-loop-at
invariant-loop-at l = prefix_len is_white l.text ≡ l.at + prefix_len is_white (drop l.at l.text)
