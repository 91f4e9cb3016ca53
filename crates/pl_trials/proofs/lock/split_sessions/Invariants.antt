use Rattle.std.proofs.Common.{◌≡◌}
use Rattle.pl_turn.specs.Passes.{joined, number, own, seen, splits, AreOfOne}
use Rattle.pl_trials.proofs.lock.split_sessions.Given as goal

abbrev pub invariant-loop-k : goal.invariant-loop-k
invariant-loop-k g l = AreOfOne l.initial.first l.first × (number l.first ≡ number l.initial.first) × (splits l.first ≡ l.k) × (seen l.first ≡ seen l.initial.first) × (own l.first ≡ own l.initial.first) × (joined l.first ≡ joined l.initial.first)
