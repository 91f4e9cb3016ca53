use Rattle.std.proofs.Common.{◌≡◌}
use Rattle.pl_turn.specs.Passes.{number, joined, AreOfOne}
use Rattle.pl_turn.proofs.tests.write_ten.Given as goal

abbrev pub invariant-loop-what : goal.invariant-loop-what
invariant-loop-what g l = AreOfOne l.initial.pass l.pass × (number l.pass ≡ number l.initial.pass) × (joined l.pass ≡ joined l.initial.pass)
