use Rattle.std.proofs.Common.{◌≡◌}
use Rattle.pl_turn.specs.Passes.{number, joined, splits, AreOfOne}
use Rattle.pl_plant.proofs.turn_tests.edit_ten.Given as goal

abbrev pub invariant-loop-value : goal.invariant-loop-value
invariant-loop-value g l = AreOfOne l.initial.pass l.pass × (number l.pass ≡ number l.initial.pass) × (joined l.pass ≡ joined l.initial.pass) × (splits l.pass ≡ splits l.initial.pass)
