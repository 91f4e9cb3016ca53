use Rattle.pl_trials.specs.Standing.{StandOn}
use Rattle.pl_trials.proofs.trial.Trial.call_all.Given as goal

abbrev pub invariant-loop-number : goal.invariant-loop-number
invariant-loop-number g l = StandOn g.T.Technology.meaning l.fn.self.plant.journal l.self.plant.journal
