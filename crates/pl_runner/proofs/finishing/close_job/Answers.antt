use Rattle.std.proofs.Common.{ℕ}
use Rattle.pl_runner.specs.declared.closed.Closed.{Closed}
use Rattle.pl_runner.specs.declared.closed.Closed.TheVariants.{Done, Late, NoMemory}
use Rattle.pl_runner.specs.Closing.{MatchClosed}
use Rattle.pl_runner.proofs.finishing.close_job.Goals as goal

-- what holds after each closing holds where memory was not wanting
loosened : (P Q : Type 0) (F : ℕ → ℕ → Type 0) (closed : Closed) → MatchClosed closed P F Q → MatchClosed closed P F (Unit {0})
loosened P Q F Done done = done
loosened P Q F (Late since now) late = late
loosened P Q F NoMemory kept = tt

pub returns-in-Ok-Stopped-clause-order : goal.returns-in-Ok-Stopped-clause-order
returns-in-Ok-Stopped-clause-order g c = λ commands order. loosened _ _ _ c.retire_turn.result.0 (c.retire_turn.ensures.order commands order)
