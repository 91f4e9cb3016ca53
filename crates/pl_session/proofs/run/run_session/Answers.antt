use Rattle.std.proofs.Common.{All, map, sym, subst}
use Rattle.std.specs.Arc.{arc_value}
use Rattle.pl_session.specs.Alone.{WaitsForNobody}
use Rattle.pl_session.proofs.run.run_session.Goals as goal

pub step-requires-clause-own : goal.step-requires-clause-own
step-requires-clause-own g c κs within = subst (λ commands. All WaitsForNobody (map arc_value commands)) (sym c.loop-made.invariant.commands) c.requires.own
