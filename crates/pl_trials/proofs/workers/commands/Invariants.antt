use Rattle.std.proofs.Common.{◌≡◌, map, vec_len}
use Rattle.std.specs.Prelude.{All}
use Rattle.std.specs.Arc.{arc_value}
use Rattle.pl_machine.specs.Calls.{NamesSession}
use Rattle.pl_trials.proofs.workers.commands.Given as goal

abbrev pub invariant-loop-place : goal.invariant-loop-place
invariant-loop-place l = record {
  few : vec_len l.made ≡ l.place;
  named : All NamesSession (map arc_value l.made.items);
}
