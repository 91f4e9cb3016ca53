use Rattle.std.proofs.Common.{◌≡◌, ◌≤◌, length, vec_capacity}
use Rattle.pl_turn.specs.Passes.{splits}
use Rattle.pl_runs.specs.Places.{AreFresh, IsFresh}
use Rattle.pl_runs.proofs.splitting.split_all.Given as goal

abbrev pub invariant-loop-k : goal.invariant-loop-k
invariant-loop-k g l = record {
  fresh : AreFresh l.lock 2 l.rest.items;
  long : length l.rest.items ≡ l.k;
  one : IsFresh l.lock 1 l.first;
  count : splits l.first ≡ l.k;
  room : 23 ≤ vec_capacity l.rest;
}
