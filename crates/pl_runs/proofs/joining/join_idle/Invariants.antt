use Rattle.std.proofs.Common.{◌≡◌, ◌++◌, map}
use Rattle.std.specs.Prelude.{All}
use Rattle.std.specs.Vec.Iter.{into_iter_items}
use mathlib.Core.List.{IsPrefix}
use Rattle.pl_turn.specs.Passes.{AreOfOne, joined, number, own, seen, splits}
use Rattle.pl_runs.specs.Places.{IsOther, place_in, place_of}
use Rattle.pl_runs.proofs.joining.join_idle.Given as goal

abbrev pub invariant-loop-pass : goal.invariant-loop-pass
invariant-loop-pass g l = record {
  left : All (λ p. IsOther l.lock p) (into_iter_items l.pass-iterator);
  places : map place_in (joined l.first) ++ map place_of (into_iter_items l.pass-iterator) ≡ map place_in (joined l.initial.first) ++ map place_of (into_iter_items l.initial.pass-iterator);
  lock : AreOfOne l.initial.first l.first;
  number : number l.first ≡ number l.initial.first;
  own : own l.first ≡ own l.initial.first;
  splits : splits l.first ≡ splits l.initial.first;
  keeps : IsPrefix (seen l.initial.first) (seen l.first);
}
