use Rattle.std.proofs.Common.{◌≡◌, ◌<◌, ◌≤◌, ◌+◌, ℕ, length, take, drop, ◌++◌, ◌∙◌, sym, arith, length-drop}
use Rattle.std.proofs.lemmas.List.{take_rest}
use Rattle.std.proofs.Math.Seq.{take-add}
use Rattle.std.specs.Io.KnownBytes.{Appends}
use Rattle.pl_ports.specs.Fronts.{appends_more, appends_keeps, front_at}
use Rattle.pl_ports.proofs.whole.put_all.Goals as goal

pub loop-done-preserved : goal.loop-done-preserved
loop-done-preserved g c = record {
  within = omega (arith, simp (take_rest, length-drop) at c.in_ok-done.ensures.count);
  put =
      let p = rw take_rest at (appends_more _ _ _ _ _ c.loop-done.invariant.put c.in_ok-done.ensures.bytes) in
      rw take-add p;
  kept = c.in_ok-done.ensures.kept ∙ c.loop-done.invariant.kept;
}

pub returns-in_err-done-clause-front : goal.returns-in_err-done-clause-front
returns-in_err-done-clause-front g c = front_at _ _ c.loop-done.done c.args.bytes.now (appends_keeps _ _ _ _ c.loop-done.invariant.put c.in_err-done.ensures.nothing_put)
