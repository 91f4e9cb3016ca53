use Rattle.std.proofs.Common.{◌≡◌, ◌*◌, false, min}
use Rattle.pl_batches.proofs.layered.in_batches.Given as goal

abbrev pub invariant-loop-number : goal.invariant-loop-number
invariant-loop-number g l = record {
  made : g.W.Layered.reaches l.work (min (8 * l.number) l.layers) l.made;
  polls : g.P.Probe.polls l.probe ≡ l.number;
  quiet : g.P.Probe.raised l.probe ≡ false;
  aim : g.P.Probe.aim l.probe ≡ g.P.Probe.aim l.initial.probe;
}
