use Rattle.std.proofs.Common.{◌≡◌, drop}
use Rattle.pl_relay.specs.Exports.{exports_of}
use Rattle.pl_demo.specs.Summary.{first_length}
use Rattle.pl_demo.proofs.summary.first_length.Given as goal

abbrev pub invariant-loop-entry : goal.invariant-loop-entry
invariant-loop-entry g l = let t = g.T.Technology in first_length t.meaning (exports_of l.session l.journal) ≡ first_length t.meaning (exports_of l.session (drop l.entry-index l.journal))
