use Rattle.std.proofs.Common.{◌≡◌, ◌++◌}
use Rattle.pl_relay.specs.Exports.{exports_of}
use Rattle.pl_demo.specs.Numbers.{each_of}
use Rattle.pl_demo.specs.Summary.{session_line, first_length}
use Rattle.pl_demo.proofs.summary.put_sessions.Given as goal

abbrev pub invariant-loop-before : goal.invariant-loop-before
invariant-loop-before g l = let t = g.T.Technology in l.text ≡ l.initial.text ++ each_of (λ i. session_line i (first_length t.meaning (exports_of i l.journal))) l.before
