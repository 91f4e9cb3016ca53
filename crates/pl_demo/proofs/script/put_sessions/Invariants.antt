use Rattle.std.proofs.Common.{◌≡◌, ◌++◌}
use Rattle.pl_demo.specs.Numbers.{each_of}
use Rattle.pl_demo.specs.Script.{session_text}
use Rattle.pl_demo.proofs.script.put_sessions.Given as goal

abbrev pub invariant-loop-before : goal.invariant-loop-before
invariant-loop-before l = l.text ≡ l.initial.text ++ each_of (session_text l.n) l.before
