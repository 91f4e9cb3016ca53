-- The sessions of a script's lines.
use Rattle.std.proofs.Common.{ℕ, ◌+◌, List, length, All}
use Rattle.std.proofs.lemmas.List.Elements.{All-nil, All-push, All-weaker}
use Rattle.pl_script.specs.declared.script.Line.{Line}
use Rattle.pl_script.specs.Script.{Script}
use Rattle.pl_script.specs.Kept.{IsSession, IsLine}
use Rattle.pl_script.specs.Grammar.{IsBeginning, head, passed, workers, block, command}
use Rattle.pl_script.proofs.Keeping.{some_fact}
use Rattle.pl_script.proofs.KeptOrders.{session_range}
use Rattle.pl_script.proofs.Rounds.{IsOfSession, AreOfSessions}

pub each_of : (lines : List Line) → All IsLine lines → AreOfSessions lines
each_of lines h = All-weaker IsLine IsOfSession (λ line is. is.session) lines h

pub said_sessions : (lines : List (List ℕ)) (script : Script) → IsBeginning lines script → AreOfSessions script.lines
said_sessions _ _ (head line h) = All-nil IsOfSession
said_sessions _ _ (passed before script line h e) = said_sessions before script h
said_sessions _ _ (workers before script line number h sets is) = said_sessions before script h
said_sessions _ _ (block before script part data_block h none is new) = said_sessions before script h
said_sessions _ _ (command before script line session order h other is few) =
    All-push IsOfSession script.lines (record { number = length before + 1; session = session; command = order }) (said_sessions before script h)
    (some_fact IsSession _ session is.session_is (session_range is.first))
