use Rattle.std.proofs.Common.{◌≡◌, take}
use Rattle.std.specs.Io.KnownBytes.{Appends}
use Rattle.pl_transcript.specs.Entries.{entries_text}
use Rattle.pl_transcript.proofs.entries.put_transcript.Given as goal

abbrev pub invariant-loop-i : goal.invariant-loop-i
invariant-loop-i g l = record {
  put : Appends (g.K.Sink.held l.initial.sink) (g.K.Sink.held l.sink) (entries_text g.T.Technology.meaning 1 (take l.i l.journal));
  kept : g.K.Sink.faults l.sink ≡ g.K.Sink.faults l.initial.sink;
}
