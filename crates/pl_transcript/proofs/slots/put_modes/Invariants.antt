use Rattle.std.proofs.Common.{◌≡◌}
use Rattle.pl_transcript.specs.Growth.{Grew}
use Rattle.pl_transcript.specs.Replies.{slot_word}
use Rattle.pl_transcript.proofs.Spaced.{slot_words}
use Rattle.pl_transcript.proofs.slots.put_modes.Given as goal

abbrev pub invariant-loop-n : goal.invariant-loop-n
invariant-loop-n g l = record {
  put : Grew (g.K.Sink.held l.initial.sink) l.initial.line (g.K.Sink.held l.sink) l.line (slot_words (slot_word g.T.Technology.meaning l.started l.finished) l.present 0 l.n);
  kept : g.K.Sink.faults l.sink ≡ g.K.Sink.faults l.initial.sink;
}
