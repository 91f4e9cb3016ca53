use Rattle.std.proofs.Common.{◌≡◌, take, map}
use Rattle.pl_transcript.specs.Words.{spaced}
use Rattle.pl_transcript.specs.Growth.{Grew}
use Rattle.pl_transcript.proofs.line.LineBuffer.put_words.Given as goal

abbrev pub invariant-loop-word : goal.invariant-loop-word
invariant-loop-word g l = record {
  put : Grew (g.K.Sink.held l.initial.sink) l.initial.self (g.K.Sink.held l.sink) l.self (spaced (map (λ word. word.now) (take l.word-index l.words)));
  kept : g.K.Sink.faults l.sink ≡ g.K.Sink.faults l.initial.sink;
}
