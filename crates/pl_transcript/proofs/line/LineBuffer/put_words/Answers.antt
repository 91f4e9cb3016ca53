use Rattle.std.proofs.Common.{rules, refl, ◌∙◌, ◌+◌, drop, map}
use Rattle.pl_transcript.specs.Words.{spaced}
use Rattle.pl_transcript.proofs.Flow.{grew_whole, stop_after, stop_before}
use Rattle.pl_transcript.proofs.Spaced.{words_more, words_at}
use Rattle.pl_transcript.proofs.line.LineBuffer.put_words.Goals as goal

pub returns-in_err-put_word-clause-written : goal.returns-in_err-put_word-clause-written
returns-in_err-put_word-clause-written g c = (
  search rules,
  stop_after _ _ _ _ _ _ _ _ c.loop-word.invariant.put (stop_before _ _ _ _ (spaced (map (λ word. word.now) (drop (c.loop-word.word-index + 1) c.args.words.now))) _ c.in_err-put_word.ensures.written.1 refl)
      (words_at (λ word. word.now) c.args.words.now c.loop-word.word-index _ c.loop-word-test.true),
)

pub loop-word-preserved : goal.loop-word-preserved
loop-word-preserved g c = record {
  put = grew_whole _ _ _ _ _ _ _ _ _ c.loop-word.invariant.put c.in_ok-put_word.ensures.written.0 (words_more (λ word. word.now) c.args.words.now c.loop-word.word-index _ c.loop-word-test.true);
  kept = c.in_ok-put_word.ensures.faults.1 ∙ c.loop-word.invariant.kept;
}
