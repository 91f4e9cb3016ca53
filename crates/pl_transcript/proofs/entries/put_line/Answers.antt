use Rattle.std.proofs.Common.{rules, ◌∷◌, [], ◌++◌}
use Rattle.std.specs.Fmt.{decimal}
use Rattle.pl_transcript.specs.Words.{spaced}
use Rattle.pl_transcript.specs.Entries.{actor_word, what_words}
use Rattle.pl_transcript.proofs.Flow.{writes_after, stop_before}
use Rattle.pl_transcript.proofs.Spaced.{line_parts}
use Rattle.pl_transcript.proofs.entries.put_line.Goals as goal

pub returns-in_err-put_head-clause-written : goal.returns-in_err-put_head-clause-written
returns-in_err-put_head-clause-written g c = (search rules, stop_before _ _ _ _ (spaced (what_words g.T.Technology.meaning c.args.entry.now.what) ++ 10 ∷ []) _ c.in_err-put_head.ensures.written.1 (line_parts (decimal c.args.n) (32 ∷ actor_word c.args.entry.now.actor) (spaced (what_words g.T.Technology.meaning c.args.entry.now.what))))

pub returns-clause-written : goal.returns-clause-written
returns-clause-written g c = writes_after c.put_tail.result _ _ _ _ _ _ _ _ _ c.in_ok-put_head.ensures.written.0 c.put_tail.ensures.written (line_parts (decimal c.args.n) (32 ∷ actor_word c.args.entry.now.actor) (spaced (what_words g.T.Technology.meaning c.args.entry.now.what)))
