use Rattle.std.proofs.Common.{rules, sym, codes, ◌∷◌}
use Rattle.pl_transcript.specs.Words.{spaced}
use Rattle.pl_transcript.specs.Commands.{command_words}
use Rattle.pl_transcript.specs.Replies.{reply_words}
use Rattle.pl_transcript.proofs.Flow.{writes_after, stop_before}
use Rattle.pl_transcript.proofs.Spaced.{spaced-append}
use Rattle.pl_transcript.proofs.entries.put_call.Goals as goal

pub returns-in_err-put_command-clause-written : goal.returns-in_err-put_command-clause-written
returns-in_err-put_command-clause-written g c = (search rules, stop_before _ _ _ _ (spaced (codes "=" ∷ reply_words g.T.Technology.meaning c.args.reply.now)) _ c.in_err-put_command.ensures.written.1 (sym (spaced-append (command_words c.args.command.now) (codes "=" ∷ reply_words g.T.Technology.meaning c.args.reply.now))))

pub returns-clause-written : goal.returns-clause-written
returns-clause-written g c = writes_after c.put_answer.result _ _ _ _ _ _ _ _ _ c.in_ok-put_command.ensures.written.0 c.put_answer.ensures.written (sym (spaced-append (command_words c.args.command.now) (codes "=" ∷ reply_words g.T.Technology.meaning c.args.reply.now)))
