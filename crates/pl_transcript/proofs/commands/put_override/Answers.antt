use Rattle.std.proofs.Common.{rules, sym, [], ◌∷◌, codes}
use Rattle.std.specs.Fmt.{decimal}
use Rattle.pl_transcript.specs.Words.{spaced}
use Rattle.pl_transcript.specs.Commands.{value_words}
use Rattle.pl_transcript.proofs.Flow.{writes_after, stop_before}
use Rattle.pl_transcript.proofs.Spaced.{spaced-append}
use Rattle.pl_transcript.proofs.commands.put_override.Goals as goal

pub returns-in_err-put_numbered-clause-written : goal.returns-in_err-put_numbered-clause-written
returns-in_err-put_numbered-clause-written g c = (
  search rules,
  stop_before _ _ _ _ (spaced (value_words c.args.value.now)) _ c.in_err-put_numbered.ensures.written.1 (sym (spaced-append (codes "override" ∷ decimal c.args.place ∷ c.args.key.now ∷ []) (value_words c.args.value.now))),
)

pub returns-clause-written : goal.returns-clause-written
returns-clause-written g c =
    writes_after c.put_value.result _ _ _ _ _ _ _ _ _ c.in_ok-put_numbered.ensures.written.0 c.put_value.ensures.written
    (sym (spaced-append (codes "override" ∷ decimal c.args.place ∷ c.args.key.now ∷ []) (value_words c.args.value.now)))
