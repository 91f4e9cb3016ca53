use Rattle.std.proofs.Common.{◌==◌, ◌∙◌, ap, length, take, unwrap_or}
use Rattle.pl_keys.specs.Trim.{without_white_after}
use Rattle.pl_keys.proofs.Commas.{first_or_end}
use Rattle.pl_keys.proofs.read.before_comma.Goals as goal

pub returns-clause-numeral : goal.returns-clause-numeral
returns-clause-numeral c =
    let end = c.unwrap_or-end.ensures ∙ ap (λ place. unwrap_or place (length c.args.text.now)) c.comma_of.ensures ∙ first_or_end (λ b. b == 44) c.args.text.now in
    c.trim_end.ensures ∙ ap (λ n. without_white_after (take n c.args.text.now)) end
