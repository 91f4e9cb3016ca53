use Rattle.std.proofs.lemmas.Result.{err_from_is_err_and}
use Rattle.pl_script.proofs.Stopped.{refuses_mapped}
use Rattle.pl_script.proofs.read.with_commands.Goals as goal

pub returns-in_err-lines : goal.returns-in_err-lines
returns-in_err-lines c =
    let p = err_from_is_err_and c.from_residual.result c.from_residual.ensures.1 in
    rw (p.1, p.2) (refuses_mapped c.in_err-lines.field-0.0 _ _ (refuses_mapped c.in_err-lines.field-0.0 _ _ c.in_err-lines.ensures.lines))
