use Rattle.std.proofs.Common.{refl}
use Rattle.std.proofs.lemmas.Result.{err_from_is_err_and}
use Rattle.pl_gcode.specs.Gcode.{name_line, layer_text}
use Rattle.pl_gcode.proofs.Written.{written_none, written_err}
use Rattle.pl_gcode.proofs.object.put_instance.Goals as goal

pub returns-in_err-put_name : goal.returns-in_err-put_name
returns-in_err-put_name g c =
    let p = err_from_is_err_and c.from_residual.result c.from_residual.ensures.1 in
    written_err _ _ _ _ _ (name_line c.args.place c.args.number) (layer_text (g.P.Parts.print c.args.parts.now) c.args.place c.args.k c.args.by.now) _ _ p.1 (written_none _ _ _ refl) c.in_err-put_name.ensures refl
