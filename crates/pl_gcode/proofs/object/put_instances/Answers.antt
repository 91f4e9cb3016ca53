use Rattle.std.proofs.Common.{ap}
use Rattle.std.specs.List.{flat_map, enumerate_from}
use Rattle.std.proofs.lemmas.Result.{err_from_is_err_and}
use Rattle.pl_gcode.specs.Gcode.{instance_text}
use Rattle.pl_gcode.proofs.Written.{written_as, written_err, enumerate_next}
use Rattle.pl_gcode.proofs.object.put_instances.Goals as goal

pub returns-in_err-put_instance : goal.returns-in_err-put_instance
returns-in_err-put_instance g c =
    let text = instance_text (g.P.Parts.print c.args.parts.now) c.args.place c.args.k in
    let p = err_from_is_err_and c.from_residual.result c.from_residual.ensures.1 in
    written_err _ _ _ _ _ _ _ _ _ p.1 (written_as _ _ _ _ _ c.loop-by.invariant.written (ap (λ l. flat_map text (enumerate_from 0 l)) c.instances-by-items.ensures)) c.in_err-put_instance.ensures
    (enumerate_next text c.instances-by-items.result.now c.loop-by.by-index c.loop-by.number _ c.loop-by-test.true c.loop-by.invariant.numbered)
