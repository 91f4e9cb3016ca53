use Rattle.std.proofs.Common.{◌*◌, ◌/◌, ap, ◌∙◌}
use Rattle.pl_gcode.specs.Extrusion.{area_of}
use Rattle.pl_gcode.proofs.Shares.{share_is}
use Rattle.pl_gcode.proofs.filament.extruded.Goals as goal

pub returns-clause-value : goal.returns-clause-value
returns-clause-value c =
    ap (λ n. n / c.from.result) c.volume.ensures.value
    ∙ ap (λ n. c.args.len * 400 * c.args.height * c.args.percent / n) (c.from.ensures ∙ c.area-area.ensures.value)
    ∙ share_is c.args.len c.args.height c.args.percent (area_of c.args.diameter)
