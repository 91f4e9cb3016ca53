use Rattle.std.proofs.Common.{◌≡◌, rules}
use Rattle.std.specs.Fmt.{decimal}
use Rattle.pl_gcode.proofs.Heights.{opening_is}
use Rattle.pl_gcode.proofs.Written.{writes_as}
use Rattle.pl_gcode.proofs.gcode.put_opening.Goals as goal

pub returns : goal.returns
returns c =
    let b1 : c.bytes.result.now ≡ decimal c.args.settings.now.first_layer_bed_temperature = search rules in
    let b2 : c.bytes-2.result.now ≡ decimal c.args.settings.now.first_layer_temperature = search rules in
    let b3 : c.bytes-3.result.now ≡ decimal c.args.settings.now.first_layer_bed_temperature = search rules in
    let b4 : c.bytes-4.result.now ≡ decimal c.args.settings.now.first_layer_temperature = search rules in
    writes_as _ _ _ _ _ (rw (b1, b2, b3, b4) at c.append_pieces.ensures.text) (opening_is c.args.settings.now)
