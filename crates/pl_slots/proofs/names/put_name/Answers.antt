use Rattle.std.proofs.Common.{◌≡◌, ◌/◌, ◌<◌, ap, ◌∙◌, arith}
use Rattle.std.specs.Fmt.{decimal}
use Rattle.pl_slots.proofs.NameLaws.{object_name_fits}
use Rattle.pl_slots.proofs.names.put_name.Goals as goal

pub put_both-requires : goal.put_both-requires
put_both-requires c =
    let place : c.bytes.result.now ≡ decimal (c.number-number.result / 6) = c.bytes.ensures ∙ c.whole-place.ensures ∙ ap decimal c.from.ensures in
    let low : c.number-number.result < 96 = omega arith in
    rw (place, c.object_step.ensures) (object_name_fits c.number-number.result low)
