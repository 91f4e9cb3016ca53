use Rattle.std.proofs.Common.{◌-◌, ◌/◌, ◌^◌, ◌∷◌, ◌++◌, ◌∙◌, arith, ap, length, drop}
use Rattle.std.specs.Fmt.{decimal}
use Rattle.std.proofs.Math.Nat.{div-le_self}
use Rattle.pl_units.proofs.DecimalTexts.{put_back, whole_room, sized}
use Rattle.pl_units.proofs.decimal.put_size.Goals as goal

pub put_whole-requires-clause-room : goal.put_whole-requires-clause-room
put_whole-requires-clause-room c =
    omega (arith, ap (λ n. length (decimal n)) c.put_places-whole.ensures.rest, whole_room (c.args.size / 10 ^ c.args.places) (omega (arith, div-le_self c.args.size (10 ^ c.args.places), c.ranges.size.fits)), c.requires.room, c.requires.places)

pub returns-clause-low : goal.returns-clause-low
returns-clause-low c =
    omega (arith, ap (λ n. length (decimal n)) c.put_places-whole.ensures.rest, whole_room (c.args.size / 10 ^ c.args.places) (omega (arith, div-le_self c.args.size (10 ^ c.args.places), c.ranges.size.fits)), c.requires.room, c.requires.places, c.put_whole.ensures.start)

pub returns-clause-high : goal.returns-clause-high
returns-clause-high c = omega (arith, c.requires.room, c.requires.places, c.put_whole.ensures.start)

pub returns-clause-text : goal.returns-clause-text
returns-clause-text c =
    let point = put_back c.put_places-whole.new.out (c.args.end - c.args.places) 46 (omega (arith, c.requires.room, c.requires.places)) (omega (arith, c.requires.place)) in
    c.put_whole.ensures.text ∙ ap (λ l. decimal c.put_places-whole.result ++ l) (point ∙ ap (λ l. 46 ∷ l) c.put_places-whole.ensures.text)
    ∙ sized c.put_places-whole.result c.args.size c.args.places (drop c.args.end c.args.out.now) c.put_places-whole.ensures.rest
