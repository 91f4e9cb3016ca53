use Rattle.std.proofs.Common.{◌≡◌, ◌≤◌, ◌-◌, ◌∙◌, arith, ap, drop}
use Rattle.pl_units.proofs.DecimalTexts.{places_more, rest_more}
use Rattle.pl_units.proofs.decimal.+put_places.Goals as goal

pub returns-clause-rest : goal.returns-clause-rest
returns-clause-rest t c = c.put_places.ensures.rest ∙ rest_more c.args.places c.args.number (omega (arith, c.if-places-eq0.false))

pub returns-clause-text : goal.returns-clause-text
returns-clause-text t c =
    let some : 1 ≤ c.args.places = omega (arith, c.if-places-eq0.false) in
    let at : c.args.end - c.args.places ≡ c.args.end - 1 - (c.args.places - 1) = omega (arith, some, c.requires.room) in
    ap (λ i. drop i c.put_places.new.out) at ∙ c.put_places.ensures.text ∙ places_more c.args.out.now c.args.number c.args.places c.args.end some (omega (arith, some, c.requires.room)) c.requires.place
