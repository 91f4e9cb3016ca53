use Rattle.std.proofs.Common.{arith}
use Rattle.pl_prints.proofs.PlaceLemmas.{places_more, places_all}
use Rattle.pl_prints.proofs.heights.places.Goals as goal

pub loop-place-preserved : goal.loop-place-preserved
loop-place-preserved c = places_more c.places-filled.result.now c.loop-place.place c.loop-place.places.items c.put_place.new.places.items c.loop-place.invariant c.in_ok-put_place.ensures

pub returns : goal.returns
returns c = places_all c.args.plate.now.places c.places-filled.result.now c.loop-place.place c.loop-place.places.items c.places-filled.ensures.places (omega (arith, c.places-filled.ensures.kept.sixteen)) c.loop-place.invariant
