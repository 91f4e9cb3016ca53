use Rattle.std.specs.Option.{option_map}
use Rattle.pl_whole.specs.Printed.{footprint_of}
use Rattle.pl_whole.proofs.ObjectLemmas.{none_of, some_of, passed, put}
use Rattle.pl_whole.proofs.objects.footprints.Goals as goal

pub loop-place-preserved-in_default : goal.loop-place-preserved-in_default
loop-place-preserved-in_default c =
    passed (option_map footprint_of) c.args.objects.now c.loop-place.place-index c.place-item.result c.place-item.result c.loop-place.footprints.items c.loop-place-test.true c.place-item.is c.loop-place.invariant
    (none_of footprint_of c.place-item.result c.in_default.not-Some)

pub loop-place-preserved : goal.loop-place-preserved
loop-place-preserved c =
    put (option_map footprint_of) c.args.objects.now c.loop-place.place-index c.place-item.result c.place-item.result c.loop-place.footprints.items c.push.new.self.items c.footprint.result c.loop-place-test.true c.place-item.is c.loop-place.invariant
    (some_of footprint_of c.place-item.result c.in-Some.object c.footprint.result c.in-Some.is c.footprint.ensures) c.in_ok-push.ensures.items
