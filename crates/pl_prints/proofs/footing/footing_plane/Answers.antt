use Rattle.std.proofs.Common.{false}
use Rattle.pl_prints.specs.Footprints.{covers}
use Rattle.pl_prints.proofs.FootLemmas.{made_bed, stands_more}
use Rattle.pl_prints.proofs.footing.footing_plane.Goals as goal

pub put-requires-clause-floor : goal.put-requires-clause-floor
put-requires-clause-floor c = made_bed c.loop-footprint.plane _ c.loop-footprint.invariant

pub loop-footprint-preserved : goal.loop-footprint-preserved
loop-footprint-preserved c =
    stands_more covers (λ _ _. false) c.args.footprints.now c.loop-footprint.footprint-index c.footprint-item.result c.loop-footprint.plane c.put.new.floor c.loop-footprint-test.true c.footprint-item.is c.loop-footprint.invariant c.put.ensures
