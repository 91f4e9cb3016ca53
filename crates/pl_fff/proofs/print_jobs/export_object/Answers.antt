use Rattle.pl_fff.proofs.PrintResults.{object_is}
use Rattle.pl_fff.proofs.print_jobs.export_object.Goals as goal

pub returns : goal.returns
returns c =
    object_is c.args.one.now.config.now c.args.one.now.object.now c.in_ok-corners.corners.items c.of.result c.in_ok-perimeters.perimeters c.in_ok-infill.infill c.in_ok-ironing.ironing c.in_ok-support.support
    c.in_ok-corners.ensures c.of.ensures c.in_ok-perimeters.ensures c.in_ok-infill.ensures c.in_ok-ironing.ensures c.in_ok-support.ensures
