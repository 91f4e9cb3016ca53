use Rattle.std.proofs.Common.{sym, ◌∙◌, arith}
use Rattle.pl_fff.proofs.ObjectResults.{inner_boxed}
use Rattle.pl_fff.proofs.object_jobs.prepare_job.Goals as goal

pub invariant_of-result : goal.invariant_of-result
invariant_of-result c = record {
  boxes = inner_boxed c.args.one.now.config.now c.args.one.now.object.now c.in_ok-slices.slices c.in_ok-perimeters.perimeters c.in_ok-slices.ensures.value c.in_ok-perimeters.ensures.value;
  lengths = c.in_ok-slices.ensures.layers ∙ sym c.in_ok-perimeters.ensures.layers;
  few = omega (arith, c.in_ok-perimeters.ensures.layers, c.options-options.ensures.few);
}
