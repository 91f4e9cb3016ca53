use Rattle.std.proofs.Common.{◌∷◌, [], ◌++◌, ◌∙◌, ap, arith}
use Rattle.pl_options.specs.KeyMap.{KeyMap}
use Rattle.pl_prints.specs.Layers.{layers_in}
use Rattle.pl_prints.specs.Heights.{of_object}
use Rattle.pl_prints.proofs.PlaceLemmas.{gives_step, gives_all}
use Rattle.pl_prints.proofs.used.all_layers.Goals as goal

pub loop-place-preserved : goal.loop-place-preserved
loop-place-preserved c = (
  omega (arith, c.loop-place.invariant.0, c.in_ok-put_layers.ensures.few),
  gives_step (λ object. layers_in c.args.plate.now.config object ∷ []) c.places-place-items.result.now c.args.plate.now.places c.loop-place.place-index c.place-item.result c.place-item.result c.loop-place.layers.items c.put_layers.new.layers.items
      c.places-place-items.ensures.places c.loop-place-test.true c.place-item.is c.loop-place.invariant.1
      (c.in_ok-put_layers.ensures.layers ∙ ap (λ (config : KeyMap). c.loop-place.layers.items ++ of_object (λ object. layers_in config object ∷ []) c.place-item.result) c.config.ensures),
)

pub returns-clause-few : goal.returns-clause-few
returns-clause-few c = omega (arith, c.loop-place.invariant.0, c.places-place-items.ensures.kept.sixteen)

pub returns-clause-layers : goal.returns-clause-layers
returns-clause-layers c = gives_all (layers_in c.args.plate.now.config) c.places-place-items.result.now c.args.plate.now.places c.loop-place.place-index c.loop-place.layers.items c.places-place-items.ensures.places c.loop-place-test.false c.loop-place.invariant.1
