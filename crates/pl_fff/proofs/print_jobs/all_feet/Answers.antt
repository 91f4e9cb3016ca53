use Rattle.std.proofs.Common.{[], ◌∷◌, ◌++◌, ◌∙◌, ap}
use Rattle.pl_options.specs.KeyMap.{KeyMap}
use Rattle.pl_prints.specs.Footprints.{footprint_in}
use Rattle.pl_prints.specs.Heights.{of_object}
use Rattle.pl_prints.proofs.PlaceLemmas.{gives_step, gives_all}
use Rattle.pl_fff.proofs.print_jobs.all_feet.Goals as goal

pub loop-number-preserved : goal.loop-number-preserved
loop-number-preserved c =
    gives_step (λ object. footprint_in c.args.plate.now.config object ∷ []) c.places-place-items.result.now c.args.plate.now.places c.loop-number.number c.place-item.result c.place-item.result c.loop-number.feet.items c.put_foot.new.feet.items
    c.places-place-items.ensures.places c.loop-number-test.true c.place-item.is c.loop-number.invariant
    (c.in_ok-put_foot.ensures ∙ ap (λ (config : KeyMap). c.loop-number.feet.items ++ of_object (λ object. footprint_in config object ∷ []) c.place-item.result) c.config.ensures)

pub returns : goal.returns
returns c =
    gives_all (footprint_in c.args.plate.now.config) c.places-place-items.result.now c.args.plate.now.places c.loop-number.number c.loop-number.feet.items c.places-place-items.ensures.places c.loop-number-test.false c.loop-number.invariant
