use Rattle.std.proofs.Common.{◌∙◌, sym}
use Rattle.pl_fff.proofs.PrintResults.{held, is_print, filled_are, few_are, export_is}
use Rattle.pl_fff.proofs.print_jobs.export_job.Goals as goal

pub invariant_of-result : goal.invariant_of-result
invariant_of-result c =
    let plate = c.args.plate.now in
    let config = c.in_ok-config.ensures ∙ c.config.ensures in
    let tower = held _ _ (sym c.in_ok-tower.ensures ∙ c.requires.tower) in
    let skirt = held _ _ (sym c.in_ok-skirt.ensures ∙ c.requires.skirt) in
    let brim = held _ _ (sym c.in_ok-brim.ensures ∙ c.requires.brim) in
    record {
      print = is_print plate c.in_ok-config.config c.in_ok-tower.tower c.in_ok-skirt.skirt c.in_ok-brim.brim c.in_ok-objects.objects.items config tower skirt brim c.in_ok-objects.ensures c.in_range.ensures c.few_heights.ensures c.requires.sixteen;
      filled = filled_are plate c.in_ok-config.config c.in_ok-tower.tower c.in_ok-skirt.skirt c.in_ok-brim.brim c.in_ok-objects.objects.items config tower skirt brim c.in_ok-objects.ensures c.in_ok-places.places.items c.in_ok-places.ensures;
      few = few_are plate c.in_ok-config.config c.in_ok-tower.tower c.in_ok-skirt.skirt c.in_ok-brim.brim c.in_ok-objects.objects.items config tower skirt brim c.in_ok-objects.ensures c.few_heights.ensures;
    }

pub returns-clause-value : goal.returns-clause-value
returns-clause-value c =
    let tower = held _ _ (sym c.in_ok-tower.ensures ∙ c.requires.tower) in
    let skirt = held _ _ (sym c.in_ok-skirt.ensures ∙ c.requires.skirt) in
    let brim = held _ _ (sym c.in_ok-brim.ensures ∙ c.requires.brim) in
    export_is c.args.plate.now c.in_ok-config.config c.in_ok-tower.tower c.in_ok-skirt.skirt c.in_ok-brim.brim c.in_ok-objects.objects.items (c.in_ok-config.ensures ∙ c.config.ensures) tower skirt brim c.in_ok-objects.ensures
