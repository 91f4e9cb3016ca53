use Rattle.std.proofs.Common.{◌≡◌, ◌≤◌, length, refl, sym, ◌∙◌, arith}
use Rattle.std.specs.Prelude.{None}
use Rattle.pl_model.proofs.Printing.{told_result}
use Rattle.pl_fff.proofs.Needed.{kept_for_skirt, kept_for_brim, kept_for_export, tower_kept, skirt_kept, brim_kept, few_places, value_of_print, batches_of_print}
use Rattle.pl_fff.proofs.slot_jobs.job_of_print.Goals as goal

pub skirt_job-requires-clause-printable : goal.skirt_job-requires-clause-printable
skirt_job-requires-clause-printable c = told_result c.args.plate.now None (sym c.requires.no_problem)

pub skirt_job-requires-clause-slices : goal.skirt_job-requires-clause-slices
skirt_job-requires-clause-slices c = kept_for_skirt c.args.plate.now c.args.kept.now c.args.slot c.requires.needed (sym c.number.ensures.value ∙ c.in-97.is) 0 (omega arith) refl

pub skirt_job-requires-clause-support : goal.skirt_job-requires-clause-support
skirt_job-requires-clause-support c = kept_for_skirt c.args.plate.now c.args.kept.now c.args.slot c.requires.needed (sym c.number.ensures.value ∙ c.in-97.is) 5 (omega arith) refl

pub brim_job-requires-clause-printable : goal.brim_job-requires-clause-printable
brim_job-requires-clause-printable c = told_result c.args.plate.now None (sym c.requires.no_problem)

pub brim_job-requires-clause-slices : goal.brim_job-requires-clause-slices
brim_job-requires-clause-slices c = kept_for_brim c.args.plate.now c.args.kept.now c.args.slot c.requires.needed (sym c.number.ensures.value ∙ c.in-98.is) 0 (omega arith) refl

pub brim_job-requires-clause-support : goal.brim_job-requires-clause-support
brim_job-requires-clause-support c = kept_for_brim c.args.plate.now c.args.kept.now c.args.slot c.requires.needed (sym c.number.ensures.value ∙ c.in-98.is) 5 (omega arith) refl

pub export_job-requires-clause-printable : goal.export_job-requires-clause-printable
export_job-requires-clause-printable c = told_result c.args.plate.now None (sym c.requires.no_problem)

pub export_job-requires-clause-perimeters : goal.export_job-requires-clause-perimeters
export_job-requires-clause-perimeters c = kept_for_export c.args.plate.now c.args.kept.now c.args.slot c.requires.needed (omega (arith, c.number.ensures.value, c.number.ensures.in_range, c.requires.print, c.in_default)) 1 (omega arith)

pub export_job-requires-clause-infill : goal.export_job-requires-clause-infill
export_job-requires-clause-infill c = kept_for_export c.args.plate.now c.args.kept.now c.args.slot c.requires.needed (omega (arith, c.number.ensures.value, c.number.ensures.in_range, c.requires.print, c.in_default)) 3 (omega arith)

pub export_job-requires-clause-ironing : goal.export_job-requires-clause-ironing
export_job-requires-clause-ironing c = kept_for_export c.args.plate.now c.args.kept.now c.args.slot c.requires.needed (omega (arith, c.number.ensures.value, c.number.ensures.in_range, c.requires.print, c.in_default)) 4 (omega arith)

pub export_job-requires-clause-support : goal.export_job-requires-clause-support
export_job-requires-clause-support c = kept_for_export c.args.plate.now c.args.kept.now c.args.slot c.requires.needed (omega (arith, c.number.ensures.value, c.number.ensures.in_range, c.requires.print, c.in_default)) 5 (omega arith)

pub export_job-requires-clause-tower : goal.export_job-requires-clause-tower
export_job-requires-clause-tower c = tower_kept c.args.plate.now c.args.kept.now c.args.slot c.requires.needed (omega (arith, c.number.ensures.value, c.number.ensures.in_range, c.requires.print, c.in_default)) (few_places c.args.plate.now c.places-sixteen.result.now c.places-sixteen.ensures.places c.places-sixteen.ensures.kept 96 6 refl (omega arith))

pub export_job-requires-clause-skirt : goal.export_job-requires-clause-skirt
export_job-requires-clause-skirt c = skirt_kept c.args.plate.now c.args.kept.now c.args.slot c.requires.needed (omega (arith, c.number.ensures.value, c.number.ensures.in_range, c.requires.print, c.in_default)) (few_places c.args.plate.now c.places-sixteen.result.now c.places-sixteen.ensures.places c.places-sixteen.ensures.kept 96 6 refl (omega arith))

pub export_job-requires-clause-brim : goal.export_job-requires-clause-brim
export_job-requires-clause-brim c = brim_kept c.args.plate.now c.args.kept.now c.args.slot c.requires.needed (omega (arith, c.number.ensures.value, c.number.ensures.in_range, c.requires.print, c.in_default)) (few_places c.args.plate.now c.places-sixteen.result.now c.places-sixteen.ensures.places c.places-sixteen.ensures.kept 96 6 refl (omega arith))

pub returns-in-96-clause-value : goal.returns-in-96-clause-value
returns-in-96-clause-value c = value_of_print c.args.plate.now c.places-sixteen.result.now c.places-sixteen.ensures.places c.places-sixteen.ensures.kept c.args.slot 6 (sym c.number.ensures.value ∙ c.in-96.is) (omega arith) c.tower_job.result c.tower_job.ensures.value

pub returns-in-97-clause-value : goal.returns-in-97-clause-value
returns-in-97-clause-value c = value_of_print c.args.plate.now c.places-sixteen.result.now c.places-sixteen.ensures.places c.places-sixteen.ensures.kept c.args.slot 7 (sym c.number.ensures.value ∙ c.in-97.is) (omega arith) c.skirt_job.result c.skirt_job.ensures.value

pub returns-in-98-clause-value : goal.returns-in-98-clause-value
returns-in-98-clause-value c = value_of_print c.args.plate.now c.places-sixteen.result.now c.places-sixteen.ensures.places c.places-sixteen.ensures.kept c.args.slot 8 (sym c.number.ensures.value ∙ c.in-98.is) (omega arith) c.brim_job.result c.brim_job.ensures.value

pub returns-in-96-clause-polls : goal.returns-in-96-clause-polls
returns-in-96-clause-polls c = batches_of_print c.args.plate.now c.places-sixteen.result.now c.places-sixteen.ensures.places c.places-sixteen.ensures.kept c.args.slot 6 (sym c.number.ensures.value ∙ c.in-96.is) (omega arith) c.tower_job.result c.tower_job.ensures.polls

pub returns-in_default-clause-value : goal.returns-in_default-clause-value
returns-in_default-clause-value c = value_of_print c.args.plate.now c.places-sixteen.result.now c.places-sixteen.ensures.places c.places-sixteen.ensures.kept c.args.slot 9 (omega (arith, c.number.ensures.value, c.number.ensures.in_range, c.requires.print, c.in_default)) (omega arith) c.export_job.result c.export_job.ensures.value

pub returns-in_default-clause-polls : goal.returns-in_default-clause-polls
returns-in_default-clause-polls c = batches_of_print c.args.plate.now c.places-sixteen.result.now c.places-sixteen.ensures.places c.places-sixteen.ensures.kept c.args.slot 9 (omega (arith, c.number.ensures.value, c.number.ensures.in_range, c.requires.print, c.in_default)) (omega arith) c.export_job.result c.export_job.ensures.polls
