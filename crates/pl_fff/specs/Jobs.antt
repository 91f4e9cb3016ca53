-- What jobs make, and how often they ask their probe: a slot's result by the results that it needs.
use Rattle.std.specs.Prelude.{ℕ, List, length, map}
use Rattle.pl_layers.specs.Heights.{layer_count_of}
use Rattle.pl_adhesion.specs.Skirt.{skirt_of}
use Rattle.pl_adhesion.specs.Brim.{brim_of}
use Rattle.pl_tower.specs.Heights.{tools_along}
use Rattle.pl_gcode.specs.Gcode.{gcode_of}
use Rattle.pl_support.specs.Support.{support_of}
use Rattle.pl_values.specs.PrintValues.{tool_set_of}
use Rattle.pl_steps.specs.Layers.{each, slices_of, loops_in, inner_of, surfaces_at, infill_at, ironing_at}
use Rattle.pl_prints.specs.Layers.{has_printed}
use Rattle.pl_prints.specs.Heights.{heights_in}
use Rattle.pl_prints.specs.Footprints.{footing_of}
use Rattle.pl_parts.specs.Parts.{PrintData, print_from}
use Rattle.pl_batches.specs.Batches.{batches_of}
use Rattle.pl_slots.specs.declared.output.FffOutput.{FffOutput}
use Rattle.pl_slots.specs.declared.output.FffOutput.TheVariants.{Slices, Perimeters, Surfaces, Strokes, Support, Tower, Loops, Gcode}
use Rattle.pl_slots.specs.ObjectSteps.{support_set_on}
use Rattle.pl_fff.specs.Held.{planes_in, inner_in, surfaces_in, export_data}
use Rattle.pl_fff.specs.declared.job.SliceJob.{SliceJob}
use Rattle.pl_fff.specs.declared.job.PerimetersJob.{PerimetersJob}
use Rattle.pl_fff.specs.declared.job.PrepareJob.{PrepareJob}
use Rattle.pl_fff.specs.declared.job.InfillJob.{InfillJob}
use Rattle.pl_fff.specs.declared.job.IroningJob.{IroningJob}
use Rattle.pl_fff.specs.declared.job.SupportJob.{SupportJob}
use Rattle.pl_fff.specs.declared.job.TowerJob.{TowerJob}
use Rattle.pl_fff.specs.declared.job.SkirtJob.{SkirtJob}
use Rattle.pl_fff.specs.declared.job.BrimJob.{BrimJob}
use Rattle.pl_fff.specs.declared.job.ExportJob.{ExportJob}
use Rattle.pl_fff.specs.declared.job.FffJob.{FffJob}
use Rattle.pl_fff.specs.declared.job.FffJob.TheVariants as jobs

-- ---- of an object

abbrev pub slice_value : SliceJob → FffOutput
slice_value job = Slices (record { heights = job.heights; planes = slices_of job.mesh job.quarter job.heights })

abbrev pub perimeters_value : PerimetersJob → FffOutput
perimeters_value job = Perimeters (record { loops = map (loops_in job.count) (planes_in job.slices); inner = inner_of job.count (planes_in job.slices) })

abbrev pub prepare_value : PrepareJob → FffOutput
prepare_value job = Surfaces (each (length (inner_in job.perimeters)) (surfaces_at (planes_in job.slices) (inner_in job.perimeters) job.top job.bottom))

abbrev pub infill_value : InfillJob → FffOutput
infill_value job = Strokes (each (length (surfaces_in job.surfaces)) (infill_at (surfaces_in job.surfaces) job.density))

abbrev pub ironing_value : IroningJob → FffOutput
ironing_value job = Strokes (each (length (surfaces_in job.surfaces)) (ironing_at job.on (surfaces_in job.surfaces)))

abbrev pub support_value : SupportJob → FffOutput
support_value job = Support (support_set_on (support_of job.on job.plate_only (planes_in job.slices)))

-- ---- of the print

abbrev pub tower_value : TowerJob → FffOutput
tower_value job = Tower (record {
  heights = heights_in job.objects.items;
  tools = tools_along 0 (map (λ top. tool_set_of (has_printed job.objects.items top.0)) (heights_in job.objects.items));
  blocks = job.blocks;
})

abbrev pub skirt_value : SkirtJob → FffOutput
skirt_value job = Loops (skirt_of (footing_of job.feet.items) job.distance job.count)

abbrev pub brim_value : BrimJob → FffOutput
brim_value job = Loops (brim_of (footing_of job.feet.items) job.width)

-- the lists that are written
abbrev pub exported : ExportJob → PrintData
exported job = export_data job.config job.tower job.skirt job.brim job.objects.items

abbrev pub export_value : ExportJob → FffOutput
export_value job = Gcode (gcode_of (print_from (exported job)))

-- ---- of any slot

-- what a job makes
abbrev pub job_value : FffJob → FffOutput
job_value (jobs.Slice job) = slice_value job
job_value (jobs.Perimeters job) = perimeters_value job
job_value (jobs.Prepare job) = prepare_value job
job_value (jobs.Infill job) = infill_value job
job_value (jobs.Ironing job) = ironing_value job
job_value (jobs.Support job) = support_value job
job_value (jobs.Tower job) = tower_value job
job_value (jobs.Skirt job) = skirt_value job
job_value (jobs.Brim job) = brim_value job
job_value (jobs.Export job) = export_value job

-- how often it asks its probe before it is done
abbrev pub job_polls : FffJob → ℕ
job_polls (jobs.Slice job) = batches_of (layer_count_of job.heights job.mesh)
job_polls (jobs.Perimeters job) = batches_of (length (planes_in job.slices))
job_polls (jobs.Prepare job) = batches_of (length (inner_in job.perimeters))
job_polls (jobs.Infill job) = batches_of (length (surfaces_in job.surfaces))
job_polls (jobs.Ironing job) = batches_of (length (surfaces_in job.surfaces))
job_polls (jobs.Support job) = batches_of (length (planes_in job.slices))
job_polls (jobs.Tower job) = batches_of (length (heights_in job.objects.items))
job_polls (jobs.Skirt job) = 1
job_polls (jobs.Brim job) = 1
job_polls (jobs.Export job) = batches_of (length (exported job).heights)

-- a job that slices: no other holds a mesh
abbrev pub HoldsMesh : FffJob → Type 0
HoldsMesh (jobs.Slice job) = Unit {0}
HoldsMesh _ = ⊥
