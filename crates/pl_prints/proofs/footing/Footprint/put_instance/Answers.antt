use Rattle.std.proofs.Common.{FitsSigned, w32, rules}
use Rattle.std.proofs.lemmas.Int.{to_z-of_z}
use Rattle.pl_fill.specs.Surfaces.{layer_at}
use Rattle.pl_prints.specs.Footprints.{Footprint}
use Rattle.pl_prints.proofs.FootLemmas.{still_bed, instance_put}
use Rattle.pl_prints.proofs.footing.Footprint.put_instance.Goals as goal

pub put_first-requires-2-clause-floor : goal.put_first-requires-2-clause-floor
put_first-requires-2-clause-floor c = still_bed c.args.floor.now c.put_first.new.floor (layer_at c.self.inside.slices.now 0) _ _ c.requires.floor c.put_first.ensures

pub returns : goal.returns
returns c =
    let fits_x : FitsSigned w32 c.bed_cell-x.result = search rules in
    let fits_y : FitsSigned w32 c.bed_cell-y.result = search rules in
    let seen : Footprint = record { slice = layer_at c.self.inside.slices.now 0; support = layer_at c.self.inside.supports.now 0; instances = c.self.inside.instances.now } in
    instance_put seen c.args.self.now c.args.shift.now _ _ c.args.floor.now c.put_first.new.floor c.put_first-2.new.floor c.self.view_is (simp to_z-of_z c.bed_cell-x.ensures) (simp to_z-of_z c.bed_cell-y.ensures) c.requires.floor.bounds c.put_first.ensures c.put_first-2.ensures
