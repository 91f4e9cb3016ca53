use Rattle.std.proofs.Common.{◌≡◌, List, length, sym, ap, subst, arith}
use Rattle.std.specs.List.{All}
use Rattle.pl_grid.specs.Planes.{filled}
use Rattle.pl_model.specs.declared.instances.Shift.{Shift}
use Rattle.pl_prints.specs.Footprints.{Footprint, IsPlaced, stands_at}
use Rattle.pl_prints.proofs.FootLemmas.{made_bed, stands_none, stands_step, stands_all}
use Rattle.pl_prints.proofs.footing.Footprint.put.Goals as goal

pub loop-shift-init : goal.loop-shift-init
loop-shift-init c = stands_none (stands_at c.args.self.now) c.args.self.now.instances c.args.floor.now c.requires.floor

pub put_instance-requires-clause-floor : goal.put_instance-requires-clause-floor
put_instance-requires-clause-floor c = made_bed c.loop-shift.floor _ c.loop-shift.invariant

pub put_instance-requires-clause-placed : goal.put_instance-requires-clause-placed
put_instance-requires-clause-placed c =
    let same : c.self.inside.instances.now ≡ c.args.self.now.instances = ap (λ (f : Footprint). f.instances) c.self.view_is in
    let Q : List Shift → Type 0 = λ shifts. All (IsPlaced c.args.self.now) shifts in
    (subst Q (sym same) c.requires.placed) c.loop-shift.shift-index _ c.loop-shift-test.true

pub loop-shift-preserved : goal.loop-shift-preserved
loop-shift-preserved c =
    stands_step (stands_at c.args.self.now) (filled c.args.floor.now) c.self.inside.instances.now c.args.self.now.instances c.loop-shift.shift-index _ c.loop-shift.floor c.put_instance.new.floor (ap (λ (f : Footprint). f.instances) c.self.view_is) c.loop-shift-test.true
    c.loop-shift.invariant c.put_instance.ensures

pub returns : goal.returns
returns c =
    let same : c.self.inside.instances.now ≡ c.args.self.now.instances = ap (λ (f : Footprint). f.instances) c.self.view_is in
    stands_all (stands_at c.args.self.now) (filled c.args.floor.now) c.args.self.now.instances c.loop-shift.shift-index c.loop-shift.floor (omega (arith, ap length same, c.loop-shift-test.false)) c.loop-shift.invariant
