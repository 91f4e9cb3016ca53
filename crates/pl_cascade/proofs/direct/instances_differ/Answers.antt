use Rattle.std.proofs.Common.{refl}
use Rattle.std.specs.Coded.{coded_list}
use Rattle.pl_model.specs.contracts.instances.Shift.{the_row as shift_row}
use Rattle.pl_model.specs.declared.object.Object.{Object}
use Rattle.pl_model.proofs.Same.{alike_decided}
use Rattle.pl_cascade.proofs.Codes.{differ_told}
use Rattle.pl_cascade.proofs.direct.instances_differ.Goals as goal

pub returns : goal.returns
returns c =
    let x : Object = c.args.object.now in
    let y : Object = c.args.changed.now in
    let decided = alike_decided x (record x { instances = y.instances }) c.eq-same.result _ _ refl refl c.eq-same.ensures c.shifts.ensures.shifts c.shifts-2.ensures.shifts in
    differ_told (coded_list shift_row.coded) x.instances y.instances c.eq-same.result (λ t. (decided.0 t).instances) (λ e. decided.1 (record { name = refl; quarter = refl; instances = e }))
