use Rattle.std.proofs.Common.{◌≡◌, ℕ, rules, length, map, take}
use Rattle.pl_units.specs.declared.Nm.{Nm}
use Rattle.pl_tower.specs.Heights.{tools_along}
use Rattle.pl_values.specs.PrintValues.{tool_set_of}
use Rattle.pl_prints.specs.Layers.{has_printed}
use Rattle.pl_batches.proofs.Along.{along_all}
use Rattle.pl_batches.proofs.tools.tool_batches.Goals as goal

pub returns-in-Done-clause-ran : goal.returns-in-Done-clause-ran
returns-in-Done-clause-ran g c =
    let used : Nm → ℕ = λ top. tool_set_of (has_printed c.args.objects.now top.0) in
    let done : c.in-Done.field-0.heights.items ≡ take (length c.args.tops.now) (tools_along 0 (map used c.args.tops.now)) = search rules in
    along_all used c.args.tops.now c.in-Done.field-0.heights.items done
