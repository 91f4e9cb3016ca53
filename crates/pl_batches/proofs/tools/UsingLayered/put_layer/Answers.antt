use Rattle.std.proofs.Common.{pos, arith}
use Rattle.pl_units.specs.declared.Nm.{Nm}
use Rattle.pl_values.specs.PrintValues.{tool_set_of}
use Rattle.pl_prints.specs.Layers.{has_printed}
use Rattle.pl_batches.proofs.Along.{along_more}
use Rattle.pl_batches.proofs.tools.UsingLayered.put_layer.Goals as goal

pub returns : goal.returns
returns c =
    along_more (λ (top : Nm). tool_set_of (has_printed c.args.self.now.objects.now top.0)) c.args.self.now.tops.now c.args.number c.args.made.now.heights.items _ c.args.made.now.current _ (record { 0 = pos 0 }) c.used_at-used.result c.in_ok-tools.tools (omega arith)
    c.requires.before.0 c.requires.before.1 c.used_at-used.ensures c.in_ok-tools.ensures c.tool_after-made.ensures c.in_ok-push.ensures.items
