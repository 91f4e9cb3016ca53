use Rattle.std.proofs.Common.{◌∙◌, ap, sym}
use Rattle.pl_grid.specs.Lines.{line_runs}
use Rattle.pl_grid.specs.declared.stroke.Axis.TheVariants.{Rows}
use Rattle.pl_grid.proofs.Turning.{lines_turned}
use Rattle.pl_fill.proofs.filling.strokes.Goals as goal

pub strokes_by_rows-requires-in-Columns-clause-rows : goal.strokes_by_rows-requires-in-Columns-clause-rows
strokes_by_rows-requires-in-Columns-clause-rows c line = ap (λ q. line_runs Rows q line) c.in_ok-turned-in-Columns.ensures ∙ lines_turned c.args.plane.now line ∙ sym (ap (λ a. line_runs a c.args.plane.now line) c.in-Columns.is)
