use Rattle.std.proofs.Common.{◌≡◌, ◌-◌}
use Rattle.pl_grid.specs.Lines.{line_cells, line_length, first_place}
use Rattle.pl_grid.proofs.RunLemmas.{Scanned}
use Rattle.pl_grid.proofs.runs.Line.put_runs.Given as goal

abbrev pub invariant-loop-at : goal.invariant-loop-at
invariant-loop-at l = Scanned l.self.line (first_place l.self.along l.self.plane.now.bounds) (line_cells l.self.along l.self.plane.now l.self.line) l.initial.runs.items l.runs.items l.at × (l.length ≡ line_length l.self.along l.self.plane.now.bounds)

abbrev pub decreases-loop-at : goal.decreases-loop-at
decreases-loop-at l = l.length - l.at
