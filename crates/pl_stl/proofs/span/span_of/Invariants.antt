use Rattle.std.specs.Int.{int_min, int_max}
use Rattle.pl_stl.specs.Spans.{part_of}
use Rattle.pl_stl.proofs.Extremes.{IsChosen}
use Rattle.pl_stl.proofs.span.span_of.Given as goal

abbrev pub invariant-loop-facet : goal.invariant-loop-facet
invariant-loop-facet l = IsChosen int_min (part_of l.which) l.initial.span.least.0 l.facets l.facet-index l.span.least.0 × IsChosen int_max (part_of l.which) l.initial.span.greatest.0 l.facets l.facet-index l.span.greatest.0
