-- How far a span reaches, and the box of the cells of two spans.
use Rattle.std.specs.Prelude.{ℕ, pos, ◌-ℤ◌, unsigned_abs}
use Rattle.pl_grid.specs.Extent.{Extent}
use Rattle.pl_stl.specs.declared.span.Span.{Span}
use Rattle.pl_layers.specs.Turned.{cells_across}

abbrev pub reach_of : Span → ℕ
reach_of s = unsigned_abs (s.greatest.0 -ℤ s.least.0)

abbrev pub box_over : Span → Span → Extent
box_over x y = record { x0 = pos 0; y0 = pos 0; cols = cells_across (reach_of x); rows = cells_across (reach_of y) }
