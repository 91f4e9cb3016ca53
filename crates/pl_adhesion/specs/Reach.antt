-- How far the filled cells of a plane reach.
use Rattle.std.specs.Prelude.{ℤ, ℕ, pos, ◌+ℤ◌, ◌-◌, Bool, List, length, map, slice_index_or, if◌then◌else◌}
use Rattle.std.specs.declared.option.Option.{Option}
use Rattle.std.specs.declared.option.Option.TheVariants.{Some, None}
use Rattle.std.specs.Int.{int_min, int_max}
use Rattle.std.specs.List.{range_with_len, list_any, filter}
use Rattle.pl_units.specs.Within.{Within}
use Rattle.pl_grid.specs.Extent.{Extent}
use Rattle.pl_grid.specs.Planes.{Cells, filled}
use Rattle.pl_adhesion.specs.declared.reach.Span.{Span}
use Rattle.pl_adhesion.specs.declared.reach.Reach.{Reach}

-- n numbers in order, from the given one on
abbrev pub numbers_from : ℤ → ℕ → List ℤ
numbers_from low n = map (λ i. low +ℤ pos i) (range_with_len 0 n)

abbrev pub columns_of : Extent → List ℤ
columns_of b = numbers_from b.x0 b.cols

abbrev pub rows_of : Extent → List ℤ
rows_of b = numbers_from b.y0 b.rows

-- the column x has a filled cell, and so has the row y
abbrev pub column_has : Cells → ℤ → Bool
column_has p x = list_any (λ y. filled p x y) (rows_of p.bounds)

abbrev pub row_has : Cells → ℤ → Bool
row_has p y = list_any (λ x. filled p x y) (columns_of p.bounds)

-- the first and the last of some numbers in order
abbrev pub span_of : List ℤ → Span
span_of zs = record { least = slice_index_or zs 0 (pos 0); greatest = slice_index_or zs (length zs - 1) (pos 0) }

-- some cell is filled
abbrev pub has_cell : Cells → Bool
has_cell p = list_any (λ b. b) p.cells

-- the least and the greatest column with a filled cell, and the least and the greatest row
abbrev pub reach_of : Cells → Reach
reach_of p = record { columns = span_of (filter (column_has p) (columns_of p.bounds)); rows = span_of (filter (row_has p) (rows_of p.bounds)) }

-- the reach of a plane's filled cells, where it has any
abbrev pub reach_if : Cells → Option Reach
reach_if p = if has_cell p then Some (reach_of p) else None

-- ---- one number or cell more

abbrev pub span_with : Span → ℤ → Span
span_with s z = record { least = int_min s.least z; greatest = int_max s.greatest z }

abbrev pub reach_with : Option Reach → ℤ → ℤ → Reach
reach_with None x y = record { columns = record { least = x; greatest = x }; rows = record { least = y; greatest = y } }
reach_with (Some r) x y = record { columns = span_with r.columns x; rows = span_with r.rows y }

-- ---- on the bed

-- the numbers are those of columns or rows of the bed
pub record IsNearReach (r : Reach) : Type 0 where
  pub left : Within 1000 r.columns.least
  pub right : Within 1000 r.columns.greatest
  pub bottom : Within 1000 r.rows.least
  pub top : Within 1000 r.rows.greatest
