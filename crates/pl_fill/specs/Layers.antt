-- The strokes of a layer.
use Rattle.std.specs.Prelude.{ℕ, ◌%◌, ◌==◌, List, [], ◌++◌, if◌then◌else◌}
use Rattle.std.specs.Int.{div_ceil}
use Rattle.pl_grid.specs.Planes.{Cells}
use Rattle.pl_grid.specs.Strokes.{axis_of, strokes_of}
use Rattle.pl_grid.specs.declared.stroke.Axis.{Axis}
use Rattle.pl_grid.specs.declared.stroke.Stroke.{Stroke}

-- even layers go along rows, odd ones along columns
abbrev pub layer_axis : ℕ → Axis
layer_axis k = axis_of (k % 2 == 0)

-- the strokes of the sparse plane, as dense as the percentage says
abbrev pub sparse_strokes : Cells → ℕ → ℕ → List Stroke
sparse_strokes sparse k density = if density == 0 then [] else strokes_of (layer_axis k) (div_ceil 100 density) sparse

-- the strokes of the solid plane, then those of the sparse plane
abbrev pub infill_of : Cells → Cells → ℕ → ℕ → List Stroke
infill_of solid sparse k density = strokes_of (layer_axis k) 1 solid ++ sparse_strokes sparse k density
