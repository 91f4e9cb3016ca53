-- The facets of a height.
use Rattle.std.specs.Prelude.{ℤ, Bool, not, ◌&&◌, ◌||◌, int_le}
use Rattle.pl_stl.specs.declared.mesh.Facet.{Facet}

-- the facet has corners at this height or below, and corners above it
abbrev pub spans : ℤ → Facet → Bool
spans z f = (int_le f.a.z.0 z || int_le f.b.z.0 z || int_le f.c.z.0 z) && not (int_le f.a.z.0 z && int_le f.b.z.0 z && int_le f.c.z.0 z)
