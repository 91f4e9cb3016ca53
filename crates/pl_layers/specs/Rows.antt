-- The cells of a row whose ray hits a facet: those below one place.
use Rattle.std.specs.Prelude.{ℤ, ℕ, pos, negsuc, zero, suc, neg_ℤ, ◌+ℤ◌, ◌+◌, ◌*◌, ◌/◌, Bool, ◌&&◌, if◌then◌else◌, int_lt, int_le, not, ◌||◌, unsigned_abs}
use Rattle.pl_layers.specs.Hits.{arrow, cross, cross_x, determinant, crosses_oddly}
use Rattle.pl_layers.specs.declared.arrow.Arrow.{Arrow}
use Rattle.pl_stl.specs.declared.mesh.Point3.{Point3}
use Rattle.pl_stl.specs.declared.mesh.Facet.{Facet}

-- the point that lies t further along the ray
abbrev pub along : Point3 → ℤ → Point3
along p t = record { x = record { 0 = p.x.0 +ℤ t }; y = p.y; z = p.z }

-- the x part of the facet's normal
abbrev pub turn : Facet → ℤ
turn f = cross_x (arrow f.a f.b) (arrow f.a f.c)

abbrev pub normal_of : Facet → Arrow
normal_of f = cross (arrow f.a f.b) (arrow f.a f.c)

abbrev pub volume_at : Point3 → Facet → ℤ
volume_at p f = determinant (arrow p f.a) (arrow p f.b) (arrow p f.c)

-- the first i such that i times a step is at least e
abbrev pub steps_below : ℤ → ℕ → ℕ
steps_below (pos e) (suc m) = (e + m) / suc m
steps_below (pos e) zero = 0
steps_below (negsuc e) m = 0

-- how many of the points that lie a cell apart along the ray are behind the facet
abbrev pub columns_behind : ℕ → Point3 → Facet → ℕ
columns_behind cell p f = steps_below (if int_lt (turn f) (pos 0) then neg_ℤ (volume_at p f) else volume_at p f) (cell * unsigned_abs (turn f))

-- how many of them are hit
abbrev pub columns_hit : ℕ → Point3 → Facet → ℕ
columns_hit cell p f = if crosses_oddly p f then columns_behind cell p f else 0

-- each corner of the facet is at the row of the point or below, or each is above it
abbrev pub misses_row : Point3 → Facet → Bool
misses_row p f = (int_le f.a.y.0 p.y.0 && int_le f.b.y.0 p.y.0 && int_le f.c.y.0 p.y.0) || not (int_le f.a.y.0 p.y.0 || int_le f.b.y.0 p.y.0 || int_le f.c.y.0 p.y.0)
