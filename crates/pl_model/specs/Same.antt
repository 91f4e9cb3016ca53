-- Which objects are equal but for their meshes and overrides, and a truth value for equal plates.
use Rattle.std.specs.Prelude.{◌≡◌, ◌==◌, Bool, true, false, ◌&&◌}
use base.Stored.{Gv, gnil, gnum, gcons}
use Rattle.pl_model.specs.declared.object.Object.{Object}
use Rattle.pl_model.specs.Contents.{Contents, contents_code}

pub record IsAlike (one other : Object) : Type 0 where
  pub name : one.name ≡ other.name
  pub quarter : one.quarter ≡ other.quarter
  pub instances : one.instances ≡ other.instances

-- whether two codes, trees of numbers, are equal
abbrev pub same_code : Gv → Gv → Bool
same_code gnil gnil = true
same_code (gnum m) (gnum n) = m == n
same_code (gcons a b) (gcons c d) = same_code a c && same_code b d
same_code _ _ = false

-- whether two plates are equal: they are exactly where their codes are
unfoldable pub same_plates : Contents → Contents → Bool
same_plates one other = same_code (contents_code.code one) (contents_code.code other)
