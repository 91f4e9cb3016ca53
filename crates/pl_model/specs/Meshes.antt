-- The meshes of two plates, and which of them an edit may change.
use Rattle.std.specs.Prelude.{◌≡◌, ℕ, ◌<◌, ◌==◌, Bool, false, List, Option}
use Rattle.std.specs.Option.{option_map}
use Rattle.pl_stl.specs.declared.mesh.Facet.{Facet}
use Rattle.pl_edit.specs.declared.edit.Edit.{Edit}
use Rattle.pl_edit.specs.declared.edit.Edit.TheVariants.{Load, Reload, Delete}
use Rattle.pl_edit.specs.declared.reply.EditReply.{EditReply}
use Rattle.pl_edit.specs.declared.reply.EditReply.TheVariants as reply
use Rattle.pl_tech.specs.Slots.{has}
use Rattle.pl_model.specs.declared.object.Object.{Object}
use Rattle.pl_model.specs.Contents.{Contents}
use Rattle.pl_model.specs.Places.{place_in}

-- the mesh that stands at a place, if one does
abbrev pub mesh_there : Option Object → Option (List Facet)
mesh_there place = option_map (λ (o : Object). o.mesh) place

abbrev pub mesh_at : List (Option Object) → ℕ → Option (List Facet)
mesh_at places place = mesh_there (place_in places place)

-- two plates have the same mesh at a place, or none there
abbrev pub HaveOneMesh : Contents → Contents → ℕ → Type 0
HaveOneMesh a b place = mesh_at a.places place ≡ mesh_at b.places place

-- two plates have the same meshes at all places but these
abbrev pub ShareMeshes : ℕ → Contents → Contents → Type 0
ShareMeshes apart a b = (place : ℕ) → place < 16 → has apart place ≡ false → mesh_at a.places place ≡ mesh_at b.places place

-- the parts of plates are their meshes, of the places that there are
abbrev pub SharesMesh : Contents → Contents → ℕ → Type 0
SharesMesh a b place = place < 16 → HaveOneMesh a b place

-- whether an edit with this reply may have changed the mesh of a place
abbrev pub may_change : Edit → EditReply → ℕ → Bool
may_change (Load name block) (reply.Object place) p = place == p
may_change (Reload place block) reply.Done p = place == p
may_change (Delete place) reply.Done p = place == p
may_change _ _ p = false
