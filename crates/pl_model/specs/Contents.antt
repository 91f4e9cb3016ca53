-- What a plate has.
use Rattle.std.specs.Prelude.{ℕ, List, [], ◌∷◌, Option, None, map, replicate, slice_set, refl}
use Rattle.std.specs.Coded.{Coded, code_by, coded×, coded_list, coded_option}
use Rattle.std.specs.FinMap.{from_entries, empty}
use Rattle.pl_stl.specs.declared.mesh.Facet.{Facet}
use Rattle.pl_keys.specs.Keys.{keys}
use Rattle.pl_keys.specs.Values.{default_of}
use Rattle.pl_options.specs.KeyMap.{KeyMap, key_map_code}
use Rattle.pl_model.specs.declared.object.Object.{Object}
use Rattle.pl_model.specs.Shifts.{origin}
use Rattle.pl_model.specs.contracts.object.Object.{the_row as object_row}

pub record Contents : Type 0 where
  pub config : KeyMap
  pub places : List (Option Object)

abbrev pub contents_code : Coded Contents
contents_code =
    code_by (KeyMap × List (Option Object)) (coded× key_map_code (coded_list (coded_option object_row.coded))) (λ c. (c.config, c.places)) (λ p. record { config = p.0; places = p.1 }) (λ _. refl)

-- each option has its default
abbrev pub defaults : KeyMap
defaults = from_entries (map (λ key. (key, default_of key)) keys)

-- the plate at the start
abbrev pub blank : Contents
blank = record { config = defaults; places = replicate 16 None }

-- the plate with another object at a place, or with none
abbrev pub with_place : Contents → ℕ → Option Object → Contents
with_place plate place object = record plate { places = slice_set plate.places place object }

-- a mesh as it is loaded
abbrev pub fresh : List ℕ → List Facet → Object
fresh name mesh = record { name = name; mesh = mesh; quarter = 0; overrides = empty; instances = origin ∷ [] }
