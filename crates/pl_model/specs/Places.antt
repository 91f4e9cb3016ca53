-- The sixteen places.
use Rattle.std.specs.Prelude.{◌≡◌, ℕ, ◌<◌, List, length, slice_index_or, Option, None}
use Rattle.std.specs.Option.{IfSome}
use Rattle.std.specs.List.{All}
use Rattle.pl_model.specs.declared.object.Object.{Object}

-- what stands at a place
abbrev pub place_in : List (Option Object) → ℕ → Option Object
place_in places place = slice_index_or places place None

-- fewer than four quarter turns
abbrev pub IsTurned : Option Object → Type 0
IsTurned place = IfSome place (λ object. object.quarter < 4)

pub record ArePlaces (places : List (Option Object)) : Type 0 where
  pub sixteen : length places ≡ 16
  pub turned : All IsTurned places
