-- What follows a result.
use Rattle.std.specs.Prelude.{Result, Ok, Err}

abbrev pub and_then : {X Y E : Type 0} → Result X E → (X → Result Y E) → Result Y E
and_then (Ok x) next = next x
and_then (Err e) next = Err e

abbrev pub mapped : {X Y E : Type 0} → (X → Y) → Result X E → Result Y E
mapped f (Ok x) = Ok (f x)
mapped f (Err e) = Err e
