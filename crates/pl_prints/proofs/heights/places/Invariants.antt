use Rattle.std.proofs.Common.{◌≡◌, filter, is_some}
use Rattle.std.specs.List.{range_with_len}
use Rattle.pl_model.specs.Places.{place_in}
use Rattle.pl_prints.proofs.heights.places.Given as goal

abbrev pub invariant-loop-place : goal.invariant-loop-place
invariant-loop-place l = l.places.items ≡ filter (λ place. is_some (place_in l.filled place)) (range_with_len 0 l.place)
