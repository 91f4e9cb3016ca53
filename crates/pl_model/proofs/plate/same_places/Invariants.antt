use Rattle.std.proofs.Common.{◌≡◌, take}
use Rattle.pl_model.proofs.plate.same_places.Given as goal

abbrev pub invariant-loop-at : goal.invariant-loop-at
invariant-loop-at l = take l.at l.some ≡ take l.at l.others
