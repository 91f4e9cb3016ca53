use Rattle.std.proofs.Common.{◌≡◌, ◌++◌, take, map}
use Rattle.std.specs.List.{concat}
use Rattle.pl_units.proofs.pieces.append_pieces.Given as goal

abbrev pub invariant-loop-piece : goal.invariant-loop-piece
invariant-loop-piece l = l.out ≡ l.initial.out ++ concat (map (λ piece. piece.now) (take l.piece-index l.pieces))
