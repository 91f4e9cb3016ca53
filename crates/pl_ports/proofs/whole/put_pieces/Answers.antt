use Rattle.std.proofs.Common.{◌≡◌, ◌∙◌}
use Rattle.pl_ports.specs.Fronts.{pieces_more, front_in_piece}
use Rattle.pl_ports.proofs.whole.put_pieces.Goals as goal

pub returns-in_err-put_all-clause-front : goal.returns-in_err-put_all-clause-front
returns-in_err-put_all-clause-front g c =
    front_in_piece (λ piece. piece.now) c.args.pieces.now c.loop-piece.piece-index _ _ _ _ c.loop-piece-test.true c.loop-piece.invariant.put c.put_all.ensures.front

pub loop-piece-preserved : goal.loop-piece-preserved
loop-piece-preserved g c = record {
  put = pieces_more (λ piece. piece.now) c.args.pieces.now c.loop-piece.piece-index _ _ _ _ c.loop-piece-test.true c.loop-piece.invariant.put c.in_ok-put_all.ensures.all;
  kept = c.in_ok-put_all.ensures.no_fault ∙ c.loop-piece.invariant.kept;
}
