use Rattle.std.proofs.Common.{◌∙◌}
use Rattle.std.proofs.lemmas.Result.{err_from_is_err_and}
use Rattle.pl_units.proofs.Fronts.{stopped_at, more}
use Rattle.pl_units.proofs.pieces.append_pieces.Goals as goal

pub returns-in_err-append : goal.returns-in_err-append
returns-in_err-append c =
    let p = err_from_is_err_and c.from_residual.result c.from_residual.ensures.1 in
    record { text = rw p.1 (stopped_at (λ piece. piece.now) c.args.pieces.now c.loop-piece.piece-index _ _ (c.in_err-append.ensures.err ∙ c.loop-piece.invariant)) }

pub loop-piece-preserved : goal.loop-piece-preserved
loop-piece-preserved c = more (λ piece. piece.now) c.args.pieces.now c.loop-piece.piece-index _ _ _ _ c.loop-piece-test.true c.loop-piece.invariant c.in_ok-append.ensures.ok
