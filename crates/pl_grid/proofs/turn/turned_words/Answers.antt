use Rattle.std.proofs.Common.{◌≡◌, ◌≢◌, ◌+◌, ◌*◌, ◌/◌, ◌%◌, ℕ, slice_index, ap, subst, ◌∙◌, arith}
use Rattle.pl_grid.specs.Turned.{IsStrip}
use Rattle.pl_grid.proofs.Turning.{turned_more}
use Rattle.pl_grid.proofs.turn.turned_words.Goals as goal
use Rattle.pl_grid.proofs.turn.turned_words.Goals.{then-column-eq0+in_ok-strip, else-column-eq0}

pub loop-column-preserved : goal.loop-column-preserved
loop-column-preserved c =
    let strip : IsStrip c.args.words.now c.args.count c.args.wide (c.loop-column.column / 64) c.if-column-eq0.strip.items = elim c.if-column-eq0.branch [
      | then-column-eq0+in_ok-strip w ↦ rw w.strip-is w.in_ok-strip.ensures
      | else-column-eq0 w ↦ rw w.strip-is (c.loop-column.invariant.strip w.if-column-eq0.false)
    ] in
    record {
      len = c.in_ok-put_strip_row.ensures.len ∙ omega (arith, c.loop-column.invariant.len);
      strip = λ inside. subst (λ n. IsStrip c.args.words.now c.args.count c.args.wide n c.if-column-eq0.strip.items) (same_square c.loop-column.column inside) strip;
      done = turned_more c.args.words.now c.loop-column.out.items c.put_strip_row.new.out.items c.if-column-eq0.strip.items c.args.count c.args.wide c.loop-column.column c.loop-column.invariant.len c.loop-column.invariant.done strip c.in_ok-put_strip_row.ensures.before
          (λ w hw. c.in_ok-put_strip_row.ensures.row w hw ∙ ap (λ l. slice_index l (64 * w + c.loop-column.column % 64)) c.deref.ensures.value);
    }
  where
    same_square : (n : ℕ) → (n + 1) % 64 ≢ 0 → n / 64 ≡ (n + 1) / 64
    same_square n inside = omega arith
