use Rattle.std.proofs.Common.{◌∙◌, sym, arith}
use Rattle.pl_adhesion.proofs.Places.{place_from, same_count}
use Rattle.pl_adhesion.proofs.ReachLemmas.{found_more, found_all, found_bare, found_near}
use Rattle.pl_adhesion.proofs.Stretches.{found_skip_all}
use Rattle.pl_adhesion.proofs.reach.filled_reach.Goals as goal

pub loop-place-preserved-then-not-has : goal.loop-place-preserved-then-not-has
loop-place-preserved-then-not-has c =
    let count = same_count _ _ c.cell_count-count.result c.bounds-bounds.ensures.value c.cell_count-count.ensures in (
      omega (arith, count, c.alike_from-place.ensures.within),
      found_skip_all _ _ _ _ _ _ c.loop-place.invariant.1 c.alike_from-place.ensures.within (place_from _ _ _ _ _ c.bounds-bounds.ensures.value c.cell_at-cell.ensures.column c.cell_at-cell.ensures.row) (sym c.has.ensures ∙ c.if-not-has.true) c.alike_from-place.ensures.alike,
    )

pub loop-place-preserved : goal.loop-place-preserved
loop-place-preserved c =
    let count = same_count _ _ c.cell_count-count.result c.bounds-bounds.ensures.value c.cell_count-count.ensures in (
      omega (arith, c.loop-place-test.true),
      found_more _ _ _ _ _ _ c.loop-place.invariant.1 (omega (arith, count, c.loop-place-test.true)) (place_from _ _ _ _ _ c.bounds-bounds.ensures.value c.cell_at-cell.ensures.column c.cell_at-cell.ensures.row) (sym c.has.ensures ∙ c.if-not-has.false) c.with_cell.ensures,
    )

pub returns-clause-value : goal.returns-clause-value
returns-clause-value c =
    let count = same_count _ _ c.cell_count-count.result c.bounds-bounds.ensures.value c.cell_count-count.ensures in
    found_all _ c.loop-place.place _ c.loop-place.invariant.1 c.bounds-bounds.ensures.full (omega (arith, count, c.loop-place.invariant.0, c.loop-place-test.false))

pub returns-clause-none : goal.returns-clause-none
returns-clause-none c =
    let count = same_count _ _ c.cell_count-count.result c.bounds-bounds.ensures.value c.cell_count-count.ensures in
    found_bare _ c.loop-place.place _ c.loop-place.invariant.1 c.bounds-bounds.ensures.full (omega (arith, count, c.loop-place.invariant.0, c.loop-place-test.false))

pub returns-clause-near : goal.returns-clause-near
returns-clause-near c = found_near _ _ _ c.requires c.loop-place.invariant.1
