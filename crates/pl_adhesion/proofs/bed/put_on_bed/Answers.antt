use Rattle.std.proofs.Common.{◌∙◌, ap, sym, ◌+ℤ◌, arith, w32, to_z, of_z}
use Rattle.std.proofs.lemmas.Int.{to_z-of_z}
use Rattle.pl_grid.specs.Planes.{is_inside}
use Rattle.pl_adhesion.specs.Bed.{bed_with}
use Rattle.pl_adhesion.proofs.Places.{place_from, same_count}
use Rattle.pl_adhesion.proofs.BedLemmas.{put_none, put_cell, put_all}
use Rattle.pl_adhesion.proofs.Stretches.{put_skip_all}
use Rattle.pl_adhesion.proofs.bed.put_on_bed.Goals as goal

pub loop-place-init : goal.loop-place-init
loop-place-init c = (omega arith, put_none _ _ _ _ c.bounds-room.ensures.full)

pub loop-place-preserved-then-not-has : goal.loop-place-preserved-then-not-has
loop-place-preserved-then-not-has c =
    let count = same_count _ _ c.cell_count-count.result c.bounds-bounds.ensures.value c.cell_count-count.ensures in (
      omega (arith, count, c.alike_from-place.ensures.within),
      put_skip_all _ _ _ _ _ _ _ _ _ c.loop-place.invariant.1 c.alike_from-place.ensures.within (place_from _ _ _ _ _ c.bounds-bounds.ensures.value c.cell_at-cell.ensures.column c.cell_at-cell.ensures.row) (sym c.has.ensures ∙ c.if-not-has.true) c.alike_from-place.ensures.alike,
    )

pub moved-moved-requires : goal.moved-moved-requires
moved-moved-requires c =
    ap (λ b. is_inside b (c.cell_at-cell.result.x +ℤ to_z w32 (of_z w32 c.args.shift_x)) (c.cell_at-cell.result.y +ℤ to_z w32 (of_z w32 c.args.shift_y))) c.bounds-room.ensures.value
    ∙ ap (λ d. is_inside c.args.bed.now.bounds (c.cell_at-cell.result.x +ℤ d) (c.cell_at-cell.result.y +ℤ to_z w32 (of_z w32 c.args.shift_y))) (to_z-of_z w32 c.args.shift_x c.ranges.shift_x)
    ∙ ap (λ d. is_inside c.args.bed.now.bounds (c.cell_at-cell.result.x +ℤ c.args.shift_x) (c.cell_at-cell.result.y +ℤ d)) (to_z-of_z w32 c.args.shift_y c.ranges.shift_y)
    ∙ c.requires _ _ (sym c.has.ensures ∙ c.if-not-has.false)

pub fill-requires : goal.fill-requires
fill-requires c =
    ap (λ p. is_inside p.bounds c.moved-moved.result.x c.moved-moved.result.y) c.loop-place.invariant.1.is
    ∙ ap (λ x. is_inside c.args.bed.now.bounds x c.moved-moved.result.y) c.moved-moved.ensures.x
    ∙ ap (λ y. is_inside c.args.bed.now.bounds (c.cell_at-cell.result.x +ℤ to_z w32 (of_z w32 c.args.shift_x)) y) c.moved-moved.ensures.y
    ∙ ap (λ d. is_inside c.args.bed.now.bounds (c.cell_at-cell.result.x +ℤ d) (c.cell_at-cell.result.y +ℤ to_z w32 (of_z w32 c.args.shift_y))) (to_z-of_z w32 c.args.shift_x c.ranges.shift_x)
    ∙ ap (λ d. is_inside c.args.bed.now.bounds (c.cell_at-cell.result.x +ℤ c.args.shift_x) (c.cell_at-cell.result.y +ℤ d)) (to_z-of_z w32 c.args.shift_y c.ranges.shift_y)
    ∙ c.requires _ _ (sym c.has.ensures ∙ c.if-not-has.false)

pub loop-place-preserved : goal.loop-place-preserved
loop-place-preserved c =
    let count = same_count _ _ c.cell_count-count.result c.bounds-bounds.ensures.value c.cell_count-count.ensures in (
      omega (arith, c.loop-place-test.true),
      put_cell _ _ _ _ _ _ _ _ _ _ _ c.loop-place.invariant.1 (omega (arith, count, c.loop-place-test.true)) (place_from _ _ _ _ _ c.bounds-bounds.ensures.value c.cell_at-cell.ensures.column c.cell_at-cell.ensures.row) (sym c.has.ensures ∙ c.if-not-has.false) c.moved-moved.ensures.x c.moved-moved.ensures.y c.fill.ensures,
    )

pub returns : goal.returns
returns c =
    let count = same_count _ _ c.cell_count-count.result c.bounds-bounds.ensures.value c.cell_count-count.ensures in
    put_all _ _ _ _ c.loop-place.place _ c.loop-place.invariant.1 c.bounds-bounds.ensures.full (omega (arith, count, c.loop-place.invariant.0, c.loop-place-test.false))
    ∙ ap (λ d. bed_with c.args.bed.now c.args.cells.now d (to_z w32 (of_z w32 c.args.shift_y))) (to_z-of_z w32 c.args.shift_x c.ranges.shift_x)
    ∙ ap (λ d. bed_with c.args.bed.now c.args.cells.now c.args.shift_x d) (to_z-of_z w32 c.args.shift_y c.ranges.shift_y)
