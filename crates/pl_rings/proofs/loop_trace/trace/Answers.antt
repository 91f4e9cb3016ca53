use Rattle.std.proofs.Common.{◌≡◌, ◌*◌, length, arith, refl, sym, ◌∙◌, ap, subst}
use Rattle.pl_grid.specs.Extent.{Extent}
use Rattle.pl_grid.specs.Planes.{Cells}
use Rattle.pl_rings.specs.declared.side.Side.{Side}
use Rattle.pl_rings.specs.Sides.{number_of, side_count, IsPoint}
use Rattle.pl_rings.proofs.CornerLemmas.{start_of}
use Rattle.pl_rings.proofs.LoopTrace.{turn_back, turn_first, turn_more}
use Rattle.pl_rings.proofs.OpenPlaces.{length-passed}
use Rattle.pl_rings.proofs.PlaneStarts.{start_is_side}
use Rattle.pl_rings.proofs.RunEnds.{run_stands}
use Rattle.pl_rings.proofs.SideNumbers.{number_below, point_of}
use Rattle.pl_rings.proofs.loop_trace.trace.Goals as goal

pub number_of-first-requires : goal.number_of-first-requires
number_of-first-requires c =
    let p : Cells = c.args.plane.now in
    let s : Side = c.args.start.now in
    let B : Extent → Type 0 = λ b. IsPoint b s.x s.y in
    subst B (sym c.bounds-bounds.ensures.value) (point_of p s (start_is_side p s c.requires.start))

pub loop-corners-init : goal.loop-corners-init
loop-corners-init c =
    let p : Cells = c.args.plane.now in
    let s : Side = c.args.start.now in
    (rw c.new-corners.ensures.items (turn_first p s c.args.marks.now.items c.number_of-first.result c.requires.start (c.number_of-first.ensures ∙ ap (λ b. number_of b s) c.bounds-bounds.ensures.value)), refl)

pub pass-requires : goal.pass-requires
pass-requires c =
    let p : Cells = c.args.plane.now in
    let s : Side = c.loop-corners.side in
    omega (arith, c.requires.size, c.loop-corners.invariant.1, c.loop-corners.invariant.0.number_is, number_below p.bounds s (point_of p s c.loop-corners.invariant.0.one))

pub run_end-next-requires-clause-one : goal.run_end-next-requires-clause-one
run_end-next-requires-clause-one c = c.loop-corners.invariant.0.one

pub number_of-number-requires : goal.number_of-number-requires
number_of-number-requires c =
    let p : Cells = c.args.plane.now in
    let t : Side = c.run_end-next.result in
    let B : Extent → Type 0 = λ b. IsPoint b t.x t.y in
    subst B (sym c.bounds-bounds.ensures.value) (point_of p t (run_stands p c.loop-corners.side t c.loop-corners.invariant.0.one c.run_end-next.ensures))

pub returns-then-number-first-clause-size : goal.returns-then-number-first-clause-size
returns-then-number-first-clause-size c =
    ap length c.pass.ensures ∙ length-passed c.loop-corners.marks.items c.loop-corners.number c.loop-corners.is_start ∙ c.loop-corners.invariant.1

pub returns-then-number-first-clause-traced : goal.returns-then-number-first-clause-traced
returns-then-number-first-clause-traced c =
    let p : Cells = c.args.plane.now in
    let s : Side = c.loop-corners.side in
    let t : Side = c.run_end-next.result in
    let size : length c.loop-corners.marks.items * 4 ≡ side_count p.bounds = ap (λ n. n * 4) c.loop-corners.invariant.1 ∙ c.requires.size in
    let corner : c.corner_of.result ≡ start_of s = ap (λ a. record { x = a; y = c.corner_of.result.y }) c.corner_of.ensures.x ∙ ap (λ a. start_of (record { x = s.x; y = a; heading = s.heading })) c.corner_of.ensures.y in
    let number : c.number_of-number.result ≡ number_of p.bounds t = c.number_of-number.ensures ∙ ap (λ b. number_of b t) c.bounds-bounds.ensures.value in
    let first : c.number_of-first.result ≡ number_of p.bounds c.args.start.now = c.number_of-first.ensures ∙ ap (λ b. number_of b c.args.start.now) c.bounds-bounds.ensures.value in
    rw c.in_ok-push.ensures.items
    (turn_back p c.args.start.now s t c.args.marks.now.items c.loop-corners.marks.items c.pass.new.marks.items c.loop-corners.number c.number_of-number.result c.loop-corners.is_start c.loop-corners.corners.items c.corner_of.result c.requires.start c.loop-corners.invariant.0 size c.pass.ensures corner c.run_end-next.ensures number (c.if-number-first.true ∙ first))

pub loop-corners-preserved : goal.loop-corners-preserved
loop-corners-preserved c =
    let p : Cells = c.args.plane.now in
    let s : Side = c.loop-corners.side in
    let t : Side = c.run_end-next.result in
    let size : length c.loop-corners.marks.items * 4 ≡ side_count p.bounds = ap (λ n. n * 4) c.loop-corners.invariant.1 ∙ c.requires.size in
    let corner : c.corner_of.result ≡ start_of s = ap (λ a. record { x = a; y = c.corner_of.result.y }) c.corner_of.ensures.x ∙ ap (λ a. start_of (record { x = s.x; y = a; heading = s.heading })) c.corner_of.ensures.y in
    let number : c.number_of-number.result ≡ number_of p.bounds t = c.number_of-number.ensures ∙ ap (λ b. number_of b t) c.bounds-bounds.ensures.value in
    let first : c.number_of-first.result ≡ number_of p.bounds c.args.start.now = c.number_of-first.ensures ∙ ap (λ b. number_of b c.args.start.now) c.bounds-bounds.ensures.value in (
      rw c.in_ok-push.ensures.items
          (turn_more p c.args.start.now s t c.args.marks.now.items c.loop-corners.marks.items c.pass.new.marks.items c.loop-corners.number c.number_of-number.result c.loop-corners.is_start c.turns_up-is_start.result c.loop-corners.corners.items c.corner_of.result c.requires.start c.loop-corners.invariant.0 size c.pass.ensures corner c.run_end-next.ensures c.turns_up-is_start.ensures number (λ e. c.if-number-first.false (e ∙ sym first))),
      ap length c.pass.ensures ∙ length-passed c.loop-corners.marks.items c.loop-corners.number c.loop-corners.is_start ∙ c.loop-corners.invariant.1,
    )
