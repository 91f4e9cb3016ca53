use Rattle.std.proofs.Common.{arith, ◌≡◌, ◌∙◌, ◌<◌, sym, ap, subst, ℤ, to_z, of_z, w32}
use Rattle.std.proofs.lemmas.Int.{ints}
use Rattle.pl_grid.specs.Planes.{Cells}
use Rattle.pl_rings.specs.Sides.{end_x, end_y, IsCentral}
use Rattle.pl_rings.specs.declared.side.Side.{Side}
use Rattle.pl_rings.proofs.RunEnds.{Running, central_bits, central_point, near_point, plain, running_point, running_first, running_more, running_last, run_falls, run_left, side_central}
use Rattle.pl_rings.proofs.loop_trace.run_end.Goals as goal

pub end_x-x-requires-clause-low : goal.end_x-x-requires-clause-low
end_x-x-requires-clause-low c = (central_bits c.args.side.now.x c.args.side.now.y (side_central c.args.plane.now c.args.side.now c.requires.extent c.requires.one)).left

pub end_x-x-requires-clause-high : goal.end_x-x-requires-clause-high
end_x-x-requires-clause-high c = (central_bits c.args.side.now.x c.args.side.now.y (side_central c.args.plane.now c.args.side.now c.requires.extent c.requires.one)).right

pub end_y-y-requires-clause-low : goal.end_y-y-requires-clause-low
end_y-y-requires-clause-low c = (central_bits c.args.side.now.x c.args.side.now.y (side_central c.args.plane.now c.args.side.now c.requires.extent c.requires.one)).bottom

pub end_y-y-requires-clause-high : goal.end_y-y-requires-clause-high
end_y-y-requires-clause-high c = (central_bits c.args.side.now.x c.args.side.now.y (side_central c.args.plane.now c.args.side.now c.requires.extent c.requires.one)).top

pub leaves-requires : goal.leaves-requires
leaves-requires c = near_point c.args.plane.now.bounds _ _ c.requires.extent (running_point c.args.plane.now c.args.side.now _ _ c.loop-x.invariant)

pub turn-turned-requires-clause-near : goal.turn-turned-requires-clause-near
turn-turned-requires-clause-near c = near_point c.args.plane.now.bounds _ _ c.requires.extent (running_point c.args.plane.now c.args.side.now _ _ c.loop-x.invariant)

pub end_x-x-requires-in-loop-x-clause-high : goal.end_x-x-requires-in-loop-x-clause-high
end_x-x-requires-in-loop-x-clause-high c = (central_point c.args.plane.now.bounds _ _ c.requires.extent (running_point c.args.plane.now c.args.side.now _ _ c.loop-x.invariant)).right

pub end_y-y-requires-in-loop-x-clause-low : goal.end_y-y-requires-in-loop-x-clause-low
end_y-y-requires-in-loop-x-clause-low c = (central_point c.args.plane.now.bounds _ _ c.requires.extent (running_point c.args.plane.now c.args.side.now _ _ c.loop-x.invariant)).bottom

pub end_y-y-requires-in-loop-x-clause-high : goal.end_y-y-requires-in-loop-x-clause-high
end_y-y-requires-in-loop-x-clause-high c = (central_point c.args.plane.now.bounds _ _ c.requires.extent (running_point c.args.plane.now c.args.side.now _ _ c.loop-x.invariant)).top

pub returns : goal.returns
returns c = rw c.turn-turned.ensures (running_last c.args.plane.now c.args.side.now _ _ c.loop-x.invariant (sym c.leaves.ensures ∙ c.loop-x-test.false))

pub loop-x-init : goal.loop-x-init
loop-x-init c =
    let p : Cells = c.args.plane.now in
    let s : Side = c.args.side.now in
    let central : IsCentral s.x s.y = side_central p s c.requires.extent c.requires.one in
    let ex : to_z w32 (of_z w32 c.end_x-x.result) ≡ end_x s.x s.heading = plain c.end_x-x.result c.end_x-x.ensures.low c.end_x-x.ensures.high ∙ c.end_x-x.ensures.value ∙ ap (λ a. end_x a s.heading) (plain s.x (omega (arith, ints, central.left)) (omega (arith, ints, central.right))) in
    let ey : to_z w32 (of_z w32 c.end_y-y.result) ≡ end_y s.y s.heading = plain c.end_y-y.result c.end_y-y.ensures.low c.end_y-y.ensures.high ∙ c.end_y-y.ensures.value ∙ ap (λ a. end_y a s.heading) (plain s.y (omega (arith, ints, central.bottom)) (omega (arith, ints, central.top))) in
    let X : ℤ → Type 0 = λ a. Running p s a (end_y s.y s.heading) in
    let Y : ℤ → Type 0 = λ a. Running p s (to_z w32 (of_z w32 c.end_x-x.result)) a in
    subst Y (sym ey) (subst X (sym ex) (running_first p s c.requires.one))

pub loop-x-preserved : goal.loop-x-preserved
loop-x-preserved c =
    let p : Cells = c.args.plane.now in
    let s : Side = c.args.side.now in
    let x : ℤ = to_z w32 c.loop-x.x-bits in
    let y : ℤ = to_z w32 c.loop-x.y-bits in
    let ex : to_z w32 (of_z w32 c.end_x-x-in-loop-x.result) ≡ end_x x s.heading = plain c.end_x-x-in-loop-x.result c.end_x-x-in-loop-x.ensures.low c.end_x-x-in-loop-x.ensures.high ∙ c.end_x-x-in-loop-x.ensures.value in
    let ey : to_z w32 (of_z w32 c.end_y-y-in-loop-x.result) ≡ end_y y s.heading = plain c.end_y-y-in-loop-x.result c.end_y-y-in-loop-x.ensures.low c.end_y-y-in-loop-x.ensures.high ∙ c.end_y-y-in-loop-x.ensures.value in
    let X : ℤ → Type 0 = λ a. Running p s a (end_y y s.heading) in
    let Y : ℤ → Type 0 = λ a. Running p s (to_z w32 (of_z w32 c.end_x-x-in-loop-x.result)) a in
    subst Y (sym ey) (subst X (sym ex) (running_more p s x y c.loop-x.invariant (sym c.leaves.ensures ∙ c.loop-x-test.true)))

pub loop-x-smaller : goal.loop-x-smaller
loop-x-smaller c =
    let p : Cells = c.args.plane.now in
    let s : Side = c.args.side.now in
    let x : ℤ = to_z w32 c.loop-x.x-bits in
    let y : ℤ = to_z w32 c.loop-x.y-bits in
    let ex : to_z w32 (of_z w32 c.end_x-x-in-loop-x.result) ≡ end_x x s.heading = plain c.end_x-x-in-loop-x.result c.end_x-x-in-loop-x.ensures.low c.end_x-x-in-loop-x.ensures.high ∙ c.end_x-x-in-loop-x.ensures.value in
    let ey : to_z w32 (of_z w32 c.end_y-y-in-loop-x.result) ≡ end_y y s.heading = plain c.end_y-y-in-loop-x.result c.end_y-y-in-loop-x.ensures.low c.end_y-y-in-loop-x.ensures.high ∙ c.end_y-y-in-loop-x.ensures.value in
    let X : ℤ → Type 0 = λ a. run_left p.bounds a (end_y y s.heading) s.heading < run_left p.bounds x y s.heading in
    let Y : ℤ → Type 0 = λ a. run_left p.bounds (to_z w32 (of_z w32 c.end_x-x-in-loop-x.result)) a s.heading < run_left p.bounds x y s.heading in
    subst Y (sym ey) (subst X (sym ex) (run_falls p s x y c.loop-x.invariant (sym c.leaves.ensures ∙ c.loop-x-test.true)))
