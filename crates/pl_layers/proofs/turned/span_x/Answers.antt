use Rattle.std.proofs.Common.{◌≡◌, ℕ, arith, refl, sym, subst}
use Rattle.pl_stl.specs.Coordinates.{part_x, part_y}
use Rattle.pl_stl.specs.Spans.{IsSpan}
use Rattle.pl_layers.specs.Turned.{turned_mesh}
use Rattle.pl_layers.proofs.Extremes.{turned_span, opposite_span}
use Rattle.pl_layers.proofs.turned.span_x.Goals as goal

pub returns-in-0 : goal.returns-in-0
returns-in-0 c = subst (λ (q : ℕ). IsSpan part_x (turned_mesh q c.args.mesh.now) c.span.result) (sym c.in-0.is) (turned_span part_x part_x 0 c.args.mesh.now c.span.result (λ p. refl) c.span.ensures)

pub returns-in-1 : goal.returns-in-1
returns-in-1 c = subst (λ (q : ℕ). IsSpan part_x (turned_mesh q c.args.mesh.now) c.opposite_span.result) (sym c.in-1.is) (opposite_span part_x part_y 1 c.args.mesh.now c.span-in-1.result c.opposite_span.result (λ p. refl) c.span-in-1.ensures c.opposite_span.ensures.least c.opposite_span.ensures.greatest c.opposite_span.ensures.near)

pub returns-in-2 : goal.returns-in-2
returns-in-2 c = subst (λ (q : ℕ). IsSpan part_x (turned_mesh q c.args.mesh.now) c.opposite_span-in-2.result) (sym c.in-2.is) (opposite_span part_x part_x 2 c.args.mesh.now c.span-in-2.result c.opposite_span-in-2.result (λ p. refl) c.span-in-2.ensures c.opposite_span-in-2.ensures.least c.opposite_span-in-2.ensures.greatest c.opposite_span-in-2.ensures.near)

pub returns-in_default : goal.returns-in_default
returns-in_default c =
    let three : c.args.quarter ≡ 3 = omega arith in
    subst (λ (q : ℕ). IsSpan part_x (turned_mesh q c.args.mesh.now) c.span-in_default.result) (sym three) (turned_span part_x part_y 3 c.args.mesh.now c.span-in_default.result (λ p. refl) c.span-in_default.ensures)
