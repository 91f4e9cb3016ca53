use Rattle.std.proofs.Common.{◌≡◌, ◌≤◌, ◌<◌, ◌+ℤ◌, ℤ, ◌∙◌, ap, sym, subst, arith, length, get_or, List}
use Rattle.pl_layers.specs.declared.sweep.Start.{Start}
use Rattle.pl_layers.specs.Turned.{turned_mesh}
use Rattle.pl_layers.specs.Heights.{layer_count_of, sample}
use Rattle.pl_layers.specs.Slices.{inside_of, slice_of}
use Rattle.pl_layers.specs.Sweeps.{Swept, AreLeft}
use Rattle.pl_layers.proofs.Points.{layer_sampled, sample_near}
use Rattle.pl_layers.proofs.Sweeping.{left_dropped, left_next, layer_is, close_dropped, height_is, the_corner, corner_is, base_near, points_at}
use Rattle.pl_layers.proofs.sweep.Sweep.next_layer.Goals as goal

pub sample-requires-clause-k : goal.sample-requires-clause-k
sample-requires-clause-k c = (layer_sampled c.self.inside.heights c.self.inside.facets.now c.self.inside.layer c.self.invariant.mesh c.self.invariant.heights (subst (λ (s : Swept). s.layer < layer_count_of s.heights s.mesh) (sym c.self.view_is) c.requires)).few

pub sum-requires-clause-a : goal.sum-requires-clause-a
sum-requires-clause-a c = base_near c.self.inside.quarter c.self.inside.facets.now c.self.inside.base c.self.invariant.mesh c.self.invariant.base

pub sum-requires-clause-b : goal.sum-requires-clause-b
sum-requires-clause-b c = sample_near c.self.inside.heights c.self.inside.facets.now c.self.inside.layer c.sample.result.0 c.self.invariant.mesh c.self.invariant.heights (subst (λ (s : Swept). s.layer < layer_count_of s.heights s.mesh) (sym c.self.view_is) c.requires) c.sample.ensures

pub take_in-requires-clause-close : goal.take_in-requires-clause-close
take_in-requires-clause-close c = close_dropped c.sum.result.0 c.self.inside.active.items c.drop_ended.new.active.items c.self.invariant.close c.drop_ended.ensures

pub take_in-requires-clause-left : goal.take_in-requires-clause-left
take_in-requires-clause-left c =
    let at : c.sum.result.0 ≡ c.self.inside.base.z.0 +ℤ sample c.self.inside.heights c.self.inside.layer = height_is c.self.inside.heights c.self.inside.layer c.self.inside.base.z.0 c.sample.result.0 c.sum.result.0 c.sum.ensures c.sample.ensures in
    let was : AreLeft c.self.inside.quarter c.self.inside.facets.now c.sum.result.0 c.self.inside.order.items c.self.inside.next c.self.inside.active.items = subst (λ (z : ℤ). AreLeft c.self.inside.quarter c.self.inside.facets.now z c.self.inside.order.items c.self.inside.next c.self.inside.active.items) (sym at) c.self.invariant.left in
    subst (λ (ss : List Start). AreLeft c.self.inside.quarter c.self.inside.facets.now c.sum.result.0 ss c.self.inside.next c.drop_ended.new.active.items) (sym c.deref.ensures.value) (left_dropped c.self.inside.quarter c.self.inside.facets.now c.sum.result.0 c.self.inside.order.items c.self.inside.next c.self.inside.active.items c.drop_ended.new.active.items was c.drop_ended.ensures)

pub slice_facets-requires-clause-corner : goal.slice_facets-requires-clause-corner
slice_facets-requires-clause-corner c = (points_at c.self.inside.quarter c.self.inside.facets.now c.self.inside.heights c.self.inside.layer c.self.inside.bounds c.self.inside.base c.sum.result c.self.invariant.mesh c.self.invariant.heights (subst (λ (s : Swept). s.layer < layer_count_of s.heights s.mesh) (sym c.self.view_is) c.requires) c.self.invariant.bounds c.self.invariant.base (height_is c.self.inside.heights c.self.inside.layer c.self.inside.base.z.0 c.sample.result.0 c.sum.result.0 c.sum.ensures c.sample.ensures)).first

pub slice_facets-requires-clause-points : goal.slice_facets-requires-clause-points
slice_facets-requires-clause-points c = (points_at c.self.inside.quarter c.self.inside.facets.now c.self.inside.heights c.self.inside.layer c.self.inside.bounds c.self.inside.base c.sum.result c.self.invariant.mesh c.self.invariant.heights (subst (λ (s : Swept). s.layer < layer_count_of s.heights s.mesh) (sym c.self.view_is) c.requires) c.self.invariant.bounds c.self.invariant.base (height_is c.self.inside.heights c.self.inside.layer c.self.inside.base.z.0 c.sample.result.0 c.sum.result.0 c.sum.ensures c.sample.ensures)).points

pub overflow_add-self : goal.overflow_add-self
overflow_add-self c =
    let few : c.self.inside.layer ≤ 2000000 = (layer_sampled c.self.inside.heights c.self.inside.facets.now c.self.inside.layer c.self.invariant.mesh c.self.invariant.heights (subst (λ (s : Swept). s.layer < layer_count_of s.heights s.mesh) (sym c.self.view_is) c.requires)).few in
    omega (arith, few)

pub invariant_of-self-2 : goal.invariant_of-self-2
invariant_of-self-2 c =
    let at : c.sum.result.0 ≡ c.self.inside.base.z.0 +ℤ sample c.self.inside.heights c.self.inside.layer = height_is c.self.inside.heights c.self.inside.layer c.self.inside.base.z.0 c.sample.result.0 c.sum.result.0 c.sum.ensures c.sample.ensures in
    let here : AreLeft c.self.inside.quarter c.self.inside.facets.now c.sum.result.0 c.self.inside.order.items c.take_in.new.next c.take_in.new.active.items = subst (λ (ss : List Start). AreLeft c.self.inside.quarter c.self.inside.facets.now c.sum.result.0 ss c.take_in.new.next c.take_in.new.active.items) c.deref.ensures.value c.take_in.ensures.left in
    record {
      mesh = c.self.invariant.mesh;
      quarter = c.self.invariant.quarter;
      heights = c.self.invariant.heights;
      bounds = c.self.invariant.bounds;
      base = c.self.invariant.base;
      starts = c.self.invariant.starts;
      rising = c.self.invariant.rising;
      next = subst (λ (ss : List Start). c.take_in.new.next ≤ length ss) c.deref.ensures.value c.take_in.ensures.next;
      close = c.take_in.ensures.close;
      left = left_next c.self.inside.quarter c.self.inside.facets.now c.self.inside.heights c.self.inside.base.z.0 c.self.inside.layer c.self.inside.order.items c.take_in.new.next c.take_in.new.active.items c.self.invariant.heights (subst (λ (z : ℤ). AreLeft c.self.inside.quarter c.self.inside.facets.now z c.self.inside.order.items c.take_in.new.next c.take_in.new.active.items) at here);
    }

pub returns-clause-layer : goal.returns-clause-layer
returns-clause-layer c =
    let at : c.sum.result.0 ≡ c.self.inside.base.z.0 +ℤ sample c.self.inside.heights c.self.inside.layer = height_is c.self.inside.heights c.self.inside.layer c.self.inside.base.z.0 c.sample.result.0 c.sum.result.0 c.sum.ensures c.sample.ensures in
    let here : AreLeft c.self.inside.quarter c.self.inside.facets.now c.sum.result.0 c.self.inside.order.items c.take_in.new.next c.take_in.new.active.items = subst (λ (ss : List Start). AreLeft c.self.inside.quarter c.self.inside.facets.now c.sum.result.0 ss c.take_in.new.next c.take_in.new.active.items) c.deref.ensures.value c.take_in.ensures.left in
    let done : (d : Start) → c.take_in.new.next < length c.self.inside.order.items → c.self.inside.layer < (get_or c.self.inside.order.items c.take_in.new.next d).first = subst (λ (ss : List Start). (d : Start) → c.take_in.new.next < length ss → c.self.inside.layer < (get_or ss c.take_in.new.next d).first) c.deref.ensures.value c.in_ok-take_in.ensures.done in
    c.in_ok-plane.ensures
    ∙ ap (λ fs. inside_of c.self.inside.bounds fs (the_corner c.self.inside.base c.sum.result)) c.deref-2.ensures.value
    ∙ layer_is c.self.inside.quarter c.self.inside.facets.now c.self.inside.heights c.self.inside.bounds c.self.inside.base (the_corner c.self.inside.base c.sum.result) c.self.inside.order.items c.take_in.new.next c.self.inside.layer c.take_in.new.active.items c.self.invariant.bounds (corner_is (turned_mesh c.self.inside.quarter c.self.inside.facets.now) c.self.inside.heights c.self.inside.layer c.self.inside.base c.sum.result c.self.invariant.base at) at c.self.invariant.starts c.self.invariant.rising done here
    ∙ ap (λ (s : Swept). slice_of s.mesh s.quarter s.heights s.layer) c.self.view_is
