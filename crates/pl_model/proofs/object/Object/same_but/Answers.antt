use Rattle.std.proofs.Common.{ap}
use Rattle.pl_model.specs.declared.object.Object.{Object}
use Rattle.pl_model.specs.Same.{IsAlike}
use Rattle.pl_model.proofs.object.Object.same_but.Goals as goal

pub returns : goal.returns
returns c =
    let h : IsAlike c.args.self.now c.args.other.now = c.is_alike-alike.ensures.0 c.if-not-alike.false in
    let o = c.same-overrides.ensures.equal.0 c.if-not-overrides.false in
    (λ t i. record { name = h.name i; mesh = c.same_mesh.ensures.0 t i; quarter = h.quarter i; overrides = o i; instances = h.instances i }, λ k. c.same_mesh.ensures.1 (ap (λ (x : Object). x.mesh) k))
