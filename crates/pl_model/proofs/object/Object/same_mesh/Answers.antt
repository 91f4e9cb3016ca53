use Rattle.std.proofs.Common.{◌∙◌, ap, refl}
use Rattle.pl_model.specs.declared.object.Object.{Object}
use Rattle.pl_model.proofs.Same.{objects_decided}
use Rattle.pl_model.proofs.object.Object.same_mesh.Goals as goal

pub returns : goal.returns
returns c =
    let x : Object = c.args.self.now in
    let y : Object = c.args.other.now in
    let decided = objects_decided x (record x { mesh = y.mesh }) c.eq.result _ _ (record { name = refl; quarter = refl; instances = refl }) refl c.eq.ensures (c.facets.ensures.facets ∙ c.get.ensures) (c.facets-2.ensures.facets ∙ c.get-2.ensures) in
    (λ t. ap (λ (o : Object). o.mesh) (decided.0 t), λ e. decided.1 (λ i. record x { mesh = e i }))
