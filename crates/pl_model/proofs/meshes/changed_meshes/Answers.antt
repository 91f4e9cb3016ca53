use Rattle.std.proofs.Common.{◌∙◌, ap, sym}
use Rattle.pl_model.specs.Meshes.{may_change}
use Rattle.pl_model.proofs.Keeping.{others_keep}
use Rattle.pl_model.proofs.meshes.changed_meshes.Goals as goal

pub returns-clause-keeps : goal.returns-clause-keeps
returns-clause-keeps c =
    let edit = c.args.edit.now in
    λ plate told place low free. others_keep plate edit place (ap (λ r. may_change edit r place) (sym told) ∙ sym (c.places_changed.ensures.places place low) ∙ free)
