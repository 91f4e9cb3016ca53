-- That plates have meshes alike goes onwards.
use Rattle.std.proofs.Common.{refl, ◌∙◌}
use Rattle.pl_tech.specs.Sharing.{IsSharing}
use Rattle.pl_model.specs.Meshes.{SharesMesh}

pub shares_meshes : IsSharing SharesMesh
shares_meshes = record { itself = λ a n _. refl; onwards = λ a b c n ab bc low. ab low ∙ bc low }
