use Rattle.pl_model.proofs.Kept.{get-put_over}
use Rattle.pl_model.proofs.laws.settings_go_over_the_configuration.Goals as goal

pub returns : goal.returns
returns c = get-put_over
