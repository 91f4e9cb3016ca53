use Rattle.pl_tower.proofs.LawLemmas.{changes_others, few_changes}
use Rattle.pl_tower.proofs.laws.changes_are_the_others.Goals as goal

pub returns-clause-others : goal.returns-clause-others
returns-clause-others c = changes_others

pub returns-clause-few : goal.returns-clause-few
returns-clause-few c = few_changes
