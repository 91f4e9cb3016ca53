use Rattle.pl_keys.proofs.Names.{some_named, only_named, none_unnamed}
use Rattle.pl_keys.proofs.key.key_of.Goals as goal

pub returns-clause-some : goal.returns-clause-some
returns-clause-some c = some_named c.first_named.result c.args.name.now c.first_named.ensures

pub returns-clause-none : goal.returns-clause-none
returns-clause-none c = none_unnamed c.first_named.result c.args.name.now c.first_named.ensures

pub returns-clause-only : goal.returns-clause-only
returns-clause-only c = only_named c.first_named.result c.args.name.now c.first_named.ensures
