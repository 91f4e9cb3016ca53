use Rattle.std.proofs.Common.{◌∙◌, ap}
use Rattle.pl_script.specs.Orders.{block_named}
use Rattle.pl_script.proofs.Apart.{named_by_key}
use Rattle.pl_script.proofs.script.Blocks.named.Goals as goal

pub returns-clause-block : goal.returns-clause-block
returns-clause-block c = c.get.ensures.value ∙ named_by_key (λ key. key.items) c.args.name.now c.self.inside.blocks.entries c.self.invariant.0 ∙ ap (λ blocks. block_named blocks c.args.name.now) c.self.view_is
