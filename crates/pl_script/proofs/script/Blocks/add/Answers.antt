use Rattle.std.proofs.Common.{◌≡◌, ◌∙◌, ◌++◌, ◌∷◌, [], None, ap, sym, subst}
use Rattle.std.specs.Str.{bytes_eq}
use Rattle.std.specs.Map.{values_of}
use Rattle.indexmap.proofs.CallerLemmas.{insert_entry-new}
use Rattle.pl_script.specs.Orders.{block_named}
use Rattle.pl_script.specs.Kept.{IsBlocks, IsKeyed}
use Rattle.pl_script.proofs.Apart.{blocks_added, absent_key, keyed_added, values_added}
use Rattle.pl_script.proofs.script.Blocks.add.Goals as goal

pub invariant_of-self-2 : goal.invariant_of-self-2
invariant_of-self-2 c =
    let old = c.self.inside.blocks in
    let key = c.in_ok-name.name in
    let named : key.items ≡ c.args.block.name = c.in_ok-name.ensures.items ∙ c.name.ensures ∙ ap (λ b. b.name) c.get.ensures in
    let new : block_named (values_of old.entries) c.args.block.name ≡ None = ap (λ blocks. block_named blocks c.args.block.name) c.self.view_is ∙ c.requires.new in
    let added = c.in_ok-insert.ensures.entries ∙ insert_entry-new (λ a b. bytes_eq a.items b.items) old key c.args.block (absent_key (λ k. k.items) old.entries key c.args.block c.self.invariant.0 named new) in (
      subst (λ es. IsKeyed es (λ k. k.items)) (sym added) (keyed_added (λ k. k.items) old.entries key c.args.block c.self.invariant.0 named),
      subst IsBlocks (sym (ap values_of added ∙ values_added old.entries key c.args.block)) (blocks_added (values_of old.entries) c.args.block c.self.invariant.1 new c.requires.named),
    )

pub returns-clause-ok : goal.returns-clause-ok
returns-clause-ok c =
    let old = c.self.inside.blocks in
    let key = c.in_ok-name.name in
    let named : key.items ≡ c.args.block.name = c.in_ok-name.ensures.items ∙ c.name.ensures ∙ ap (λ b. b.name) c.get.ensures in
    let new : block_named (values_of old.entries) c.args.block.name ≡ None = ap (λ blocks. block_named blocks c.args.block.name) c.self.view_is ∙ c.requires.new in
    let added = c.in_ok-insert.ensures.entries ∙ insert_entry-new (λ a b. bytes_eq a.items b.items) old key c.args.block (absent_key (λ k. k.items) old.entries key c.args.block c.self.invariant.0 named new) in
    ap values_of added ∙ values_added old.entries key c.args.block ∙ ap (λ blocks. blocks ++ c.args.block ∷ []) c.self.view_is
