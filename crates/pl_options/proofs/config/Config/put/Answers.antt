use Rattle.std.proofs.Common.{◌≡◌, ◌∙◌, ap, subst, sym}
use Rattle.std.specs.FinMap as map
use Rattle.std.specs.Option.{IsSomeAnd}
use Rattle.pl_keys.specs.Values.{IsValueOf}
use Rattle.pl_options.specs.KeyMap.{IsConfig}
use Rattle.pl_options.proofs.KeyMaps.{insert_here, insert_apart}
use Rattle.pl_options.proofs.Kept.{each_put}
use Rattle.pl_options.proofs.config.Config.put.Goals as goal

pub invariant_of-self : goal.invariant_of-self
invariant_of-self c =
    let new : c.put.new.self ≡ map.insert c.self.inside.values c.args.key c.args.value = rw c.unwrap.ensures at c.put.ensures.ok in
    subst IsConfig (sym new) (each_put (λ q o. IsSomeAnd o (IsValueOf q)) _ c.args.key c.args.value c.self.invariant c.requires)

pub returns-clause-value : goal.returns-clause-value
returns-clause-value c =
    let new : c.put.new.self ≡ map.insert c.self.inside.values c.args.key c.args.value = rw c.unwrap.ensures at c.put.ensures.ok in
    ap (λ m. map.get m c.args.key) new ∙ insert_here _ c.args.key c.args.value

pub returns-clause-others : goal.returns-clause-others
returns-clause-others c other apart =
    let new : c.put.new.self ≡ map.insert c.self.inside.values c.args.key c.args.value = rw c.unwrap.ensures at c.put.ensures.ok in
    ap (λ m. map.get m other) new ∙ insert_apart _ c.args.key c.args.value other apart ∙ ap (λ m. map.get m other) c.self.view_is
