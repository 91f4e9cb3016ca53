use Rattle.std.proofs.Common.{◌≡◌, ◌∙◌, ap, true}
use Rattle.std.specs.FinMap as map
use Rattle.std.specs.Option.{IfSome}
use Rattle.pl_keys.specs.Keys.{is_object_key}
use Rattle.pl_keys.specs.Values.{IsValueOf}
use Rattle.pl_options.proofs.Kept.{each_tried, others_stay, value_stands}
use Rattle.pl_options.proofs.overrides.Overrides.put.Goals as goal

pub invariant_of-self : goal.invariant_of-self
invariant_of-self c =
    each_tried (λ q o. IfSome o (λ value. (is_object_key q ≡ true) × IsValueOf q value)) c.self.inside.values c.put.new.self c.args.key c.args.value _ c.put.ensures.ok c.put.ensures.err c.self.invariant (c.requires.object, c.requires.fits)

pub returns-clause-value : goal.returns-clause-value
returns-clause-value c = value_stands c.self.inside.values c.put.new.self c.args.key c.args.value _ c.put.ensures.ok

pub returns-clause-others : goal.returns-clause-others
returns-clause-others c other apart =
    others_stay c.self.inside.values c.put.new.self c.args.key c.args.value other _ c.put.ensures.ok c.put.ensures.err apart ∙ ap (λ m. map.get m other) c.self.view_is
