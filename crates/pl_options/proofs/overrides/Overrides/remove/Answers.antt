use Rattle.std.proofs.Common.{◌≡◌, ◌∙◌, true, ap, subst, sym}
use Rattle.std.specs.FinMap as map
use Rattle.std.specs.Option.{IfSome}
use Rattle.pl_keys.specs.Keys.{is_object_key}
use Rattle.pl_keys.specs.Values.{IsValueOf}
use Rattle.pl_options.specs.KeyMap.{IsOverrides}
use Rattle.pl_options.proofs.KeyMaps.{remove_absent, remove_here, remove_apart}
use Rattle.pl_options.proofs.Kept.{each_removed}
use Rattle.pl_options.proofs.overrides.Overrides.remove.Goals as goal

pub invariant_of-self : goal.invariant_of-self
invariant_of-self c =
    subst IsOverrides (sym c.take.ensures.rest) (each_removed (λ q o. IfSome o (λ value. (is_object_key q ≡ true) × IsValueOf q value)) _ c.args.key c.self.invariant tt)

pub returns-clause-absent : goal.returns-clause-absent
returns-clause-absent c none =
    c.take.ensures.rest ∙ remove_absent c.self.inside.values c.args.key (ap (λ m. map.get m c.args.key) c.self.view_is ∙ none) ∙ c.self.view_is

pub returns-clause-gone : goal.returns-clause-gone
returns-clause-gone c = ap (λ m. map.get m c.args.key) c.take.ensures.rest ∙ remove_here _ c.args.key

pub returns-clause-others : goal.returns-clause-others
returns-clause-others c other apart =
    ap (λ m. map.get m other) c.take.ensures.rest ∙ remove_apart _ c.args.key other apart ∙ ap (λ m. map.get m other) c.self.view_is
