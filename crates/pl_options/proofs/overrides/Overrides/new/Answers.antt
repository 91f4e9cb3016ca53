use Rattle.std.proofs.Common.{◌≡◌, true, subst, sym}
use Rattle.std.specs.Option.{IfSome}
use Rattle.pl_keys.specs.Keys.{is_object_key}
use Rattle.pl_keys.specs.Values.{IsValueOf}
use Rattle.pl_options.specs.KeyMap.{IsOverrides}
use Rattle.pl_options.proofs.Kept.{each_empty}
use Rattle.pl_options.proofs.overrides.Overrides.new.Goals as goal

pub invariant_of-result : goal.invariant_of-result
invariant_of-result c = subst IsOverrides (sym c.new.ensures) (each_empty (λ q o. IfSome o (λ value. (is_object_key q ≡ true) × IsValueOf q value)) (λ q. tt))
