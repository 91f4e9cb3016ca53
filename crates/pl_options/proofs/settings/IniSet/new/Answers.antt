use Rattle.std.proofs.Common.{subst, sym}
use Rattle.std.specs.Option.{IfSome}
use Rattle.pl_keys.specs.Values.{IsValueOf}
use Rattle.pl_options.specs.KeyMap.{Fits}
use Rattle.pl_options.proofs.Kept.{each_empty}
use Rattle.pl_options.proofs.settings.IniSet.new.Goals as goal

pub invariant_of-result : goal.invariant_of-result
invariant_of-result c = subst Fits (sym c.new.ensures) (each_empty (λ q o. IfSome o (IsValueOf q)) (λ q. tt))
