use Rattle.std.proofs.Common.{◌∙◌, ap, sym, subst, Some, None}
use Rattle.std.specs.FinMap as map
use Rattle.std.specs.FinMap.{get-empty}
use Rattle.std.specs.Option.{IfSome}
use Rattle.pl_keys.specs.Values.{IsValueOf, default_of}
use Rattle.pl_options.specs.KeyMap.{key_cmp, Fits}
use Rattle.pl_options.proofs.KeyMaps.{insert_here, insert_apart}
use Rattle.pl_options.proofs.Kept.{each_empty, each_put, is_there}
use Rattle.pl_options.proofs.Rounds.{at, none_done, one_done, all_done}
use Rattle.pl_options.proofs.config.Config.defaults.Goals as goal

pub loop-key-init : goal.loop-key-init
loop-key-init c = record {
  round = none_done _ _ _ (λ q. ap (λ m. map.get m q) c.new-values.ensures ∙ get-empty key_cmp q);
  fits = subst Fits (sym c.new-values.ensures) (each_empty (λ q o. IfSome o (IsValueOf q)) (λ q. tt));
}

pub loop-key-preserved : goal.loop-key-preserved
loop-key-preserved c =
    let key = at c.all_keys-key-items.result.now c.loop-key.key-index in
    record {
      round =
          one_done (map.get c.loop-key.values) (map.get c.put.new.self) (λ q. Some (default_of q)) (λ _. None) c.all_keys-key-items.result.now c.loop-key.key-index c.all_keys-key-items.ensures c.loop-key-test.true c.loop-key.invariant.round
          (ap (λ m. map.get m key) c.in_ok-put.ensures.ok ∙ insert_here _ key _ ∙ ap Some c.in_ok-default_value.ensures.value)
          (λ q other. ap (λ m. map.get m q) c.in_ok-put.ensures.ok ∙ insert_apart _ key _ q other);
      fits = subst Fits (sym c.in_ok-put.ensures.ok) (each_put (λ q o. IfSome o (IsValueOf q)) _ key _ c.loop-key.invariant.fits c.in_ok-default_value.ensures.fits);
    }

pub invariant_of-result : goal.invariant_of-result
invariant_of-result c q = is_there (IsValueOf q) _ (default_of q) (all_done _ _ _ _ _ c.all_keys-key-items.ensures c.loop-key-test.false c.loop-key.invariant.round q) (c.loop-key.invariant.fits q)

pub returns : goal.returns
returns c = all_done _ _ _ _ _ c.all_keys-key-items.ensures c.loop-key-test.false c.loop-key.invariant.round
