use Rattle.std.proofs.Common.{◌≡◌, ◌∙◌, arith, ap, refl, subst, sym, Some, None}
use Rattle.std.specs.FinMap as map
use Rattle.std.specs.Option.{option_or, IfSome}
use Rattle.pl_keys.specs.Keys.{place}
use Rattle.pl_keys.specs.Values.{IsValueOf}
use Rattle.pl_options.proofs.KeyMaps.{insert_here, insert_apart, remove_here, remove_apart}
use Rattle.pl_options.proofs.Rounds.{at, place_at, none_done, one_done, all_done}
use Rattle.pl_options.proofs.config.Config.put_all.Goals as goal
use Rattle.pl_options.proofs.config.Config.put_all.Goals.{in-Some, in_default}

pub loop-key-init : goal.loop-key-init
loop-key-init c = record { config = none_done _ _ _ (λ q. refl); rest = none_done _ _ _ (λ q. ap (λ m. map.get m q) c.into_values-rest.ensures.values) }

pub put-requires : goal.put-requires
put-requires c =
    let key = at c.all_keys-key-items.result.now c.loop-key.key-index in
    let there : place key ≡ c.loop-key.key-index = place_at _ _ c.all_keys-key-items.ensures c.loop-key-test.true in
    let set : Some c.in-Some.value ≡ map.get c.into_values-rest.result key =
    c.in-Some.ensures.value ∙ c.loop-key.invariant.rest.left key (omega arith) ∙ sym (ap (λ m. map.get m key) c.into_values-rest.ensures.values) in
    subst (λ o. IfSome o (IsValueOf key)) (sym set) (c.into_values-rest.ensures.fits key)

pub loop-key-preserved : goal.loop-key-preserved
loop-key-preserved c =
    let keys = c.all_keys-key-items.result.now in
    let i = c.loop-key.key-index in
    let key = at keys i in
    let there : place key ≡ i = place_at _ _ c.all_keys-key-items.ensures c.loop-key-test.true in
    let old = c.args.self.now in
    let set = c.args.set.values in
    let had : map.get c.loop-key.rest key ≡ map.get set key = c.loop-key.invariant.rest.left key (omega arith) in
    record {
      config =
          one_done (map.get c.loop-key.self) (map.get c.match-take.self) (λ q. option_or (map.get set q) (map.get old q)) (map.get old) keys i c.all_keys-key-items.ensures c.loop-key-test.true c.loop-key.invariant.config
          (elim c.match-take.branch [
            | in-Some w ↦ ap (λ m. map.get m key) (w.self-is ∙ w.put.ensures.put) ∙ insert_here _ key _ ∙ ap (λ o. option_or o (map.get old key)) (w.in-Some.ensures.value ∙ had)
            | in_default w ↦
                ap (λ m. map.get m key) w.self-is ∙ c.loop-key.invariant.config.left key (omega arith)
                ∙ ap (λ o. option_or o (map.get old key)) (w.in_default.ensures.value ∙ had)
          ])
          (λ q other. elim c.match-take.branch [
            | in-Some w ↦ ap (λ m. map.get m q) (w.self-is ∙ w.put.ensures.put) ∙ insert_apart _ key _ q other
            | in_default w ↦ ap (λ m. map.get m q) w.self-is
          ]);
      rest =
          one_done (map.get c.loop-key.rest) (map.get c.take.new.self) (λ _. None) (map.get set) keys i c.all_keys-key-items.ensures c.loop-key-test.true c.loop-key.invariant.rest
          (ap (λ m. map.get m key) c.take.ensures.rest ∙ remove_here _ key)
          (λ q other. ap (λ m. map.get m q) c.take.ensures.rest ∙ remove_apart _ key q other);
    }

pub returns : goal.returns
returns c = all_done _ _ _ _ _ c.all_keys-key-items.ensures c.loop-key-test.false c.loop-key.invariant.config
