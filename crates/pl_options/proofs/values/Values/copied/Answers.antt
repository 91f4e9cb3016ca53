use Rattle.std.proofs.Common.{◌≡◌, ◌∙◌, arith, ap, None, Some}
use Rattle.std.specs.FinMap as map
use Rattle.std.specs.FinMap.{get-empty}
use Rattle.pl_keys.specs.Keys.{place}
use Rattle.pl_options.specs.KeyMap.{key_cmp}
use Rattle.pl_options.proofs.KeyMaps.{same_values, insert_here, insert_apart}
use Rattle.pl_options.proofs.Rounds.{at, none_done, one_done, all_done, place_at}
use Rattle.pl_options.proofs.values.Values.copied.Goals as goal
use Rattle.pl_options.proofs.values.Values.copied.Goals.{in-Some+in_ok-copied+in_ok-put, in_default}

pub loop-key-init : goal.loop-key-init
loop-key-init c = none_done _ _ _ (λ q. ap (λ m. map.get m q) c.new-copy.ensures ∙ get-empty key_cmp q)

pub loop-key-preserved : goal.loop-key-preserved
loop-key-preserved c =
    let key = at c.all_keys-key-items.result.now c.loop-key.key-index in
    one_done (map.get c.loop-key.copy) (map.get c.match-get.copy) (map.get c.args.self.now) (λ _. None) c.all_keys-key-items.result.now c.loop-key.key-index c.all_keys-key-items.ensures c.loop-key-test.true c.loop-key.invariant
    (elim c.match-get.branch [
      | in-Some+in_ok-copied+in_ok-put w ↦ ap (λ m. map.get m key) (w.copy-is ∙ w.in_ok-put.ensures.ok) ∙ insert_here _ key _ ∙ ap Some w.in_ok-copied.ensures.value ∙ w.in-Some.ensures
      | in_default w ↦
          let there : place key ≡ c.loop-key.key-index = place_at _ _ c.all_keys-key-items.ensures c.loop-key-test.true in
          ap (λ m. map.get m key) w.copy-is ∙ c.loop-key.invariant.left key (omega arith) ∙ w.in_default.ensures
    ])
    (λ q other. elim c.match-get.branch [
      | in-Some+in_ok-copied+in_ok-put w ↦ ap (λ m. map.get m q) (w.copy-is ∙ w.in_ok-put.ensures.ok) ∙ insert_apart _ key _ q other
      | in_default w ↦ ap (λ m. map.get m q) w.copy-is
    ])

pub returns : goal.returns
returns c = same_values _ _ (all_done _ _ _ _ _ c.all_keys-key-items.ensures c.loop-key-test.false c.loop-key.invariant)
