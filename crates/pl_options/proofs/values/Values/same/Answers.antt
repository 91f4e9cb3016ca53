use Rattle.std.proofs.Common.{◌≡◌, rules, tests}
use Rattle.std.specs.FinMap.{get}
use Rattle.std.proofs.lemmas.Iterator.{cases_from_all, YieldsList-from_slice}
use Rattle.pl_options.proofs.Rounds.{all_alike}
use Rattle.pl_options.proofs.values.Values.same.Goals as goal

pub returns : goal.returns
returns c =
    let m = c.args.self.now in
    let n = c.args.other.now in
    all_alike _ m n c.all_keys.result.now c.all_keys.ensures
    (cases_from_all _ _ _ (λ key. get m key ≡ get n key) (λ key. get m key ≡ get n key → ⊥) c.all.ensures.ran (YieldsList-from_slice c.all_keys.result.now cc) (λ x q k. search (rules, tests)) (λ x q k. search (rules, tests)))
