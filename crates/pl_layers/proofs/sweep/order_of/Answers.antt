use Rattle.std.proofs.Common.{rules}
use Rattle.std.proofs.lemmas.List.Sorted.{IsNonDecreasingBy-from_sort_by_key, All-permutation}
use Rattle.pl_layers.specs.declared.sweep.Start.{Start}
use Rattle.pl_layers.specs.Sweeps.{IsStart}
use Rattle.pl_layers.proofs.Sweeping.{counted_moved}
use Rattle.pl_layers.proofs.sweep.order_of.Goals as goal

pub returns-clause-starts : goal.returns-clause-starts
returns-clause-starts c = All-permutation (IsStart c.args.quarter c.args.facets.now c.args.heights c.args.floor.now.0) _ _ c.sort_unstable_by_key.ensures.permutation c.in_ok-order.ensures.starts

pub returns-clause-counted : goal.returns-clause-counted
returns-clause-counted c = counted_moved c.args.quarter c.args.facets.now _ _ c.in_ok-order.ensures.counted c.sort_unstable_by_key.ensures.permutation

pub returns-clause-rising : goal.returns-clause-rising
returns-clause-rising c = IsNonDecreasingBy-from_sort_by_key (λ (s : Start). s.first) _ c.sort_unstable_by_key.ensures.sorted (λ a r q k. search rules)
