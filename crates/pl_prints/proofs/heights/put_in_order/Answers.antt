use Rattle.std.specs.Ordering.{int_eq}
use Rattle.std.proofs.lemmas.List.Filters.{dedup_is}
use Rattle.pl_prints.proofs.OrderLemmas.{put_is}
use Rattle.pl_prints.proofs.heights.put_in_order.Goals as goal

pub returns : goal.returns
returns c =
    put_is c.args.numbers.now.items c.sort_unstable.new.self.items c.dedup.new.self.items c.sort_unstable.ensures.permutation c.sort_unstable.ensures.sorted
    (dedup_is int_eq c.sort_unstable.new.self.items c.dedup.new.self.items c.dedup.ensures.filtered)
