use Rattle.std.proofs.Common.{map}
use Rattle.std.specs.Arc.{arc_value}
use Rattle.pl_runs.specs.Script.{commands_at}
use Rattle.pl_runs.proofs.run.run_sessions.Goals as goal

pub split_all-requires : goal.split_all-requires
split_all-requires g c = let e = c.in_ok-start.ensures in record {
  fresh = record { lock_is = e.lock; number_is = e.number; seen_is = e.seen; own_are = e.own; joined_are = e.joined };
  splits = e.splits;
}

pub ended-requires : goal.ended-requires
ended-requires g c = let d = c.in_ok-done.ensures in record {
  first = d.first;
  accounts = d.accounts;
  idle = d.idle;
  all = d.seated.cover;
}

pub returns : goal.returns
returns g c = let d = c.in_ok-done.ensures in
    let script = commands_at (map (λ s. map arc_value s.items) c.args.sessions.items) in record {
      complete = c.ended.ensures.complete script c.args.workers d.seated d.ended;
      runs = c.ended.ensures.runs script c.args.workers d.seated d.ended;
    }
