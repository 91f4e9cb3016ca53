use Rattle.std.proofs.Common.{◌≡◌, ◌+◌, ◌≤◌, drop, length, map, vec_capacity, vec_len}
use Rattle.std.specs.Prelude.{All}
use Rattle.std.specs.Arc.{arc_value}
use Rattle.std.specs.Vec.Iter.{into_iter_items}
use Rattle.pl_epochs.specs.Words.{reads_at, table_of}
use Rattle.pl_order.specs.Ended.{commands_for}
use Rattle.pl_turn.specs.Passes.{number}
use Rattle.pl_runs.specs.Places.{AreFresh, IsIdle}
use Rattle.pl_runs.specs.Script.{IsCallable, commands_at}
use Rattle.pl_runs.specs.Seats.{AreSeated, HasFirst, HasSeat}
use Rattle.pl_runs.proofs.seating.seat_each.Given as goal

abbrev pub invariant-loop-pass : goal.invariant-loop-pass
invariant-loop-pass g l =
    let t = g.T.Technology in
    let given = map (λ s. map arc_value s.items) l.fn.sessions.items in
    let script = commands_at given in record {
      fresh : AreFresh l.desk.lock.now (l.number + 1) (into_iter_items l.pass-iterator);
      long : l.number + length (into_iter_items l.pass-iterator) ≡ 24;
      high : 1 ≤ l.number;
      left : map (λ s. map arc_value s.items) (into_iter_items l.sessions) ≡ drop l.number given;
      callable : All IsCallable (map (λ s. map arc_value s.items) (into_iter_items l.sessions));
      reads : reads_at l.reader ≡ table_of l.desk.epochs.now;
      crewed : All (λ c. HasSeat t.meaning t.job_value t.runs l.desk.lock.now (table_of l.desk.epochs.now) (commands_for script c.actor) c.lock.now (table_of c.epochs.now) c.actor c.runner) l.crews.items;
      one : HasFirst l.desk.lock.now l.first (map (λ c. c.actor) l.crews.items);
      unused : All (λ p. IsIdle l.desk.lock.now p) l.idle.items;
      seated : AreSeated script l.desk.workers (l.number + 1) (map (λ c. c.actor) l.crews.items) (map (λ p. number p) l.idle.items);
      room : vec_len l.crews + length (into_iter_items l.pass-iterator) ≤ vec_capacity l.crews;
      idle_room : vec_len l.idle + length (into_iter_items l.pass-iterator) ≤ vec_capacity l.idle;
    }
