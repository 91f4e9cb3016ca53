use Rattle.std.proofs.Common.{◌≡◌, ◌+◌, drop, get_or, length, map, ap, sym, subst, ◌∙◌, arith}
use Rattle.std.specs.Prelude.{All}
use Rattle.std.specs.Arc.{arc_value}
use Rattle.std.specs.Vec.Iter.{into_iter_items}
use Rattle.std.proofs.lemmas.Grind.{common_steps}
use Rattle.std.proofs.lemmas.List.Elements.{All-drop}
use Rattle.pl_epochs.specs.Words.{table_of}
use Rattle.pl_order.specs.Ended.{commands_for}
use Rattle.pl_turn.specs.Passes.{number}
use Rattle.pl_runs.specs.Places.{AreFresh, IsIdle}
use Rattle.pl_runs.specs.Script.{IsCallable, commands_at}
use Rattle.pl_runs.specs.Seats.{AreSeated, HasFirst, HasSeat, IsFirstSeated, IsSeated}
use Rattle.pl_runs.proofs.Lists.{none_all, pushed_all, room_for_one, room_left, room_stays}
use Rattle.pl_runs.proofs.Rows.{at_next, commands_are, first_commands, first_more, idle_is, left_next, part_is, pushed_map, seated_actor, seated_idle, seated_start}
use Rattle.pl_runs.proofs.seating.seat_each.Goals as goal

pub next_commands-opening-requires : goal.next_commands-opening-requires
next_commands-opening-requires g c = record { callable = subst (λ l. All IsCallable (map (λ s. map arc_value s.items) l)) (sym c.into_iter-sessions.ensures.rest) c.requires.begins.callable }

pub loop-pass-init : goal.loop-pass-init
loop-pass-init g c = let t = g.T.Technology in
    let given = map (λ s. map arc_value s.items) c.args.sessions.items in
    let script = commands_at given in
    let gives = c.into_iter-pass-iterator.ensures.into_iter_gives.0 in
    let n = c.next_commands-opening.ensures in
    let s = c.seat_first-crews.ensures in
    let began = ap (λ l. map (λ s. map arc_value s.items) l) c.into_iter-sessions.ensures.rest in
    let left = n.rest ∙ ap (drop 1) began in
    let own : script 1 ≡ map arc_value c.next_commands-opening.result.items = sym (n.first ∙ ap (λ l. commands_at l 1) began) in
    let long = c.requires.begins.long in
    let gone = ap length gives in
    let few = s.long in
    let room = s.room in
    let crews_ok = c.seat_first-crews.result.0.ok.0 in
    let none = c.requires.empty.1 in
    let idle_ok = c.args.idle.ok.0 in
    let idle_none = ap length none in
    let idle_room = c.requires.room.1 in record {
      fresh = subst (AreFresh c.args.desk.now.lock.now 2) (sym gives) c.requires.begins.rest_fresh;
      long = omega (arith, long, gone);
      high = omega arith;
      left = left;
      callable = subst (All IsCallable) (sym left) (All-drop IsCallable 1 given c.requires.begins.callable);
      reads = c.reader-seat_of_one.ensures.table.0 ∙ c.requires.begins.reader;
      crewed = λ k d lt. let it = s.crews k d lt in let x = get_or c.seat_first-crews.result.0.items k d in (
        it.0,
        it.1,
        subst (λ cs. IsSeated t.meaning t.job_value t.runs c.args.desk.now.lock.now (table_of c.args.desk.now.epochs.now) cs x.actor x.runner)
            (first_commands script _ (λ c. c.actor) _ c.seat_first-crews.result.0.items own s.alone k d lt) it.2,
      );
      one = s.first;
      unused = none_all c.args.idle.items (λ p. IsIdle c.args.desk.now.lock.now p) none;
      seated = subst (λ l. AreSeated script c.args.desk.now.workers 2 (map (λ c. c.actor) c.seat_first-crews.result.0.items) (map (λ p. number p) l)) (sym none)
          (seated_start script c.args.desk.now.workers _ _ (subst (IsFirstSeated c.seat_first-crews.result.1 (map (λ c. c.actor) c.seat_first-crews.result.0.items)) (sym own) s.alone));
      room = omega (arith, long, gone, few, room, crews_ok);
      idle_room = omega (arith, long, gone, idle_ok, idle_none, idle_room);
    }

pub seat-requires : goal.seat-requires
seat-requires g c = let was = c.loop-pass.invariant in
    let it = c.in-Some.ensures.steps.0 in
    let fresh = subst (AreFresh c.args.desk.now.lock.now (c.loop-pass.number + 1)) it was.fresh in
    let long = was.long in
    let items = ap length it in
    let high = was.high in record {
      sits = record {
        within = (omega arith, omega (arith, long, items));
        few_workers = c.requires.begins.few_workers;
        fresh = fresh.0;
        first_split = λ one. absurd (omega (arith, one, high));
        reader = c.reader-chair.ensures.table.1 ∙ was.reads;
        callable = c.next_commands-commands.ensures.callable;
      };
    }

pub push_reserved-requires : goal.push_reserved-requires
push_reserved-requires g c = room_for_one _ _ c.in-Some.pass _ _ c.in-Some.ensures.steps.0 c.loop-pass.invariant.room

pub push_reserved-requires-in-Err : goal.push_reserved-requires-in-Err
push_reserved-requires-in-Err g c = room_for_one _ _ c.in-Some.pass _ _ c.in-Some.ensures.steps.0 c.loop-pass.invariant.idle_room

pub loop-pass-preserved-in-Ok : goal.loop-pass-preserved-in-Ok
loop-pass-preserved-in-Ok g c = let t = g.T.Technology in
    let given = map (λ s. map arc_value s.items) c.args.sessions.items in
    let script = commands_at given in
    let was = c.loop-pass.invariant in
    let it = c.in-Some.ensures.steps.0 in
    let fresh = subst (AreFresh c.args.desk.now.lock.now (c.loop-pass.number + 1)) it was.fresh in
    let n = c.next_commands-commands.ensures in
    let left = left_next given c.loop-pass.number _ _ was.left n.rest in
    let own = at_next given c.loop-pass.number _ _ was.left n.first in
    let s = c.in-Ok.ensures in
    let pushed = c.push_reserved.ensures in
    let crew = c.in-Ok.crew in
    let actors = pushed_map (λ c. c.actor) c.loop-pass.crews.items _ crew pushed.items in
    let long = was.long in
    let items = ap length it in
    let high = was.high in
    let is = s.actor in
    let part = part_is script _ c.args.desk.now.workers (c.loop-pass.number + 1) crew.actor own s.actor s.part in record {
      fresh = fresh.1;
      long = omega (arith, long, items);
      high = omega arith;
      left = left;
      callable = subst (All IsCallable) (sym n.rest) (All-drop IsCallable 1 _ was.callable);
      reads = c.reader-chair.ensures.table.0 ∙ was.reads;
      crewed = pushed_all c.loop-pass.crews.items _ crew (λ x. HasSeat t.meaning t.job_value t.runs c.args.desk.now.lock.now (table_of c.args.desk.now.epochs.now) (commands_for script x.actor) x.lock.now (table_of x.epochs.now) x.actor x.runner) pushed.items was.crewed
          (s.lock.0, ap table_of s.lock.1, subst (λ cs. IsSeated t.meaning t.job_value t.runs c.args.desk.now.lock.now (table_of c.args.desk.now.epochs.now) cs crew.actor crew.runner) (commands_are script _ (c.loop-pass.number + 1) crew.actor own s.actor) s.runner);
      one = subst (HasFirst c.args.desk.now.lock.now c.seat_first-crews.result.1) (sym actors) (first_more c.args.desk.now.lock.now c.seat_first-crews.result.1 _ crew.actor was.one (omega (arith, is, high)));
      unused = was.unused;
      seated = subst (λ l. AreSeated script c.args.desk.now.workers ((c.loop-pass.number + 1) + 1) l (map (λ p. number p) c.loop-pass.idle.items)) (sym actors)
          (seated_actor script c.args.desk.now.workers (c.loop-pass.number + 1) _ _ crew.actor was.seated s.actor part);
      room = room_left _ _ c.in-Some.pass _ _ _ _ it pushed.len pushed.capacity was.room;
      idle_room = room_stays _ _ c.in-Some.pass _ _ it was.idle_room;
    }

pub loop-pass-preserved : goal.loop-pass-preserved
loop-pass-preserved g c = let t = g.T.Technology in
    let given = map (λ s. map arc_value s.items) c.args.sessions.items in
    let script = commands_at given in
    let was = c.loop-pass.invariant in
    let it = c.in-Some.ensures.steps.0 in
    let fresh = subst (AreFresh c.args.desk.now.lock.now (c.loop-pass.number + 1)) it was.fresh in
    let n = c.next_commands-commands.ensures in
    let left = left_next given c.loop-pass.number _ _ was.left n.rest in
    let own = at_next given c.loop-pass.number _ _ was.left n.first in
    let s = c.in-Err.ensures in
    let pushed = c.push_reserved-in-Err.ensures in
    let pass = c.in-Err.pass in
    let numbers = pushed_map (λ p. number p) c.loop-pass.idle.items _ pass pushed.items in
    let long = was.long in
    let items = ap length it in
    let high = was.high in
    let mine = subst (λ p. number p ≡ c.loop-pass.number + 1) (sym s.idle.0) fresh.0.number_is in record {
      fresh = fresh.1;
      long = omega (arith, long, items);
      high = omega arith;
      left = left;
      callable = subst (All IsCallable) (sym n.rest) (All-drop IsCallable 1 _ was.callable);
      reads = c.reader-chair.ensures.table.0 ∙ was.reads;
      crewed = was.crewed;
      one = was.one;
      unused = pushed_all c.loop-pass.idle.items _ pass (λ p. IsIdle c.args.desk.now.lock.now p) pushed.items was.unused (subst (λ p. IsIdle c.args.desk.now.lock.now p) (sym s.idle.0) (idle_is c.args.desk.now.lock.now (c.loop-pass.number + 1) _ fresh.0 (omega (arith, high))));
      seated = subst (λ ns. AreSeated script c.args.desk.now.workers ((c.loop-pass.number + 1) + 1) (map (λ c. c.actor) c.loop-pass.crews.items) ns) (sym numbers)
          (seated_idle script c.args.desk.now.workers (c.loop-pass.number + 1) _ _ (number pass) was.seated mine (λ small. own ∙ s.idle.1.0 small));
      room = room_stays _ _ c.in-Some.pass _ _ it was.room;
      idle_room = room_left _ _ c.in-Some.pass _ _ _ _ it pushed.len pushed.capacity was.idle_room;
    }

pub returns : goal.returns
returns g c = let was = c.loop-pass.invariant in
    let given = map (λ s. map arc_value s.items) c.args.sessions.items in
    let spent : length (into_iter_items c.loop-pass.pass-iterator) ≡ 0 = grind (arith, common_steps) in
    let long = was.long in
    let last : c.loop-pass.number + 1 ≡ 25 = omega (arith, long, spent) in record {
      crews = was.crewed;
      first = was.one;
      idle = was.unused;
      seated = subst (λ n. AreSeated (commands_at given) c.args.desk.now.workers n (map (λ c. c.actor) c.loop-pass.crews.items) (map (λ p. number p) c.loop-pass.idle.items)) last was.seated;
    }
