use Rattle.std.proofs.Common.{◌≡◌, ◌∷◌, ◌++◌, [], ◌≤◌, map, length, ap, sym, subst, ◌∙◌, arith, refl}
use Rattle.std.specs.Arc.{arc_value}
use Rattle.std.proofs.lemmas.List.Elements.{All-nil}
use Rattle.pl_epochs.specs.Words.{table_of}
use Rattle.pl_machine.specs.Tickets.{number_of}
use Rattle.pl_order.specs.Ended.{commands_for}
use Rattle.pl_turn.specs.Passes.{splits}
use Rattle.pl_runs.specs.Places.{IsFresh}
use Rattle.pl_runs.specs.Seats.{BeginsWithOne, HasSeat, IsSeated}
use Rattle.pl_runs.proofs.Lists.{none_all, one_all}
use Rattle.pl_runs.proofs.Rows.{first_is}
use Rattle.pl_runs.proofs.seating.seat_first.Goals as goal

pub returns-in-Ok : goal.returns-in-Ok
returns-in-Ok g c = let t = g.T.Technology in
    let s = c.in-Ok.ensures in
    let crew = c.in-Ok.crew in
    let mine = map arc_value c.args.commands.items in
    let one = first_is mine c.args.desk.now.workers crew.actor s.actor s.part in
    let pushed = c.push_reserved.ensures in
    let items = pushed.items ∙ ap (λ l. l ++ crew ∷ []) c.requires.empty in
    let actors = ap (λ l. map (λ c. c.actor) l) items ∙ ap (λ a. a ∷ []) one.0 in
    let long = ap length items in
    let same = pushed.capacity in
    let room = c.requires.room in record {
      crews = one_all _ crew (λ x. HasSeat t.meaning t.job_value t.runs c.args.desk.now.lock.now (table_of c.args.desk.now.epochs.now) mine x.lock.now (table_of x.epochs.now) x.actor x.runner) items
          (s.lock.0, ap table_of s.lock.1, subst (λ cs. IsSeated t.meaning t.job_value t.runs c.args.desk.now.lock.now (table_of c.args.desk.now.epochs.now) cs crew.actor crew.runner) (ap (commands_for (λ _. mine)) one.0) s.runner);
      first = subst BeginsWithOne (sym actors) (refl, All-nil (λ b. 2 ≤ number_of b));
      alone = (actors, one.1);
      long = omega (arith, long);
      room = omega (arith, room, same);
    }

pub returns-in-Err : goal.returns-in-Err
returns-in-Err g c = let t = g.T.Technology in
    let s = c.in-Err.ensures in
    let none = c.requires.empty in
    let actors = ap (λ l. map (λ c. c.actor) l) none in
    let long = ap length none in record {
      crews = none_all c.args.crews.items (λ x. HasSeat t.meaning t.job_value t.runs c.args.desk.now.lock.now (table_of c.args.desk.now.epochs.now) (map arc_value c.args.commands.items) x.lock.now (table_of x.epochs.now) x.actor x.runner) none;
      first = (subst (λ p. IsFresh c.args.desk.now.lock.now 1 p) (sym s.idle.0) c.requires.first, subst (λ p. splits p ≡ 23) (sym s.idle.0) c.requires.splits, none_all _ (λ b. 2 ≤ number_of b) actors);
      alone = (actors, s.idle.1.0 (omega arith));
      long = omega (arith, long);
      room = c.requires.room;
    }
