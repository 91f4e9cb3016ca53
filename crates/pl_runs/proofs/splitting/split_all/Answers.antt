use Rattle.std.proofs.Common.{[], ◌∷◌, length, arith, ap, sym, subst, ◌∙◌}
use Rattle.std.proofs.lemmas.List.{length-append}
use Rattle.pl_runs.specs.Places.{AreFresh}
use Rattle.pl_runs.proofs.Joins.{fresh_push}
use Rattle.pl_runs.proofs.splitting.split_all.Goals as goal

pub loop-k-init : goal.loop-k-init
loop-k-init g c = let none = c.in_ok-rest.ensures.items in record {
  fresh = subst (AreFresh c.args.lock.now 2) (sym none) tt;
  long = ap length none;
  one = c.requires.fresh;
  count = c.requires.splits;
  room = c.in_ok-rest.ensures.capacity;
}

pub loop-k-preserved : goal.loop-k-preserved
loop-k-preserved g c = let was = c.loop-k.invariant in let s = c.split-pass.ensures in let p = c.push_reserved.ensures in
    let long = was.long in
    let count = was.count in
    let number = s.number in
    let more = ap length p.items ∙ length-append c.loop-k.rest.items (c.split-pass.result ∷ []) in
    let room = was.room in
    let same = p.capacity in
    let raised = s.first_splits in record {
      fresh = subst (AreFresh c.args.lock.now 2) (sym p.items) (fresh_push c.args.lock.now 2 c.loop-k.rest.items c.split-pass.result was.fresh (record {
        lock_is = (s.lock.0 ∙ was.one.lock_is.0, s.lock.1 ∙ was.one.lock_is.1);
        number_is = omega (arith, number, count, long);
        seen_is = s.seen ∙ was.one.seen_is;
        own_are = s.own;
        joined_are = s.joined;
      }));
      long = omega (arith, more, long);
      one = record {
        lock_is = (s.first_lock.0 ∙ was.one.lock_is.0, s.first_lock.1 ∙ was.one.lock_is.1);
        number_is = s.first_number ∙ was.one.number_is;
        seen_is = s.first_seen ∙ was.one.seen_is;
        own_are = s.first_own ∙ was.one.own_are;
        joined_are = s.first_joined ∙ was.one.joined_are;
      };
      count = omega (arith, raised, count);
      room = omega (arith, room, same);
    }
