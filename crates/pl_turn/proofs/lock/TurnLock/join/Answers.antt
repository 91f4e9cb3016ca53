use Rattle.std.proofs.Common.{arith, ap, sym, subst, ◌∙◌}
use Rattle.std.specs.Prelude.{All}
use mathlib.Core.List.{IsPrefix}
use Rattle.pl_turn.specs.History.{HasSeen, FitsHistory}
use Rattle.pl_turn.proofs.Drawing.{confirms}
use Rattle.pl_turn.proofs.Histories.{both_begin}
use Rattle.pl_turn.proofs.Joining.{joins_pass}
use Rattle.pl_turn.proofs.lock.TurnLock.join.Goals as goal

pub join_seat-requires : goal.join_seat-requires
join_seat-requires g c = let sized = c.args.self.now.sized in let idle = c.args.pass.now.idle in let rests = c.args.other.idle in (
  c.requires.lock.0,
  c.requires.other_lock.0,
  rests.2,
  omega arith,
  joins_pass _ _ _ _ c.args.pass.now.seat.id c.args.pass.now.seat.me.0 c.args.other.seat.id c.args.other.seat.me.0 idle.0 rests.0 idle.1 rests.1 c.requires.not_first,
)

pub load-requires : goal.load-requires
load-requires g c = let sized = c.args.self.now.sized in (
  c.join_seat.ensures.0 ∙ c.requires.lock.0,
  omega arith,
  confirms _ _ _ _ _ _ _ (ap (λ m. m.0.live) c.join_seat.ensures.2 ∙ c.args.pass.now.idle.0),
)

pub returns-clause-fits : goal.returns-clause-fits
returns-clause-fits g c = let told = c.load.ensures.2 in subst (λ m. FitsHistory g.V.Turned.caller m.0 m.0.seen) (sym told.0) told.1

pub returns-clause-keeps : goal.returns-clause-keeps
returns-clause-keeps g c =
    let v = c.args.pass.now.seat.me.0 in
    let w = c.args.other.seat.me.0 in
    let told = c.load.ensures.2 in
    let both = both_begin v w (subst (λ m. All (HasSeen m.0.seen) m.0.joined) c.join_seat.ensures.2 told.1.2) in
    subst (λ m. IsPrefix v.seen m.0.seen) (sym (told.0 ∙ c.join_seat.ensures.2)) both.0

pub returns-clause-gains : goal.returns-clause-gains
returns-clause-gains g c =
    let v = c.args.pass.now.seat.me.0 in
    let w = c.args.other.seat.me.0 in
    let told = c.load.ensures.2 in
    let both = both_begin v w (subst (λ m. All (HasSeen m.0.seen) m.0.joined) c.join_seat.ensures.2 told.1.2) in
    subst (λ m. IsPrefix w.seen m.0.seen) (sym (told.0 ∙ c.join_seat.ensures.2)) both.1
