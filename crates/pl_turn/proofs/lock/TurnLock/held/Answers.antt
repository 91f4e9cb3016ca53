use Rattle.std.proofs.Common.{ℕ, List, ◌∷◌, Option, Some, ap, sym, subst, ◌∙◌}
use Rattle.atomic_table.specs.Table.{rest}
use Rattle.pl_turn.specs.History.{FitsHistory}
use Rattle.pl_turn.proofs.Views.{slot_of}
use Rattle.pl_turn.proofs.Closing.{home_is}
use Rattle.pl_turn.proofs.lock.TurnLock.held.Goals as goal

pub exchange-requires : goal.exchange-requires
exchange-requires g c = let h = c.wait.ensures.found in let e = ap (λ m. m.1) h.1 in (
  c.wait.ensures.lock ∙ (c.draw-ticket.ensures.lock ∙ c.requires.lock.0),
  (Some h.0, e ∙ ap (λ (l : List (ℕ × Option g.row.V.Denot)). (0, Some h.0) ∷ l) (sym (ap rest e))),
)

pub returns-clause-fits : goal.returns-clause-fits
returns-clause-fits g c =
    let t = g.V.Turned in
    let h = c.wait.ensures.found in
    let f = subst (λ m. FitsHistory t.caller m.0 (t.history h.0)) c.draw-ticket.ensures.drawn h.3 in
    let same = home_is _ _ _ (ap slot_of (sym c.exchange.ensures.2 ∙ ap (λ m. m.1) h.1)) c.in-Some.is in
    subst (λ x. FitsHistory t.caller c.args.pass.seat.me.0 (t.history x)) same f
