use Rattle.std.proofs.Common.{◌∷◌, Some, rules, arith, ap, refl, sym, subst, ◌∙◌}
use Rattle.atomic_table.specs.Table.{rest}
use Rattle.pl_turn.specs.History.{Grows, FitsHistory}
use Rattle.pl_turn.specs.declared.view.View.{View}
use Rattle.pl_turn.proofs.Ending.{ends}
use Rattle.pl_turn.proofs.lock.TurnLock.give_back.Goals as goal

pub store-requires : goal.store-requires
store-requires g c =
    let X : Type 0 = g.row.V.Denot in
    let W : Type 0 = View g.row.V-Entry.Denot g.row.V-Home.Denot in
    let sized = c.args.self.now.sized in
    let held = c.args.held in
    let m = c.exchange-none.ensures.3 in
    let v = ap (λ p. p.0) m ∙ ap (λ p. p.0) held.out in
    let holds = ap (λ p. p.1) m ∙ ap (λ p. (0, Some c.args.value) ∷ rest p.1) held.out in
    let found = g.V.Turned.history held.taken.value in (
      search rules,
      omega arith,
      ends _ _ _ _ _ c.exchange-none.new.seat.id c.exchange-none.new.seat.me held.ticket _ c.args.value found
          sized.1
          (ap (λ (w : W). w.live) v ∙ held.pass.value.idle.0)
          (ap (λ (w : W). w.stage) v)
          holds
          (subst (λ (w : W). Grows g.V.Turned.caller w.number found (g.V.Turned.history c.args.value)) (sym v) c.requires.grows)
          (ap (λ (w : W). w.home) v ∙ (held.home ∙ ap Some (sym c.requires.home)))
          refl,
    )

pub returns-clause-fits : goal.returns-clause-fits
returns-clause-fits g c =
    let t = g.V.Turned in
    let holds = ap (λ p. p.1) c.exchange-none.ensures.3 ∙ ap (λ p. (0, Some c.args.value) ∷ rest p.1) c.args.held.out in
    let h = c.store.ensures.2 c.args.value holds in subst (λ m. FitsHistory t.caller m.0 m.0.seen) (sym h.0) h.1
