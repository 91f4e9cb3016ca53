use Rattle.std.proofs.Common.{◌≡◌, ℕ, true, rules, ap, sym, ◌∙◌}
use Rattle.pl_tech.specs.Slots.{has}
use Rattle.pl_machine.proofs.state.State.is_open.Goals as goal

-- what a present slot needs is present, and so a slot
pub returns-then-has : goal.returns-then-has
returns-then-has g c =
    let m = g.T.Technology.meaning in
    let laws = g.met.T.Technology.laws in
    let st = c.args.self.now in
    let here : m.present st.applied c.args.slot ≡ true = sym (c.requires c.args.slot) ∙ sym c.has.ensures ∙ c.if-has.true in
    let same : (n : ℕ) → has c.needs.result n ≡ m.needs st.applied c.args.slot n =
    λ n. c.needs.ensures n ∙ (λ i. m.needs (c.applied.ensures i) c.args.slot n) ∙ ap (λ s. m.needs s.applied c.args.slot n) c.self.view_is in (
      (λ all. record {
        invalid = search rules;
        ready = record {
          present = here;
          needed = λ n need. c.all_done.ensures.0 all n (laws.present_below st.applied n (laws.needs_present st.applied c.args.slot n here need)) (same n ∙ need);
        };
      }),
      (λ is. c.all_done.ensures.1 (λ n low need. is.ready.needed n (sym (same n) ∙ need))),
    )
