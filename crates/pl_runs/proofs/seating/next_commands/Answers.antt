use Rattle.std.proofs.Common.{◌≡◌, [], drop, length, get_or, map, ap, sym, subst, ◌∙◌, arith}
use Rattle.std.proofs.lemmas.Grind.{common_steps}
use Rattle.std.proofs.lemmas.List.Elements.{All-nil}
use Rattle.std.specs.Arc.{arc_value}
use Rattle.std.specs.Vec.Iter.{into_iter_items}
use Rattle.pl_machine.specs.Calls.{NamesSession}
use Rattle.pl_runs.specs.Script.{IsCallable}
use Rattle.pl_runs.proofs.Lists.{all_next, length_none}
use Rattle.pl_runs.proofs.seating.next_commands.Goals as goal

pub returns-in-Some : goal.returns-in-Some
returns-in-Some g c = let e = c.in-Some.ensures.cases.0 in record {
  first = sym (ap (λ l. get_or (map (λ s. map arc_value s.items) l) 0 []) e);
  rest = sym (ap (λ l. drop 1 (map (λ s. map arc_value s.items) l)) e);
  callable = (all_next IsCallable _ _ _ (ap (map (λ s. map arc_value s.items)) e) c.requires.callable).0;
}

pub returns-in-None : goal.returns-in-None
returns-in-None g c =
    let gone = c.in-None.ensures.cases in
    let none : length (into_iter_items c.args.sessions.now) ≡ 0 = grind (arith, common_steps) in
    let still : length (into_iter_items c.next.new.self) ≡ 0 = grind (arith, common_steps) in
    let old = length_none _ none in
    let new = length_none _ still in
    let mine = ap (map arc_value) c.new.ensures.items in record {
      first = mine ∙ sym (ap (λ l. get_or (map (λ s. map arc_value s.items) l) 0 []) old);
      rest = ap (map (λ s. map arc_value s.items)) new ∙ sym (ap (λ l. drop 1 (map (λ s. map arc_value s.items) l)) old);
      callable = subst IsCallable (sym mine) (omega arith, All-nil NamesSession);
    }
