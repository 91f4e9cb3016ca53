use Rattle.std.proofs.Common.{◌++◌, map, ap, subst, ◌∙◌, arith}
use Rattle.std.specs.Prelude.{All}
use Rattle.std.proofs.lemmas.List.Elements.{All-cons, All-weaker}
use Rattle.pl_order.specs.Order.{number_in}
use Rattle.pl_turn.specs.Passes.{joined}
use Rattle.pl_runs.specs.Places.{IsIdle, IsOther, IsPlaced, place_in, place_of}
use Rattle.pl_runs.proofs.Closing.{first_placed, joined_has, joined_placed, makers_are, places_have}
use Rattle.pl_runs.proofs.Lists.{prefix_trans}
use Rattle.pl_runs.proofs.ending.close_all.Goals as goal

pub join_idle-first-requires : goal.join_idle-first-requires
join_idle-first-requires g c = let p = c.part-first.ensures in let j = c.join_accounts-first.ensures in record {
  lock = (j.lock.0 ∙ p.lock.0, j.lock.1 ∙ p.lock.1);
  rest = All-weaker (λ p. IsIdle c.args.lock p) (λ p. IsOther c.args.lock p) (λ p h. h.0) c.args.idle.items c.requires.idle;
}

pub close-requires : goal.close-requires
close-requires g c = let p = c.part-first.ensures in let j = c.join_accounts-first.ensures in let i = c.join_idle-first.ensures in
    let places = i.joined ∙ ap (λ l. l ++ map place_of c.args.idle.items) (j.joined ∙ ap (λ l. map place_in l ++ map (λ a. place_of a.pass) c.part-first.result.1.items) p.joined) in record {
      lock = (i.lock.0 ∙ (j.lock.0 ∙ p.lock.0), i.lock.1 ∙ (j.lock.1 ∙ p.lock.1));
      first = i.number ∙ (j.number ∙ p.number);
      all = λ n low high. let splits = i.splits ∙ (j.splits ∙ p.splits) in
          joined_has (place_of c.part-first.result.0) (joined c.join_idle-first.result) _ _ n places (ap (λ l. l ++ map place_of c.args.idle.items) p.places) p.number low
          (places_have c.args.lock (λ a. a.actor) (λ a. a.pass) c.args.first c.args.accounts.items c.args.idle.items c.requires.accounts c.requires.all n low (omega (arith, splits, high)));
    }

pub returns : goal.returns
returns g c = let p = c.part-first.ensures in let j = c.join_accounts-first.ensures in let i = c.join_idle-first.ensures in let e = c.close.ensures in
    let log = c.close.result.journal in
    let places = i.joined ∙ ap (λ l. l ++ map place_of c.args.idle.items) (j.joined ∙ ap (λ l. map place_in l ++ map (λ a. place_of a.pass) c.part-first.result.1.items) p.joined) in
    let all = ap (λ l. l ++ map place_of c.args.idle.items) p.places in record {
      placed = subst (All (IsPlaced number_in log)) all (All-cons (IsPlaced number_in log) (place_of c.part-first.result.0) _
          (first_placed number_in log c.part-first.result.0 c.join_idle-first.result (i.number ∙ j.number) (i.own ∙ j.own) (prefix_trans _ _ _ j.seen i.seen) e.fits.0 e.fits.1.0)
          (joined_placed number_in log (joined c.join_idle-first.result) _ places e.fits.1.1 e.fits.2));
      makers = makers_are number_in log (place_of c.part-first.result.0) (joined c.join_idle-first.result) _ _ places all p.number e.makers;
    }
