-- A ticket that is drawn, and a look at the one that is served, keep the rule of a lock.
use Rattle.std.proofs.Common.{◌≡◌, ℕ, ◌+◌, ◌<◌, ◌≤◌, Bool, true, eqb, List, [], ◌∷◌, set, get_or, Option, Some, refl, ap, sym, ◌∙◌, subst, arith, cond, eq-eqb, ne_eqb}
use mathlib.Core.Option.{some, none, some-injective}
use mathlib.Core.Option as maybe
use mathlib.Core.Logic.{dite}
use native.Mathlib.Decide.{ℕ_discrete}
use lib.ListN.{get_elem?}
use prog.Atomic.{either}
use Rattle.atomic_table.specs.Table.{State, Me, Act, step, keeps, takes, homes_after, carried_after, Valid, Allows}
use Rattle.atomic_table.proofs.Lists.{set_here, set_again, exchanged}
use Rattle.pl_turn.specs.declared.view.Stage.{Stage}
use Rattle.pl_turn.specs.declared.view.Stage.TheVariants.{Idle, Waits, Has}
use Rattle.pl_turn.specs.declared.view.View.{View}
use Rattle.pl_turn.specs.History.{FitsHistory}
use Rattle.pl_turn.specs.Rule.{HasNoTurn, HasTicket, IsOut, StageStands, IsInOrder, Turning}
use Rattle.pl_turn.specs.Steps.{drawn_by, looked, confirmed}
use Rattle.pl_turn.proofs.Lists.{at_inside}
use Rattle.pl_turn.proofs.Views.{each_set, none_before, still_out, none_idle}

module _ {X E H : Type 0} (history : X → List E) (home : X → H) (caller : E → ℕ) (there : H) where
  abbrev S : Type 0
  S = State (Option X) (View E H)

  abbrev M : Type 0
  M = Me (Option X) (View E H)

  abbrev Rule : S → Type 0
  Rule = Turning history home caller there

  -- the next ticket is out, at one more seat
  stands_drawn : (log : List E) (ticket serving : ℕ) (drawn : ℕ → ℕ) (me at : ℕ) (st : Stage E) → StageStands log ticket serving drawn at st
      → StageStands log (ticket + 1) serving (λ t. cond (eqb t ticket) me (drawn t)) at st
  stands_drawn log ticket serving drawn me at Idle k = tt
  stands_drawn log ticket serving drawn me at (Waits t) k = let l : t < ticket = k.1 in (k.0, omega arith, ap (λ (b : Bool). cond b me (drawn t)) (ne_eqb t ticket (λ e. omega arith)) ∙ k.2)
  stands_drawn log ticket serving drawn me at (Has t found) k = let l : t < ticket = k.1 in (k.0, omega arith, ap (λ (b : Bool). cond b me (drawn t)) (ne_eqb t ticket (λ e. omega arith)) ∙ k.2, k.3)

  draws_to : (s : S) (r : Rule s) (id : ℕ) (me : M) → get_elem? s.views id ≡ some me.0 → me.0.live ≡ true → me.0.stage ≡ Idle
      → Rule record { words = (r.ticket + 1) ∷ r.serving ∷ []; homes = s.homes; views = set s.views id (record me.0 { stage = Waits r.ticket }) }
  draws_to s r id me at live idle = let v = me.0 in let f = r.each id v at live in let order : r.serving ≤ r.ticket = r.order in record {
    log = r.log;
    ticket = r.ticket + 1;
    serving = r.serving;
    splits = r.splits;
    seat = r.seat;
    drawn = λ t. cond (eqb t r.ticket) id (r.drawn t);
    words = refl;
    order = omega arith;
    unborn = r.unborn;
    out = λ t from below. let w : View E H = record v { stage = Waits r.ticket } in dite (ℕ_discrete t r.ticket)
        (λ last. subst (λ (z : ℕ). IsOut (set s.views id w) t z) (sym (ap (λ (b : Bool). cond b id (r.drawn t)) (eq-eqb t r.ticket last)))
        (w, set_here s.views id w (at_inside s.views v id at), live, sym last))
        (λ old. subst (λ (z : ℕ). IsOut (set s.views id w) t z) (sym (ap (λ (b : Bool). cond b id (r.drawn t)) (ne_eqb t r.ticket old)))
        (still_out s.views id v w t (r.drawn t) at (λ h. absurd (none_idle t v.stage idle h)) (r.out t from (omega arith))));
    each = each_set (IsInOrder caller r.log (r.ticket + 1) r.serving r.splits there r.seat (λ t. cond (eqb t r.ticket) id (r.drawn t))) s.views id (record v { stage = Waits r.ticket })
        (λ _. record {
          fits = f.fits;
          fits_seen = f.fits_seen;
          seated = f.seated;
          home = f.home;
          first = f.first;
          stage = (order, omega arith, ap (λ (b : Bool). cond b id (r.drawn r.ticket)) (eq-eqb r.ticket r.ticket refl));
          joined = f.joined;
          differ = f.differ;
        })
        (λ j d other there_is lives. let g = r.each j d there_is lives in record {
          fits = g.fits;
          fits_seen = g.fits_seen;
          seated = g.seated;
          home = g.home;
          first = g.first;
          stage = stands_drawn r.log r.ticket r.serving r.drawn id j d.stage g.stage;
          joined = g.joined;
          differ = g.differ;
        });
    rest = λ none_after. r.rest (none_before s.views id v (record v { stage = Waits r.ticket }) at (subst HasNoTurn (sym idle) tt) none_after);
  }

  pub draws : (slots id : ℕ) (me : M) (old new : ℕ) → me.0.live ≡ true → me.0.stage ≡ Idle → new ≡ old + 1
      → Allows Rule slots id me 0 (λ n. either (eqb n old) new n) (drawn_by (step slots 0 old new none) me)
  draws slots id me old new live idle up s r _ at _ =
      let P : List ℕ → Type 0 = λ ws. (w : View E H) × (a : Act (Option X)) × Valid s.homes me.1 a
      × Rule record { words = set ws 0 (either (eqb (get_or ws 0 0) old) new (get_or ws 0 0)); homes = homes_after s.homes me.1 a; views = set s.views id w }
      × drawn_by (step slots 0 old new none) me (get_or ws 0 0) (w, carried_after me.1 a) in
      subst P (sym r.words)
      (exchanged r.ticket old new (λ n. (w : View E H) × (a : Act (Option X)) × Valid s.homes me.1 a
      × Rule record { words = n ∷ r.serving ∷ []; homes = homes_after s.homes me.1 a; views = set s.views id w }
      × drawn_by (step slots 0 old new none) me r.ticket (w, carried_after me.1 a))
      (λ hit. (
        record me.0 { stage = Waits r.ticket },
        keeps,
        tt,
        subst (λ (n : ℕ). Rule record { words = n ∷ r.serving ∷ []; homes = s.homes; views = set s.views id (record me.0 { stage = Waits r.ticket }) }) (ap (λ (n : ℕ). n + 1) hit ∙ sym up) (draws_to s r id me at live idle),
        ((λ _. refl), λ miss. absurd (miss hit)),
      ))
      (λ miss. (
        me.0,
        keeps,
        tt,
        subst (λ (x : List ℕ × List (View E H)). Rule record { words = x.0; homes = s.homes; views = x.1 }) (λ i. (r.words i, sym (set_again s.views id me.0 at) i)) r,
        ((λ hit. absurd (miss hit)), λ _. refl),
      )))

  -- a turn that is served is that of the seat which drew its ticket
  no_turn_at : (log : List E) (ticket serving : ℕ) (drawn : ℕ → ℕ) (me at t : ℕ) (st : Stage E) → StageStands log ticket serving drawn at st → drawn serving ≡ me → (at ≡ me → st ≡ Waits t) → HasNoTurn st
  no_turn_at log ticket serving drawn me at t Idle k is same = tt
  no_turn_at log ticket serving drawn me at t (Waits u) k is same = tt
  no_turn_at log ticket serving drawn me at t (Has u found) k is same = let e : Has u found ≡ Waits t = same (sym k.2 ∙ (ap drawn k.0 ∙ is)) in cc

  none_has_turn : (s : S) (r : Rule s) (id t : ℕ) (v : View E H) → get_elem? s.views id ≡ some v → v.live ≡ true → v.stage ≡ Waits t → r.serving ≡ t
      → (at : ℕ) (d : View E H) → get_elem? s.views at ≡ some d → d.live ≡ true → HasNoTurn d.stage
  none_has_turn s r id t v here live is serves at d is_there lives =
      let k = subst (StageStands r.log r.ticket r.serving r.drawn id) is (r.each id v here live).stage in
      no_turn_at r.log r.ticket r.serving r.drawn id at t d.stage (r.each at d is_there lives).stage (ap r.drawn serves ∙ k.2)
      (λ e. ap (λ (z : View E H). z.stage) (some-injective d v (sym is_there ∙ (ap (λ (i : ℕ). get_elem? s.views i) e ∙ here))) ∙ is)

  takes_turn : (s : S) (r : Rule s) (id t : ℕ) (me : M) → get_elem? s.views id ≡ some me.0 → me.0.live ≡ true → me.0.stage ≡ Waits t → r.serving ≡ t
      → (found : List E) → found ≡ r.log → (homes : List (maybe.Option (Option X)))
      → Rule record { words = r.ticket ∷ r.serving ∷ []; homes = homes; views = set s.views id (record me.0 { stage = Has t found }) }
  takes_turn s r id t me at live is serves found same homes = let v = me.0 in let f = r.each id v at live in
      let k = subst (StageStands r.log r.ticket r.serving r.drawn id) is f.stage in
      let F : ℕ → View E H → Type 0 = IsInOrder caller r.log r.ticket r.serving r.splits there r.seat r.drawn in
      let w : View E H = record v { stage = Has t found } in record {
        log = r.log;
        ticket = r.ticket;
        serving = r.serving;
        splits = r.splits;
        seat = r.seat;
        drawn = r.drawn;
        words = refl;
        order = r.order;
        unborn = r.unborn;
        out = λ u from below. still_out s.views id v w u (r.drawn u) at (λ h. (live, subst (HasTicket u) is h)) (r.out u from below);
        each = each_set F s.views id w
            (λ _. record {
              fits = f.fits;
              fits_seen = f.fits_seen;
              seated = f.seated;
              home = f.home;
              first = f.first;
              stage = (sym serves, k.1, k.2, same);
              joined = f.joined;
              differ = f.differ;
            })
            (λ j d other is_there lives. r.each j d is_there lives);
        rest = λ none_after. absurd (none_after id w (set_here s.views id w (at_inside s.views v id at)) live);
      }

  pub looks : (slots id : ℕ) (me : M) (t : ℕ) → me.0.live ≡ true → me.0.stage ≡ Waits t
      → Allows Rule slots id me 1 (λ n. n) (looked history home caller (step slots 1 0 0 none) me)
  looks slots id me t live is s r _ at _ =
      let Told : ℕ → M → Type 0 = looked history home caller (step slots 1 0 0 none) me in
      let P : List ℕ → Type 0 = λ ws. (w : View E H) × (a : Act (Option X)) × Valid s.homes me.1 a
      × Rule record { words = set ws 1 (get_or ws 1 0); homes = homes_after s.homes me.1 a; views = set s.views id w }
      × Told (get_or ws 1 0) (w, carried_after me.1 a) in
      let same_ticket : (u : ℕ) → me.0.stage ≡ Waits u → u ≡ t = λ u e. cc in
      subst P (sym r.words) (dite (ℕ_discrete r.serving t)
      (λ served. let f = r.each id me.0 at live in let h = r.rest (none_has_turn s r id t me.0 at live is served) in let x : X = h.0 in (
        record me.0 { stage = Has t (history x) },
        takes 0 (Some x),
        ap (λ (l : List (maybe.Option (Option X))). get_elem? l 0) h.1,
        takes_turn s r id t me at live is served (history x) h.2 (homes_after s.homes me.1 (takes 0 (Some x))),
        λ u e. (
          (λ _. (
            x,
            ap (λ (y : ℕ). let m : M = (record me.0 { stage = Has y (history x) }, (0, Some x) ∷ me.1) in m) (sym (same_ticket u e)),
            f.home ∙ ap Some (sym h.3),
            subst (FitsHistory caller me.0) (sym h.2) f.fits,
          )),
          λ miss. absurd (miss (served ∙ sym (same_ticket u e))),
        ),
      ))
      (λ not_yet. (
        me.0,
        keeps,
        tt,
        subst (λ (x : List ℕ × List (View E H)). Rule record { words = x.0; homes = s.homes; views = x.1 }) (λ i. (r.words i, sym (set_again s.views id me.0 at) i)) r,
        λ u e. ((λ served. absurd (not_yet (served ∙ same_ticket u e))), λ _. refl),
      )))

  pub confirms : (slots id : ℕ) (me : M) → me.0.live ≡ true → Allows Rule slots id me 1 (λ n. n) (confirmed caller (step slots 1 0 0 none) me)
  confirms slots id me live s r _ at _ =
      let Told : ℕ → M → Type 0 = confirmed caller (step slots 1 0 0 none) me in
      let P : List ℕ → Type 0 = λ ws. (w : View E H) × (a : Act (Option X)) × Valid s.homes me.1 a
      × Rule record { words = set ws 1 (get_or ws 1 0); homes = homes_after s.homes me.1 a; views = set s.views id w }
      × Told (get_or ws 1 0) (w, carried_after me.1 a) in
      subst P (sym r.words) (
        me.0,
        keeps,
        tt,
        subst (λ (x : List ℕ × List (View E H)). Rule record { words = x.0; homes = s.homes; views = x.1 }) (λ i. (r.words i, sym (set_again s.views id me.0 at) i)) r,
        (refl, (r.each id me.0 at live).fits_seen, (r.each id me.0 at live).differ),
      )
