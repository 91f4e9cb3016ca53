-- The end of a turn keeps the rule of a lock.
use Rattle.std.proofs.Common.{◌≡◌, ◌≢◌, ℕ, ◌+◌, ◌<◌, ◌≤◌, true, List, [], ◌∷◌, length, set, Option, Some, refl, ap, sym, ◌∙◌, subst, arith}
use Rattle.std.proofs.lemmas.List.Elements.{All-weaker}
use Rattle.std.specs.Prelude.{All}
use mathlib.Core.Option.{some, none, some-injective, some-ne-none}
use lib.ListN.{get_elem?}
use Rattle.atomic_table.specs.Table.{State, Me, step, gives, homes_after, Allows, rest}
use Rattle.pl_turn.specs.declared.view.Joined.{Joined}
use Rattle.pl_turn.specs.declared.view.Stage.{Stage}
use Rattle.pl_turn.specs.declared.view.Stage.TheVariants.{Idle, Waits, Has}
use Rattle.pl_turn.specs.declared.view.View.{View}
use Rattle.pl_turn.specs.History.{Grows, FitsHistory}
use Rattle.pl_turn.specs.Rule.{HasTicket, StageStands, IsJoinedAt, IsInOrder, Turning}
use Rattle.pl_turn.specs.Steps.{after, ended}
use Rattle.pl_turn.proofs.Lists.{prefix_self}
use Rattle.pl_turn.proofs.Histories.{made_still, joined_grown, seen_grown, fits_grown}
use Rattle.pl_turn.proofs.Views.{each_set, still_out, only_one, slot_of}

module _ {X E H : Type 0} (history : X → List E) (home : X → H) (caller : E → ℕ) (there : H) where
  abbrev S : Type 0
  S = State (Option X) (View E H)

  abbrev M : Type 0
  M = Me (Option X) (View E H)

  abbrev Rule : S → Type 0
  Rule = Turning history home caller there

  stands_served : (log now : List E) (ticket serving : ℕ) (drawn : ℕ → ℕ) (me at : ℕ) (st : Stage E) → drawn serving ≡ me → at ≢ me → StageStands log ticket serving drawn at st → StageStands now ticket (serving + 1) drawn at st
  stands_served log now ticket serving drawn me at Idle own other k = tt
  stands_served log now ticket serving drawn me at (Waits t) own other k = let a : serving ≤ t = k.0 in
      let apart : serving ≢ t = λ e. other (sym k.2 ∙ (ap drawn (sym e) ∙ own)) in (omega arith, k.1, k.2)
  stands_served log now ticket serving drawn me at (Has t found) own other k = absurd (other (sym k.2 ∙ (ap drawn k.0 ∙ own)))

  -- a pass that was joined at another seat has another number
  others_differ : (s : S) (r : Rule s) (id : ℕ) (number : ℕ) → r.seat number ≡ some id → (at own : ℕ) → at ≢ id → (js : List (Joined E)) → All (IsJoinedAt r.seat at own) js → All (λ j. j.number ≢ number) js
  others_differ s r id number seated at own other js old = All-weaker (IsJoinedAt r.seat at own) (λ j. j.number ≢ number) (λ j p same. other (some-injective at id (sym p.0 ∙ (ap r.seat same ∙ seated)))) js old

  fits_after : (s : S) (r : Rule s) (id t : ℕ) (me : M) (x : X) (found : List E) → get_elem? s.views id ≡ some me.0 → me.0.live ≡ true → me.0.stage ≡ Has t found
      → Grows caller me.0.number found (history x) → FitsHistory caller (after history caller me.0 x) (history x)
  fits_after s r id t me x found at live is grows = let v = me.0 in let f = r.each id v at live in
      let k = subst (StageStands r.log r.ticket r.serving r.drawn id) is f.stage in
      let log : List E = history x in
      let g : Grows caller v.number r.log log = subst (λ (l : List E). Grows caller v.number l log) k.3 grows in
      (prefix_self log, (refl, joined_grown caller v.joined v.number r.log log (All-weaker (IsJoinedAt r.seat id v.number) (λ j. j.number ≢ v.number) (λ j p. p.1) v.joined f.joined) g f.fits.1.1), seen_grown v.joined r.log log (g.0, g.1) f.fits.2)

  ends_turn : (s : S) (r : Rule s) (id t : ℕ) (me : M) (x : X) (found : List E) → get_elem? s.views id ≡ some me.0 → me.0.live ≡ true → me.0.stage ≡ Has t found
      → Grows caller me.0.number found (history x) → me.0.home ≡ Some (home x) → length s.homes ≡ 1
      → (n : ℕ) → n ≡ t + 1 → Rule record { words = r.ticket ∷ n ∷ []; homes = set s.homes 0 (some (Some x)); views = set s.views id (after history caller me.0 x) }
  ends_turn s r id t me x found at live is grows same_home one n up = let v = me.0 in let f = r.each id v at live in
      let k = subst (StageStands r.log r.ticket r.serving r.drawn id) is f.stage in
      let serves : t ≡ r.serving = k.0 in let inside : t < r.ticket = k.1 in
      let log : List E = history x in
      let g : Grows caller v.number r.log log = subst (λ (l : List E). Grows caller v.number l log) k.3 grows in
      let w : View E H = after history caller v x in
      let apart : (j i : ℕ) → r.seat j ≡ some i → i ≢ id → j ≢ v.number = λ j i e ne same. ne (some-injective i id (sym e ∙ (ap r.seat same ∙ f.seated))) in
      let buried : (j : ℕ) → r.seat j ≡ none → j ≢ v.number = λ j e same. some-ne-none id (sym f.seated ∙ (ap r.seat (sym same) ∙ e)) in
      let told : Some there ≡ Some (home x) = sym f.home ∙ same_home in record {
        log = log;
        ticket = r.ticket;
        serving = n;
        splits = r.splits;
        seat = r.seat;
        drawn = r.drawn;
        words = refl;
        order = omega arith;
        unborn = λ j free. let u = r.unborn j free in (u.0, made_still caller j v.number r.log log (buried j u.0) g ∙ u.1);
        out = λ u from below. let high : r.serving < u = omega arith in
            still_out s.views id v w u (r.drawn u) at (λ h. let e : t ≡ u = subst (HasTicket u) is h in absurd (omega arith)) (r.out u (omega arith) below);
        each = each_set (IsInOrder caller log r.ticket n r.splits there r.seat r.drawn) s.views id w
            (λ _. record {
              fits = fits_after s r id t me x found at live is grows;
              fits_seen = fits_after s r id t me x found at live is grows;
              seated = f.seated;
              home = f.home;
              first = f.first;
              stage = tt;
              joined = f.joined;
              differ = f.differ;
            })
            (λ j d other is_there lives. let o = r.each j d is_there lives in record {
              fits = fits_grown caller d v.number r.log log (apart d.number j o.seated other) (others_differ s r id v.number f.seated j d.number other d.joined o.joined) g o.fits;
              fits_seen = o.fits_seen;
              seated = o.seated;
              home = o.home;
              first = o.first;
              stage = subst (λ (z : ℕ). StageStands log r.ticket z r.drawn j d.stage) (sym (up ∙ ap (λ (y : ℕ). y + 1) serves)) (stands_served r.log log r.ticket r.serving r.drawn id j d.stage (ap r.drawn (sym serves) ∙ k.2) other o.stage);
              joined = o.joined;
              differ = o.differ;
            });
        rest = λ _. (x, only_one s.homes (Some x) one, refl, cc);
      }

  pub ends : (slots id : ℕ) (me : M) (t n : ℕ) (x : X) (found : List E) → slots ≡ 1 → me.0.live ≡ true → me.0.stage ≡ Has t found → me.1 ≡ (0, Some x) ∷ []
      → Grows caller me.0.number found (history x) → me.0.home ≡ Some (home x) → n ≡ t + 1
      → Allows Rule slots id me 1 (λ _. n) (λ _. ended history caller (step slots 1 n 0 none) me n)
  ends slots id me t n x found single live is holds grows same_home up s r deep at _ = let v = me.0 in
      let w : View E H = after history caller v x in (
        w,
        gives,
        tt,
        subst (λ (z : List ℕ × List (ℕ × Option X)). Rule record { words = set z.0 1 n; homes = homes_after s.homes z.1 gives; views = set s.views id w }) (λ i. (sym r.words i, sym holds i))
            (ends_turn s r id t me x found at live is grows same_home (deep ∙ single) n up),
        λ y is_y. let slot : Some x ≡ Some y = ap slot_of (sym holds ∙ is_y) in let same : x ≡ y = cc in (
          λ i. (after history caller v (same i), rest (holds i)),
          subst (λ (z : X). FitsHistory caller (after history caller v z) (history z)) same (fits_after s r id t me x found at live is grows),
        ),
      )
