-- A pass that is split off the first one keeps the rule of a lock.
use Rattle.std.proofs.Common.{◌≡◌, ◌≢◌, ℕ, ◌+◌, ◌<◌, true, eqb, List, [], ◌∷◌, length, set, Option, refl, ap, sym, ◌∙◌, subst, ⊎_elim, arith, cond, length-set}
use Rattle.std.proofs.lemmas.List.Elements.{All-nil, All-weaker}
use Rattle.std.specs.Prelude.{All}
use mathlib.Core.Option.{some, none, some-injective, some-ne-none}
use mathlib.Core.Option as maybe
use lib.ListN.{get_elem?}
use Rattle.atomic_table.specs.Table.{State, Splits}
use Rattle.atomic_table.proofs.Lists.{at_longer}
use Rattle.pl_turn.specs.declared.view.Joined.{Joined}
use Rattle.pl_turn.specs.declared.view.Stage.TheVariants.{Idle}
use Rattle.pl_turn.specs.declared.view.View.{View}
use Rattle.pl_turn.specs.History.{HasItsEntries, HasSeen}
use Rattle.pl_turn.specs.Rule.{IsNotGiven, HasNoTurn, IsJoinedAt, IsInOrder, Turning}
use Rattle.pl_turn.specs.Steps.{with_split, newborn}
use Rattle.pl_turn.proofs.Lists.{prefix_self, at_end}
use Rattle.pl_turn.proofs.Histories.{none_before_any}
use Rattle.pl_turn.proofs.Views.{each_set, none_before, still_out, elsewhere, right_here}

module _ {X E H : Type 0} (history : X → List E) (home : X → H) (caller : E → ℕ) (there : H) where
  abbrev S : Type 0
  S = State (Option X) (View E H)

  abbrev Rule : S → Type 0
  Rule = Turning history home caller there

  pub splits_pass : (id : ℕ) (v : View E H) → v.live ≡ true → v.number ≡ 1 → v.stage ≡ Idle → Splits Rule id v (with_split v) (newborn v)
  splits_pass id v live one idle s r at = let f = r.each id v at live in
      let vs : List (View E H) = s.views in let left : View E H = with_split v in let right : View E H = newborn v in
      let count : v.splits ≡ r.splits = f.first one in
      let new : ℕ = v.splits + 2 in
      let free : IsNotGiven r.splits new = λ _. omega arith in
      let unborn = r.unborn new free in
      let seat : ℕ → maybe.Option ℕ = λ n. cond (eqb n new) (some (length vs)) (r.seat n) in
      let apart : (j i : ℕ) → r.seat j ≡ some i → j ≢ new = λ j i e same. some-ne-none i (sym e ∙ (ap r.seat same ∙ unborn.0)) in
      let F : ℕ → View E H → Type 0 = IsInOrder caller r.log r.ticket r.serving (r.splits + 1) there seat r.drawn in
      let still_joined : (i number : ℕ) (l : List (Joined E)) → All (IsJoinedAt r.seat i number) l → All (IsJoinedAt seat i number) l = λ i number l old. All-weaker (IsJoinedAt r.seat i number) (IsJoinedAt seat i number)
      (λ j o. (elsewhere r.seat (some (length vs)) new j.number (apart j.number i o.0) ∙ o.0, o.1, o.2)) l old in
      let longest : length (set vs id left) ≡ length vs = length-set vs id left in record {
        log = r.log;
        ticket = r.ticket;
        serving = r.serving;
        splits = r.splits + 1;
        seat = seat;
        drawn = r.drawn;
        words = r.words;
        order = r.order;
        unborn = λ n out. let old = r.unborn n (λ l. let m = out l in omega arith) in (elsewhere r.seat (some (length vs)) new n (λ same. let m : r.splits + 1 + 1 < n = out (omega arith) in omega arith) ∙ old.0, old.1);
        out = λ t from below. let o = still_out vs id v left t (r.drawn t) at (λ h. (live, h)) (r.out t from below) in (o.0, at_longer (set vs id left) (right ∷ []) (r.drawn t) o.0 o.1, o.2, o.3);
        each = λ j d is_there. ⊎_elim
            (λ (t : (j < length (set vs id left)) × (get_elem? (set vs id left) j ≡ some d)). each_set F vs id left
            (λ _. record {
              fits = f.fits;
              fits_seen = f.fits_seen;
              seated = elsewhere r.seat (some (length vs)) new v.number (apart v.number id f.seated) ∙ f.seated;
              home = f.home;
              first = λ _. ap (λ (n : ℕ). n + 1) count;
              stage = f.stage;
              joined = still_joined id v.number v.joined f.joined;
              differ = f.differ;
            })
            (λ i e other at_i lives. let o = r.each i e at_i lives in record {
              fits = o.fits;
              fits_seen = o.fits_seen;
              seated = elsewhere r.seat (some (length vs)) new e.number (apart e.number i o.seated) ∙ o.seated;
              home = o.home;
              first = λ is_one. absurd (other (some-injective i id (sym o.seated ∙ (ap r.seat (is_one ∙ sym one) ∙ f.seated))));
              stage = o.stage;
              joined = still_joined i e.number e.joined o.joined;
              differ = o.differ;
            })
            j d t.1)
            (λ (t : (j ≡ length (set vs id left)) × (right ≡ d)). λ _. subst (λ (z : ℕ × View E H). F z.0 z.1) (λ i. (sym (t.0 ∙ longest) i, t.1 i)) record {
              fits = (f.fits.0, (sym unborn.1, All-nil (HasItsEntries caller r.log)), All-nil (HasSeen r.log));
              fits_seen = (prefix_self v.seen, (sym (none_before_any caller new v.seen r.log f.fits.0 unborn.1), All-nil (HasItsEntries caller v.seen)), All-nil (HasSeen v.seen));
              seated = right_here r.seat (some (length vs)) new new refl;
              home = f.home;
              first = λ is_one. absurd (omega arith);
              stage = tt;
              joined = All-nil (IsJoinedAt seat (length vs) new);
              differ = λ i j e lt within. absurd (omega arith);
            })
            (at_end (set vs id left) right d j is_there);
        rest = λ none_after. r.rest (none_before vs id v left at (subst HasNoTurn (sym idle) tt) (λ j d e. none_after j d (at_longer (set vs id left) (right ∷ []) j d e)));
      }
