-- A pass that is joined into another keeps the rule of a lock.
use Rattle.std.proofs.Common.{◌≡◌, ◌≢◌, ℕ, true, List, ◌∷◌, set, Option, ap, sym, ◌∙◌, subst}
use Rattle.std.proofs.lemmas.List.Elements.{All-append, All-cons, All-weaker}
use Rattle.std.proofs.lemmas.List.Kept.{AllPairs-cons}
use Rattle.std.specs.Prelude.{All, AllPairs}
use mathlib.Core.Option.{some, none, some-injective, some-ne-none}
use mathlib.Core.Option as maybe
use lib.ListN.{get_elem?}
use Rattle.atomic_table.specs.Table.{State, Joins}
use Rattle.atomic_table.proofs.Lists.{set_else}
use Rattle.pl_turn.specs.declared.view.Joined.{Joined}
use Rattle.pl_turn.specs.declared.view.Stage.TheVariants.{Idle}
use Rattle.pl_turn.specs.declared.view.View.{View}
use Rattle.pl_turn.specs.Rule.{HasNoTurn, IsJoinedAt, IsInOrder, Turning}
use Rattle.pl_turn.specs.Steps.{spent_view, joined_of, with_joined}
use Rattle.pl_turn.proofs.Lists.{all_pairs_append}
use Rattle.pl_turn.proofs.Histories.{fits_joined, fits_joined_seen}
use Rattle.pl_turn.proofs.Views.{each_set, none_before, still_out, none_idle, moved, moved_here, moved_not, false_is_not_true}

module _ {X E H : Type 0} (history : X → List E) (home : X → H) (caller : E → ℕ) (there : H) where
  abbrev S : Type 0
  S = State (Option X) (View E H)

  abbrev Rule : S → Type 0
  Rule = Turning history home caller there

  pub joins_pass : (id : ℕ) (v : View E H) (other : ℕ) (w : View E H) → v.live ≡ true → w.live ≡ true → v.stage ≡ Idle → w.stage ≡ Idle → w.number ≢ 1
      → Joins Rule id v other w (with_joined v w) spent_view
  joins_pass id v other w live lives idle rests not_first s r at apart there_is =
      let vs : List (View E H) = s.views in let both : View E H = with_joined v w in
      let at_w : get_elem? vs other ≡ some w = sym (set_else vs id other both apart) ∙ there_is in
      let f = r.each id v at live in let g = r.each other w at_w lives in
      let seat : ℕ → maybe.Option ℕ = λ n. moved other id (r.seat n) in
      let at_id : (n : ℕ) → r.seat n ≡ some id → seat n ≡ some id = λ n e. ap (moved other id) e ∙ moved_not other id id (λ same. apart (sym same)) in
      let at_other : (n : ℕ) → r.seat n ≡ some other → seat n ≡ some id = λ n e. ap (moved other id) e ∙ moved_here other id in
      let at_else : (n i : ℕ) → i ≢ other → r.seat n ≡ some i → seat n ≡ some i = λ n i ne e. ap (moved other id) e ∙ moved_not other id i ne in
      let differs : (a b : ℕ) → r.seat a ≡ some id → r.seat b ≡ some other → a ≢ b = λ a b p q same. apart (some-injective other id (sym q ∙ (ap r.seat (sym same) ∙ p))) in
      let F : ℕ → View E H → Type 0 = IsInOrder caller r.log r.ticket r.serving r.splits there seat r.drawn in
      let Old : ℕ → ℕ → Joined E → Type 0 = IsJoinedAt r.seat in
      let New : ℕ → ℕ → Joined E → Type 0 = IsJoinedAt seat in
      let Apart : Joined E → Joined E → Type 0 = λ a b. a.number ≢ b.number in
      let firsts : All (New id v.number) v.joined = All-weaker (Old id v.number) (New id v.number) (λ j o. (at_id j.number o.0, o.1, o.2)) v.joined f.joined in
      let middle : New id v.number (joined_of v.seen w) = (at_other w.number g.seated, λ same. differs v.number w.number f.seated g.seated (sym same), not_first) in
      let lasts : All (New id v.number) w.joined = All-weaker (Old other w.number) (New id v.number) (λ j o. (at_other j.number o.0, λ same. differs v.number j.number f.seated o.0 (sym same), o.2)) w.joined g.joined in
      let across : All (λ a. All (Apart a) (joined_of v.seen w ∷ w.joined)) v.joined = All-weaker (Old id v.number) (λ a. All (Apart a) (joined_of v.seen w ∷ w.joined))
      (λ a p. All-cons (Apart a) (joined_of v.seen w) w.joined (differs a.number w.number p.0 g.seated) (All-weaker (Old other w.number) (Apart a) (λ b q. differs a.number b.number p.0 q.0) w.joined g.joined)) v.joined f.joined in
      let behind : AllPairs Apart (joined_of v.seen w ∷ w.joined) = AllPairs-cons Apart (joined_of v.seen w) w.joined (All-weaker (Old other w.number) (Apart (joined_of v.seen w)) (λ b q same. q.1 (sym same)) w.joined g.joined) g.differ in record {
        log = r.log;
        ticket = r.ticket;
        serving = r.serving;
        splits = r.splits;
        seat = seat;
        drawn = r.drawn;
        words = r.words;
        order = r.order;
        unborn = λ n out. let old = r.unborn n out in (ap (moved other id) old.0, old.1);
        out = λ t from below. still_out (set vs id both) other w spent_view t (r.drawn t) there_is (λ h. absurd (none_idle t w.stage rests h)) (still_out vs id v both t (r.drawn t) at (λ h. (live, h)) (r.out t from below));
        each = each_set F (set vs id both) other spent_view (λ is. absurd (false_is_not_true is))
            (λ j d elsewhere_j is_j lives_j. each_set (λ i e. i ≢ other → F i e) vs id both
            (λ _ _. record {
              fits = fits_joined caller v w r.log f.fits g.fits;
              fits_seen = fits_joined_seen caller v w r.log f.fits_seen g.fits_seen f.fits g.fits;
              seated = at_id v.number f.seated;
              home = f.home;
              first = f.first;
              stage = f.stage;
              joined = All-append (New id v.number) v.joined (joined_of v.seen w ∷ w.joined) firsts (All-cons (New id v.number) (joined_of v.seen w) w.joined middle lasts);
              differ = all_pairs_append Apart v.joined (joined_of v.seen w ∷ w.joined) f.differ behind across;
            })
            (λ i e ne at_i lives_i not_other. let o = r.each i e at_i lives_i in record {
              fits = o.fits;
              fits_seen = o.fits_seen;
              seated = at_else e.number i not_other o.seated;
              home = o.home;
              first = o.first;
              stage = o.stage;
              joined = All-weaker (Old i e.number) (New i e.number) (λ j p. (at_else j.number i not_other p.0, p.1, p.2)) e.joined o.joined;
              differ = o.differ;
            })
            j d is_j lives_j elsewhere_j);
        rest = λ none_after. r.rest (none_before vs id v both at (subst HasNoTurn (sym idle) tt) (none_before (set vs id both) other w spent_view there_is (subst HasNoTurn (sym rests) tt) none_after));
      }
