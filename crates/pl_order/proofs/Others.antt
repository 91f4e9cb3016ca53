-- A runner stays in order while others go on.
use Rattle.std.proofs.Common.{◌≡◌, ◌≢◌, ℕ, inl, inr, List, [], ◌∷◌, ◌++◌, get_or, refl, ap, sym, subst, ◌∙◌, None, Some, MatchOption, append_assoc, get_or-set_other}
use Rattle.std.proofs.lemmas.List.{append-nil}
use Rattle.std.specs.declared.option.Option.{Option}
use mathlib.Core.List.{IsPrefix}
use Rattle.pl_ports.specs.declared.gate.Actor.{Actor}
use Rattle.pl_tech.specs.Technology.{Meaning}
use Rattle.pl_machine.specs.declared.entry.Pending.{Pending}
use Rattle.pl_machine.specs.declared.entry.Command.{Command}
use Rattle.pl_machine.specs.declared.entry.What.{What}
use Rattle.pl_machine.specs.declared.entry.What.TheVariants.{Call, Start, Finish, Late, Bye}
use Rattle.pl_machine.specs.declared.entry.Entry.{Entry}
use Rattle.pl_machine.specs.Machine.{Machine, IsActor, Allows, blank, next, pending_of, seat_of, session_of}
use Rattle.pl_machine.specs.History.{replay, replay_from, IsRunFrom, IsLegal}
use Rattle.pl_machine.specs.Tickets.{HasNotClosed, StandsIn, start_of, number_of}
use Rattle.pl_machine.proofs.Sound.{same_seat}
use Rattle.pl_machine.proofs.Runs.{run_split, replay_split}
use Rattle.pl_machine.proofs.Standing.{command_pending}
use Rattle.pl_session.specs.Complete.{EachEntry}
use Rattle.pl_session.proofs.Entries.{each_none}
use Rattle.pl_session.proofs.Free.{copied}
use Rattle.pl_order.specs.Order.{Work, IsInOrder, entries_of, calls_in, bye_of}
use Rattle.pl_order.proofs.Lists.{split_cases, not_empty, no_more}
use Rattle.pl_order.proofs.Own.{HasNoneOf, none_of, not_own, entries_append}

module _ {T P E R O J B : Type 0} where
  not_closed : (actor : Actor) (es : List (Entry T P E R O J B)) → HasNoneOf (number_of actor) es → HasNotClosed actor es
  not_closed actor [] none = tt
  not_closed actor (e ∷ es) none = ((λ same. absurd (none.0 (ap number_of same))), not_closed actor es none.1)

  closed_on : (actor : Actor) (xs ys : List (Entry T P E R O J B)) → HasNotClosed actor xs → HasNotClosed actor ys → HasNotClosed actor (xs ++ ys)
  closed_on actor [] ys hx hy = hy
  closed_on actor (x ∷ xs) ys hx hy = (hx.0, closed_on actor xs ys hx.1 hy)

  -- what is true of each entry of the actor stays so, where no entry more is of it
  pub each_on : (actor : Actor) (F : List (Entry T P E R O J B) → Entry T P E R O J B → Type 0) (seen more : List (Entry T P E R O J B))
      → entries_of actor more ≡ [] → EachEntry seen (λ before e. e.actor ≡ actor → F before e) → EachEntry (seen ++ more) (λ before e. e.actor ≡ actor → F before e)
  each_on actor F seen more none each before after e is by = elim (split_cases seen more before e after is) [
    | inl first ↦ each before first.0 e first.1 by
    | inr second ↦ absurd (not_own actor second.0 e after (ap (entries_of actor) (sym second.2) ∙ none) by)
  ]

  pub same_entries : (actor : Actor) (seen more : List (Entry T P E R O J B)) → entries_of actor more ≡ [] → entries_of actor (seen ++ more) ≡ entries_of actor seen
  same_entries actor seen more none = entries_append actor seen more ∙ ap (λ l. entries_of actor seen ++ l) none ∙ append-nil (entries_of actor seen)

  module _ (m : Meaning P E R O) where
    -- a step of another leaves what the actor has pending
    step_others : (st : Machine P) (a : Actor) (w : What T P E R O J B) (actor : Actor) → IsActor actor → Allows m st a w → number_of a ≢ number_of actor
        → pending_of (next m st a w) actor ≡ pending_of st actor
    step_others st a (Call command reply) actor ok may ne = ap (λ ps. get_or ps (seat_of actor) None) (command_pending m st command (session_of a))
    step_others st a (Start slot e) actor ok may ne = get_or-set_other st.pending (seat_of a) (seat_of actor) _ None (λ s. ne (sym (ap number_of (same_seat actor a ok may.actor_is s))))
    step_others st a (Finish slot e) actor ok may ne = get_or-set_other st.pending (seat_of a) (seat_of actor) _ None (λ s. ne (sym (ap number_of (same_seat actor a ok may.actor_is s))))
    step_others st a (Late slot since now) actor ok may ne = get_or-set_other st.pending (seat_of a) (seat_of actor) _ None (λ s. ne (sym (ap number_of (same_seat actor a ok may.actor_is s))))
    step_others st a Bye actor ok may ne = refl

    pub run_others : (st : Machine P) (es : List (Entry T P E R O J B)) (actor : Actor) → IsActor actor → IsRunFrom m st es → HasNoneOf (number_of actor) es
        → pending_of (replay_from m st es) actor ≡ pending_of st actor
    run_others st [] actor ok run none = refl
    run_others st (e ∷ es) actor ok run none =
        run_others (next m st e.actor e.what) es actor ok run.1 none.1 ∙ step_others st e.actor e.what actor ok run.0 none.0

    pub same_pending : (seen more : List (Entry T P E R O J B)) (actor : Actor) → IsActor actor → IsLegal m (seen ++ more) → entries_of actor more ≡ []
        → pending_of (replay m (seen ++ more)) actor ≡ pending_of (replay m seen) actor
    same_pending seen more actor ok legal none =
        ap (λ st. pending_of st actor) (replay_split m (blank m) seen more)
        ∙ run_others (replay m seen) more actor ok (run_split m (blank m) seen more legal).1 (none_of actor more none)

    -- what is under way, in a history
    abbrev pub HasWork : List (Entry T P E R O J B) → Actor → Option (Work O) → Type 0
    HasWork seen actor work = MatchOption work (pending_of (replay m seen) actor ≡ None) (λ w. StandsIn m seen actor w.slot w.epoch w.value)

    stands_on : (seen more : List (Entry T P E R O J B)) (actor : Actor) (slot epoch : ℕ) (value : O) → HasNotClosed actor more
        → StandsIn m seen actor slot epoch value → StandsIn m (seen ++ more) actor slot epoch value
    stands_on seen more actor slot epoch value not stands = record {
      before = stands.before;
      rest = stands.rest ++ more;
      split = ap (λ l. l ++ more) stands.split ∙ append_assoc (stands.before ++ start_of actor slot epoch ∷ []) stands.rest more;
      unclosed = closed_on actor stands.rest more stands.unclosed not;
      value_is = stands.value_is;
    }

    work_on : (seen more : List (Entry T P E R O J B)) (actor : Actor) (work : Option (Work O)) → IsActor actor → IsLegal m (seen ++ more) → entries_of actor more ≡ []
        → HasWork seen actor work → HasWork (seen ++ more) actor work
    work_on seen more actor None ok legal none has = same_pending seen more actor ok legal none ∙ has
    work_on seen more actor (Some w) ok legal none has = stands_on seen more actor w.slot w.epoch w.value (not_closed actor more (none_of actor more none)) has

    module _ (commands : List (Command E)) (actor : Actor) where
      -- a bye that stands in the whole history stands in what was seen
      bye_on : (seen more : List (Entry T P E R O J B)) → entries_of actor more ≡ []
          → ((before after : List (Entry T P E R O J B)) → seen ≡ before ++ bye_of actor ∷ after → (calls_in (entries_of actor before) ≡ commands) × (entries_of actor after ≡ []))
          → (before after : List (Entry T P E R O J B)) → seen ++ more ≡ before ++ bye_of actor ∷ after → (calls_in (entries_of actor before) ≡ commands) × (entries_of actor after ≡ [])
      bye_on seen more none bye before after is = elim (split_cases seen more before (bye_of actor) after is) [
        | inl first ↦
            let told = bye before first.0 first.1 in
            (told.0, ap (entries_of actor) first.2 ∙ same_entries actor first.0 more none ∙ told.1)
        | inr second ↦ absurd (not_own actor second.0 (bye_of actor) after (ap (entries_of actor) (sym second.2) ∙ none) refl)
      ]

      pub others_keep : (seen more : List (Entry T P E R O J B)) (work : Option (Work O)) → IsInOrder m commands actor seen work
          → entries_of actor more ≡ [] → IsLegal m (seen ++ more) → IsInOrder m commands actor (seen ++ more) work
      others_keep seen more work order none legal = record {
        actor_is = order.actor_is;
        legal = legal;
        calls = subst (λ l. IsPrefix (calls_in l) commands) (sym (same_entries actor seen more none)) order.calls;
        work_is = work_on seen more actor work order.actor_is legal none order.work_is;
        least = each_on actor _ seen more none order.least;
        due = each_on actor _ seen more none order.due;
        bye = bye_on seen more none order.bye;
      }

      -- the same, where the history that is found has what was seen as a beginning, and no entry more of the actor
      pub found_keep : (seen history : List (Entry T P E R O J B)) (work : Option (Work O)) → IsInOrder m commands actor seen work
          → IsPrefix seen history → entries_of actor history ≡ entries_of actor seen → IsLegal m history → IsInOrder m commands actor history work
      found_keep seen history work order prefix same legal =
          let is : seen ++ prefix.0 ≡ history = prefix.1 in
          let none : entries_of actor prefix.0 ≡ [] = no_more (entries_of actor seen) (entries_of actor prefix.0) (sym (entries_append actor seen prefix.0) ∙ ap (entries_of actor) is ∙ same) in
          subst (λ h. IsInOrder m commands actor h work) is (others_keep seen prefix.0 work order none (subst (IsLegal m) (sym is) legal))

      -- who has made nothing is in order
      pub newcomer : (seen : List (Entry T P E R O J B)) → IsLegal m seen → IsActor actor → entries_of actor seen ≡ [] → IsInOrder m commands actor seen None
      newcomer seen legal ok none = others_keep [] seen None first none legal
        where
          first : IsInOrder {T = T} {J = J} {B = B} m commands actor [] None
          first = record {
            actor_is = ok;
            legal = tt;
            calls = (commands, refl);
            work_is = copied {A = Option Pending} 24 (seat_of actor) None;
            least = each_none _;
            due = each_none _;
            bye = λ before after is. absurd (not_empty before (bye_of actor) after is);
          }
