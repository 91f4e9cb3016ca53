-- A runner stays in order when it makes an entry.
use Rattle.std.proofs.Common.{◌≡◌, ℕ, ◌-◌, inl, inr, true, false, List, [], ◌∷◌, ◌++◌, length, get_or, refl, ap, sym, subst, ◌∙◌, None, Some, arith, append_assoc}
use Rattle.std.specs.List.{slice_get, cons_option}
use Rattle.std.specs.declared.option.Option.{Option}
use Rattle.std.proofs.lemmas.List.{append-nil, length-append}
use Rattle.std.proofs.lemmas.Option.{slice_get-get_or, slice_get_within, get_or_from_slice_get}
use Rattle.std.proofs.Math.Seq.{get_or-append_seam}
use mathlib.Core.List.{IsPrefix}
use Rattle.pl_ports.specs.declared.gate.Actor.{Actor}
use Rattle.pl_ports.specs.declared.gate.Actor.TheVariants.{Session, Worker}
use Rattle.pl_tech.specs.Technology.{Meaning, IsLawful}
use Rattle.pl_machine.specs.declared.entry.Command.{Command}
use Rattle.pl_machine.specs.declared.entry.Reply.{Reply}
use Rattle.pl_machine.specs.declared.entry.What.{What}
use Rattle.pl_machine.specs.declared.entry.What.TheVariants.{Call, Start, Finish, Late, Bye}
use Rattle.pl_machine.specs.declared.entry.Entry.{Entry}
use Rattle.pl_machine.specs.Machine.{Machine, IsActor, Allows, MayCall, blank, next, OfSession, pending_of, seat_of, has_left, without}
use Rattle.pl_machine.specs.History.{replay, IsLegal}
use Rattle.pl_machine.specs.Startable.{IsLeast}
use Rattle.pl_machine.specs.Tickets.{closes, start_of}
use Rattle.pl_machine.proofs.Sound.{get_or-set_default}
use Rattle.pl_machine.proofs.Runs.{replay_from-append, replay_split, run_split}
use Rattle.pl_machine.proofs.Standing.{command_pending}
use Rattle.pl_machine.proofs.Coherence.{away_on, coherent_history, left_by}
use Rattle.pl_session.specs.Complete.{command_of, IfStart}
use Rattle.pl_session.proofs.Entries.{each_more}
use Rattle.pl_order.specs.Order.{Work, IsInOrder, IsExportNext, entries_of, calls_in, bye_of, next_command}
use Rattle.pl_order.proofs.Lists.{split_cases, split_one}
use Rattle.pl_order.proofs.Own.{all_called, own_first, entries_append, calls_append, step_at}
use Rattle.pl_order.proofs.Others.{HasWork, same_pending}

module _ {A : Type 0} where
  none_past : (whole : List A) (x : A) → slice_get whole (length whole) ≡ Some x → ⊥
  none_past whole x is = let low = slice_get_within whole (length whole) x is in omega (arith, low)

  -- a beginning goes on by the element that is next
  prefix_more : (xs whole : List A) (x : A) → IsPrefix xs whole → slice_get whole (length xs) ≡ Some x → IsPrefix (xs ++ x ∷ []) whole
  prefix_more xs whole x prefix is = onward prefix.0 prefix.1
    where
      onward : (rest : List A) → xs ++ rest ≡ whole → IsPrefix (xs ++ x ∷ []) whole
      onward [] same = absurd (none_past xs x (ap (λ l. slice_get l (length xs)) (sym (append-nil xs) ∙ same) ∙ is))
      onward (y ∷ rest) same =
          let here : y ≡ x = sym (get_or-append_seam xs y rest x) ∙ ap (λ l. get_or l (length xs) x) same ∙ get_or_from_slice_get whole (length xs) x x is in
          (rest, append_assoc xs (x ∷ []) rest ∙ ap (λ z. xs ++ z ∷ rest) (sym here) ∙ same)

  -- a beginning after which there is no next element is the whole
  prefix_all : (xs whole : List A) → IsPrefix xs whole → slice_get whole (length xs) ≡ None → xs ≡ whole
  prefix_all xs whole prefix none = ended prefix.0 prefix.1
    where
      ended : (rest : List A) → xs ++ rest ≡ whole → xs ≡ whole
      ended [] same = sym (append-nil xs) ∙ same
      ended (y ∷ rest) same =
          let long = length-append xs (y ∷ rest) in
          let whole_long = ap length same in
          let some = slice_get-get_or whole (length xs) y (grind (arith, long, whole_long)) in
          absurd (let f : None ≡ Some (get_or whole (length xs) y) = sym none ∙ some in cc)

module _ {T P E R O J B : Type 0} (m : Meaning P E R O) where
  -- the last step of a legal history
  last_step : (seen : List (Entry T P E R O J B)) (e : Entry T P E R O J B) → IsLegal m (seen ++ e ∷ []) → Allows m (replay m seen) e.actor e.what
  last_step seen e legal = step_at m (blank m) seen e [] legal

  -- a session that has said bye has left
  left_by_bye : IsLawful m → (i : ℕ) (seen before after : List (Entry T P E R O J B)) → IsLegal m seen → seen ≡ before ++ bye_of (Session i) ∷ after → has_left (replay m seen) i ≡ true
  left_by_bye laws i seen before after legal is =
      let whole : IsLegal m (before ++ bye_of (Session i) ∷ after) = subst (IsLegal m) is legal in
      let may : MayCall (replay m before) i = step_at m (blank m) before (bye_of (Session i)) after whole in
      let kept = coherent_history m laws before (run_split m (blank m) before (bye_of (Session i) ∷ after) whole).0 in
      ap (λ h. has_left (replay m h) i) is
      ∙ ap (λ st. has_left st i) (replay_split m (blank m) before (bye_of (Session i) ∷ after))
      ∙ away_on m (without (replay m before) i) after i (left_by m (replay m before) i kept may)

  -- after a bye nothing is pending
  idle_by_bye : (actor : Actor) (seen before after : List (Entry T P E R O J B)) → IsActor actor → IsLegal m seen → seen ≡ before ++ bye_of actor ∷ after → entries_of actor after ≡ []
      → pending_of (replay m seen) actor ≡ None
  idle_by_bye actor seen before after ok legal is none =
      let joined : seen ≡ (before ++ bye_of actor ∷ []) ++ after = is ∙ sym (append_assoc before (bye_of actor ∷ []) after) in
      let whole : IsLegal m ((before ++ bye_of actor ∷ []) ++ after) = subst (IsLegal m) joined legal in
      ap (λ h. pending_of (replay m h) actor) joined
      ∙ same_pending m (before ++ bye_of actor ∷ []) after actor ok whole none
      ∙ ap (λ st. pending_of st actor) (replay_from-append m (blank m) before (bye_of actor))
      ∙ free actor (last_step before (bye_of actor) (run_split m (blank m) (before ++ bye_of actor ∷ []) after whole).0)
    where
      free : (a : Actor) → OfSession a (MayCall (replay m before)) → pending_of (replay m before) a ≡ None
      free (Session i) may = may.free
      free (Worker k) may = absurd may

  -- a worker says no bye
  no_bye_of_workers : (k : ℕ) (seen before after : List (Entry T P E R O J B)) → IsLegal m seen → seen ≡ before ++ bye_of (Worker k) ∷ after → ⊥
  no_bye_of_workers k seen before after legal is = step_at m (blank m) before (bye_of (Worker k)) after (subst (IsLegal m) is legal)

  module _ (commands : List (Command E)) where
    -- who has a next command has not said bye
    pub no_bye_before : (actor : Actor) (seen : List (Entry T P E R O J B)) (work : Option (Work O)) (c : Command E) → IsInOrder m commands actor seen work → next_command commands actor seen ≡ Some c
        → (before after : List (Entry T P E R O J B)) → seen ≡ before ++ bye_of actor ∷ after → ⊥
    no_bye_before actor seen work c order next before after is =
        let told = order.bye before after is in
        let all = all_called commands actor seen before after is told.0 told.1 in
        none_past commands c (ap (λ l. slice_get commands (length l)) (sym all) ∙ next)

    no_bye_at_start : (actor : Actor) (seen : List (Entry T P E R O J B)) (work : Option (Work O)) → IsInOrder m commands actor seen work → IsExportNext commands actor seen
        → (before after : List (Entry T P E R O J B)) → seen ≡ before ++ bye_of actor ∷ after → ⊥
    no_bye_at_start (Session i) seen work order next before after is = no_bye_before (Session i) seen work _ order next before after is
    no_bye_at_start (Worker k) seen work order next before after is = no_bye_of_workers k seen before after order.legal is

    -- the calls after one entry more of the actor
    calls_more : (actor : Actor) (seen : List (Entry T P E R O J B)) (e : Entry T P E R O J B) → e.actor ≡ actor
        → calls_in (entries_of actor (seen ++ e ∷ [])) ≡ calls_in (entries_of actor seen) ++ cons_option (command_of e.what) []
    calls_more actor seen e by =
        ap calls_in (entries_append actor seen (e ∷ []) ∙ ap (λ l. entries_of actor seen ++ l) (own_first actor e [] by))
        ∙ calls_append (entries_of actor seen) (e ∷ [])

    -- an entry that is no call leaves the calls
    calls_stay : (actor : Actor) (seen : List (Entry T P E R O J B)) (w : What T P E R O J B) → command_of w ≡ None
        → IsPrefix (calls_in (entries_of actor seen)) commands → IsPrefix (calls_in (entries_of actor (seen ++ record { actor = actor; what = w } ∷ []))) commands
    calls_stay actor seen w none prefix =
        subst (λ l. IsPrefix l commands) (sym (calls_more actor seen (record { actor = actor; what = w }) refl ∙ ap (λ o. calls_in (entries_of actor seen) ++ cons_option o []) none ∙ append-nil _)) prefix

    -- one entry more, of one who has not said bye
    step_keeps : (actor : Actor) (seen : List (Entry T P E R O J B)) (w : What T P E R O J B) (work then : Option (Work O)) → IsInOrder m commands actor seen work
        → IsLegal m (seen ++ record { actor = actor; what = w } ∷ [])
        → ((before after : List (Entry T P E R O J B)) → seen ≡ before ++ bye_of actor ∷ after → ⊥)
        → IsPrefix (calls_in (entries_of actor (seen ++ record { actor = actor; what = w } ∷ []))) commands
        → HasWork m (seen ++ record { actor = actor; what = w } ∷ []) actor then
        → IfStart w (λ slot. IsLeast m (replay m seen) slot)
        → IfStart w (λ slot. IsExportNext commands actor seen)
        → (w ≡ Bye → calls_in (entries_of actor seen) ≡ commands)
        → IsInOrder m commands actor (seen ++ record { actor = actor; what = w } ∷ []) then
    step_keeps actor seen w work then order legal stays calls has least due last = record {
      actor_is = order.actor_is;
      legal = legal;
      calls = calls;
      work_is = has;
      least = each_more _ seen e order.least (λ by. least);
      due = each_more _ seen e order.due (λ by. due);
      bye = λ before after is. elim (split_cases seen (e ∷ []) before (bye_of actor) after is) [
        | inl first ↦ absurd (stays before first.0 first.1)
        | inr second ↦
            let one = split_one e second.0 (bye_of actor) after second.2 in
            let here : before ≡ seen = second.1 ∙ ap (λ l. seen ++ l) one.0 ∙ append-nil seen in
            (ap (λ h. calls_in (entries_of actor h)) here ∙ last (ap (λ x. x.what) one.1), ap (entries_of actor) one.2)
      ];
    }
      where
        e : Entry T P E R O J B
        e = record { actor = actor; what = w }

    -- what is pending after the last step
    pending_after : (actor : Actor) (seen : List (Entry T P E R O J B)) (w : What T P E R O J B) → pending_of (next m (replay m seen) actor w) actor ≡ None
        → pending_of (replay m (seen ++ record { actor = actor; what = w } ∷ [])) actor ≡ None
    pending_after actor seen w none = ap (λ st. pending_of st actor) (replay_from-append m (blank m) seen (record { actor = actor; what = w })) ∙ none

    pub call_keeps : (i : ℕ) (seen : List (Entry T P E R O J B)) (work : Option (Work O)) (c : Command E) (reply : Reply T P E R O J B) → IsInOrder m commands (Session i) seen work
        → next_command commands (Session i) seen ≡ Some c → IsLegal m (seen ++ record { actor = Session i; what = Call c reply } ∷ [])
        → IsInOrder m commands (Session i) (seen ++ record { actor = Session i; what = Call c reply } ∷ []) None
    call_keeps i seen work c reply order next legal =
        let may : MayCall (replay m seen) i = (last_step seen (record { actor = Session i; what = Call c reply }) legal).0 in
        step_keeps (Session i) seen (Call c reply) work None order legal (no_bye_before (Session i) seen work c order next)
        (subst (λ l. IsPrefix l commands) (sym (calls_more (Session i) seen (record { actor = Session i; what = Call c reply }) refl)) (prefix_more _ commands c order.calls next))
        (pending_after (Session i) seen (Call c reply) (ap (λ ps. get_or ps (i - 1) None) (command_pending m (replay m seen) c i) ∙ may.free))
        tt tt (λ bye. let f : Call c reply ≡ Bye = bye in cc)

    pub start_keeps : (actor : Actor) (seen : List (Entry T P E R O J B)) (work : Option (Work O)) (slot epoch : ℕ) (value : O) → IsInOrder m commands actor seen work
        → IsLeast m (replay m seen) slot → IsExportNext commands actor seen → IsLegal m (seen ++ start_of actor slot epoch ∷ []) → value ≡ m.value (replay m seen).applied slot
        → IsInOrder m commands actor (seen ++ start_of actor slot epoch ∷ []) (Some (record { slot = slot; epoch = epoch; value = value }))
    start_keeps actor seen work slot epoch value order least next legal is =
        step_keeps actor seen (Start slot epoch) work (Some (record { slot = slot; epoch = epoch; value = value })) order legal (no_bye_at_start actor seen work order next)
        (calls_stay actor seen (Start slot epoch) refl order.calls)
        (record {
          before = seen;
          rest = [];
          split = sym (append-nil (seen ++ start_of actor slot epoch ∷ []));
          unclosed = tt;
          value_is = is ∙ ap (λ st. m.value st.applied slot) (sym (replay_from-append m (blank m) seen (start_of actor slot epoch)));
        })
        least next (λ bye. let f : Start slot epoch ≡ Bye = bye in cc)

    -- what closes work finds some pending
    closes_some : (st : Machine P) (actor : Actor) (w : What T P E R O J B) → closes w ≡ true → Allows m st actor w → pending_of st actor ≡ None → ⊥
    closes_some st actor (Call c reply) closing may none = cc
    closes_some st actor (Start slot epoch) closing may none = cc
    closes_some st actor (Finish slot epoch) closing may none = let f = sym none ∙ may.pending in cc
    closes_some st actor (Late slot since now) closing may none = let f = sym none ∙ may.pending in cc
    closes_some st actor Bye closing may none = cc

    pub closing_keeps : (actor : Actor) (seen : List (Entry T P E R O J B)) (work : Option (Work O)) (w : What T P E R O J B) → IsInOrder m commands actor seen work
        → closes w ≡ true → IsLegal m (seen ++ record { actor = actor; what = w } ∷ []) → IsInOrder m commands actor (seen ++ record { actor = actor; what = w } ∷ []) None
    closing_keeps actor seen work w order closing legal =
        step_keeps actor seen w work None order legal
        (λ before after is. closes_some (replay m seen) actor w closing (last_step seen (record { actor = actor; what = w }) legal)
        (idle_by_bye actor seen before after order.actor_is order.legal is (order.bye before after is).1))
        (calls_stay actor seen w (no_command w closing) order.calls)
        (pending_after actor seen w (dropped w closing))
        (no_start w closing _) (no_start w closing _) (λ bye. absurd (let f = sym (ap closes bye) ∙ closing in let g : false ≡ true = f in cc))
      where
        no_command : (v : What T P E R O J B) → closes v ≡ true → command_of v ≡ None
        no_command (Call c reply) h = cc
        no_command (Start slot epoch) h = refl
        no_command (Finish slot epoch) h = refl
        no_command (Late slot since now) h = refl
        no_command Bye h = refl

        no_start : (v : What T P E R O J B) → closes v ≡ true → (F : ℕ → Type 0) → IfStart v F
        no_start (Call c reply) h F = tt
        no_start (Start slot epoch) h F = absurd (let g : false ≡ true = h in cc)
        no_start (Finish slot epoch) h F = tt
        no_start (Late slot since now) h F = tt
        no_start Bye h F = tt

        dropped : (v : What T P E R O J B) → closes v ≡ true → pending_of (next m (replay m seen) actor v) actor ≡ None
        dropped (Call c reply) h = cc
        dropped (Start slot epoch) h = cc
        dropped (Finish slot epoch) h = get_or-set_default (replay m seen).pending (seat_of actor) None
        dropped (Late slot since now) h = get_or-set_default (replay m seen).pending (seat_of actor) None
        dropped Bye h = cc

    pub bye_keeps : IsLawful m → (i : ℕ) (seen : List (Entry T P E R O J B)) (work : Option (Work O)) → IsInOrder m commands (Session i) seen work
        → next_command commands (Session i) seen ≡ None → IsLegal m (seen ++ bye_of (Session i) ∷ [])
        → IsInOrder m commands (Session i) (seen ++ bye_of (Session i) ∷ []) None
    bye_keeps laws i seen work order last legal =
        let may : MayCall (replay m seen) i = last_step seen (bye_of (Session i)) legal in
        step_keeps (Session i) seen Bye work None order legal
        (λ before after is. let f : true ≡ false = sym (left_by_bye laws i seen before after order.legal is) ∙ may.stays in cc)
        (calls_stay (Session i) seen Bye refl order.calls)
        (pending_after (Session i) seen Bye may.free)
        tt tt (λ bye. prefix_all _ commands order.calls last)
