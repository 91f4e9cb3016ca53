-- Two complete histories of a session that is alone are one.
use Rattle.std.proofs.Common.{◌≡◌, ℕ, ◌<◌, inl, inr, Bool, true, false, cond, List, [], ◌∷◌, ◌++◌, length, refl, ap, sym, subst, ◌∙◌, None, Some, arith, append_assoc}
use Rattle.std.specs.List.{slice_get, filter, filter_map, cons_option}
use Rattle.std.specs.Option.{is_some}
use Rattle.std.proofs.Math.Seq.{get_or-append_seam}
use Rattle.std.proofs.lemmas.List.{append-nil, length-append}
use Rattle.std.proofs.lemmas.Option.{slice_get_within, slice_get_read}
use Rattle.std.proofs.lemmas.Bool.{cases_lt}
use Rattle.std.proofs.lemmas.Bool.Decides.{eqb_tells}
use Rattle.pl_tech.specs.Technology.{Meaning, IsLawful}
use Rattle.pl_ports.specs.declared.gate.Actor.{Actor}
use Rattle.pl_ports.specs.declared.gate.Actor.TheVariants.{Session, Worker}
use Rattle.pl_machine.specs.declared.entry.Pending.{Pending}
use Rattle.pl_machine.specs.declared.entry.Command.{Command}
use Rattle.pl_machine.specs.declared.entry.Command.TheVariants.{Export}
use Rattle.pl_machine.specs.declared.entry.Reply.{Reply}
use Rattle.pl_machine.specs.declared.entry.Reply.TheVariants.{Gcode, Refused}
use Rattle.pl_machine.specs.declared.entry.Mode.TheVariants.{Invalid, Done}
use Rattle.pl_machine.specs.declared.entry.What.{What}
use Rattle.pl_machine.specs.declared.entry.What.TheVariants.{Call, Start, Finish, Late, Bye}
use Rattle.pl_machine.specs.declared.entry.Entry.{Entry}
use Rattle.pl_machine.specs.Machine.{Machine, IsCoherent, CanStart, Allows, Replies, blank, next, mode_of, pending_of, epoch_of, has_left, without}
use Rattle.pl_machine.specs.History.{replay, IsRunFrom}
use Rattle.pl_machine.specs.Startable.{IsLeast}
use Rattle.pl_machine.specs.Tickets.{closes}
use Rattle.pl_machine.proofs.Runs.{run_split}
use Rattle.pl_machine.proofs.Replies.{one_reply}
use Rattle.pl_machine.proofs.Excluding.{whole as all_done}
use Rattle.pl_machine.proofs.Coherence.{coherent_history, left_by, still_away}
use Rattle.pl_session.specs.Complete.{is_session, command_of, is_bye, commands_by, byes_by, byes_due, IfStart, IsDue, TakesPart, IsComplete}
use Rattle.pl_session.specs.Alone.{first_alone}
use Rattle.pl_session.proofs.Entries.{commands_append, byes_append}
use Rattle.pl_session.proofs.Alone.{by_first}

-- two least slots are one
same_least : {P E R O : Type 0} (m : Meaning P E R O) (st : Machine P) (s t : ℕ) → IsLeast m st s → IsLeast m st t → s ≡ t
same_least m st s t a b = elim (cases_lt s t) [
  | inl below ↦ absurd (b.least s below a.can)
  | inr not_below ↦ elim (cases_lt t s) [
    | inl above ↦ absurd (a.least t above b.can)
    | inr not_above ↦ omega arith
  ]
]

module _ {P : Type 0} (st : Machine P) where
  -- what is pending is one pair
  one_pair : (s t since then : ℕ) → pending_of st (Session 1) ≡ Some (record { slot = s; epoch = since }) → pending_of st (Session 1) ≡ Some (record { slot = t; epoch = then })
      → (s ≡ t) × (since ≡ then)
  one_pair s t since then p q =
      let first : Pending = record { slot = s; epoch = since } in
      let second : Pending = record { slot = t; epoch = then } in
      let f : Some first ≡ Some second = sym p ∙ q in
      let g : first ≡ second = cc in
      (ap (λ pair. pair.slot) g, ap (λ pair. pair.epoch) g)

  not_pending : (p : Pending) → pending_of st (Session 1) ≡ None → pending_of st (Session 1) ≡ Some p → ⊥
  not_pending p none is = let f : None ≡ Some p = sym none ∙ is in cc

module _ {E : Type 0} where
  -- where session 1 is alone, it is session 1 that takes part
  is_first : (commands : List (Command E)) (a : Actor) → TakesPart (first_alone commands) 0 a → a ≡ Session 1
  is_first commands (Worker k) part = absurd (omega (arith, part.0, part.1))
  is_first commands (Session i) part = elim (eqb_tells i 1) [
    | inl same ↦ ap Session same.1
    | inr other ↦ absurd (part.2 (ap (λ b. cond b commands []) other.0))
  ]

  -- the element after a list
  next_is : (before : List (Command E)) (c : Command E) (after whole : List (Command E)) → before ++ c ∷ after ≡ whole → slice_get whole (length before) ≡ Some c
  next_is before c after whole is =
      let long = length-append before (c ∷ after) in
      subst (λ l. slice_get l (length before) ≡ Some c) is
      (slice_get_read (before ++ c ∷ after) (length (before ++ c ∷ after)) (length before) c refl (grind (arith, long)) (sym (get_or-append_seam before c after c)))

  -- there is none after the last
  none_next : (before whole : List (Command E)) (c : Command E) → before ≡ whole → slice_get whole (length before) ≡ Some c → ⊥
  none_next before whole c is here =
      let within = slice_get_within whole (length before) c here in
      let same = ap length is in
      omega (arith, within, same)

module _ {T P E R O J B : Type 0} where
  -- the first call's command is the first command
  first_command : (w : What T P E R O J B) (c : Command E) (es : List (Entry T P E R O J B)) → command_of w ≡ Some c → commands_by 1 (by_first w ∷ es) ≡ c ∷ commands_by 1 es
  first_command w c es is = ap (λ o. cons_option o (commands_by 1 es)) is

  abbrev of_first : List (Entry T P E R O J B) → List (Entry T P E R O J B)
  of_first es = filter (λ e. is_session 1 e.actor) es

  no_command : (e : Entry T P E R O J B) (es : List (Entry T P E R O J B)) → command_of e.what ≡ None → commands_by 1 (e ∷ es) ≡ commands_by 1 es
  no_command e es none = either (is_session 1 e.actor)
    where
      either : (b : Bool) → filter_map (λ e. command_of e.what) (cond b (e ∷ of_first es) (of_first es)) ≡ filter_map (λ e. command_of e.what) (of_first es)
      either true = ap (λ o. cons_option o (filter_map (λ e. command_of e.what) (of_first es))) none
      either false = refl

  some_bye : (es : List (Entry T P E R O J B)) → 0 < byes_by 1 (by_first Bye ∷ es)
  some_bye es = let more = byes_append 1 (by_first Bye ∷ []) es in omega (arith, more)

  module _ (m : Meaning P E R O) where
    -- who has left makes no call
    no_call_by : (st : Machine P) (a : Actor) (w : What T P E R O J B) → has_left st 1 ≡ true → Allows m st a w → (es : List (Entry T P E R O J B))
        → commands_by 1 (record { actor = a; what = w } ∷ es) ≡ commands_by 1 es
    no_call_by st (Worker k) (Call c reply) left may es = refl
    no_call_by st (Session i) (Call c reply) left may es = elim (eqb_tells 1 i) [
      | inl same ↦ absurd (let f : true ≡ false = sym left ∙ ap (has_left st) same.1 ∙ may.0.stays in cc)
      | inr other ↦ ap (λ b. filter_map (λ e. command_of e.what) (cond b (record { actor = Session i; what = Call c reply } ∷ of_first es) (of_first es))) other.0
    ]
    no_call_by st a w left may es = no_command (record { actor = a; what = w }) es refl

    no_more_calls : (st : Machine P) (es : List (Entry T P E R O J B)) → has_left st 1 ≡ true → IsRunFrom m st es → commands_by 1 es ≡ []
    no_more_calls st [] left run = refl
    no_more_calls st (e ∷ es) left run =
        no_call_by st e.actor e.what left run.0 es ∙ no_more_calls (next m st e.actor e.what) es (still_away m st e.actor e.what 1 left) run.1

    -- what is made where something is pending closes it
    closes_pending : (st : Machine P) (w : What T P E R O J B) → Allows m st (Session 1) w → closes w ≡ is_some (pending_of st (Session 1))
    closes_pending st (Call c reply) may = ap is_some (sym may.0.free)
    closes_pending st (Start slot epoch) may = ap is_some (sym may.free)
    closes_pending st (Finish slot epoch) may = ap is_some (sym may.pending)
    closes_pending st (Late slot since now) may = ap is_some (sym may.pending)
    closes_pending st Bye may = ap is_some (sym may.free)

    module _ (laws : IsLawful m) (commands : List (Command E)) where
      abbrev Whole : List (Entry T P E R O J B) → Type 0
      Whole h = IsComplete m (first_alone commands) 0 h

      -- session 1 makes this next, in a history that becomes complete
      record GoesOn (h : List (Entry T P E R O J B)) (w : What T P E R O J B) : Type 0 where
        may : Allows m (replay m h) (Session 1) w
        least : IfStart w (λ slot. IsLeast m (replay m h) slot)
        due : IfStart w (λ slot. IsDue (first_alone commands) h (Session 1))
        asked : (c : Command E) → command_of w ≡ Some c → slice_get commands (length (commands_by 1 h)) ≡ Some c
        left : is_bye w ≡ true → (commands_by 1 h ≡ commands) × (byes_by 1 h < byes_due commands)

      -- after the bye come no calls
      bye_last : (h es : List (Entry T P E R O J B)) (w : What T P E R O J B) → Whole (h ++ by_first w ∷ es) → is_bye w ≡ true → (commands_by 1 h ≡ commands) × (byes_by 1 h < byes_due commands)
      bye_last h es (Call c reply) whole is = cc
      bye_last h es (Start slot epoch) whole is = cc
      bye_last h es (Finish slot epoch) whole is = cc
      bye_last h es (Late slot since now) whole is = cc
      bye_last h es Bye whole is =
          let st = replay m h in
          let runs = run_split m (blank m) h (by_first Bye ∷ es) whole.legal in
          let gone : has_left (without st 1) 1 ≡ true = left_by m st 1 (coherent_history m laws h runs.0) runs.1.0 in
          let rest : commands_by 1 es ≡ [] = no_more_calls (without st 1) es gone runs.1.1 in
          let calls = whole.calls 1 (omega arith) (omega arith) in
          let byes = whole.byes 1 (omega arith) (omega arith) in
          let more = byes_append 1 h (by_first Bye ∷ es) in
          let one = some_bye es in
          (sym (append-nil (commands_by 1 h)) ∙ ap (λ l. commands_by 1 h ++ l) (sym rest) ∙ sym (commands_append 1 h (by_first Bye ∷ es)) ∙ calls, omega (arith, byes, more, one))

      goes_on : (h es : List (Entry T P E R O J B)) (w : What T P E R O J B) → Whole (h ++ by_first w ∷ es) → GoesOn h w
      goes_on h es w whole = record {
        may = (run_split m (blank m) h (by_first w ∷ es) whole.legal).1.0;
        least = whole.least h es (by_first w) refl;
        due = whole.due h es (by_first w) refl;
        asked = λ c is. next_is (commands_by 1 h) c (commands_by 1 es) commands
            (ap (λ l. commands_by 1 h ++ l) (sym (first_command w c es is)) ∙ sym (commands_append 1 h (by_first w ∷ es)) ∙ whole.calls 1 (omega arith) (omega arith));
        left = bye_last h es w whole;
      }

      -- an export has no reply where a slot may be started
      export_waits : (st : Machine P) (slot : ℕ) (r : Reply T P E R O J B) → IsCoherent m st → CanStart m st slot → Replies m st Export r → ⊥
      export_waits st slot (Refused p) kept can replies = let f : None ≡ Some p = sym can.no_problem ∙ replies in cc
      export_waits st slot (Gcode o) kept can replies =
          let done : mode_of st slot ≡ Done = all_done m laws st kept replies.1 slot can.ready.present in
          let f : Invalid ≡ Done = sym can.invalid ∙ done in cc
      export_waits st slot r kept can replies = replies

      -- a start comes before an export, which has no reply yet
      not_both : (h : List (Entry T P E R O J B)) (c : Command E) (reply : Reply T P E R O J B) (slot epoch : ℕ) → IsCoherent m (replay m h)
          → GoesOn h (Call c reply) → GoesOn h (Start slot epoch) → ⊥
      not_both h c reply slot epoch kept a b =
          let f : Some c ≡ Some Export = sym (a.asked c refl) ∙ b.due in
          let g : c ≡ Export = cc in
          export_waits (replay m h) slot reply kept b.least.can (subst (λ d. Replies m (replay m h) d reply) g a.may.1)

      -- what is finished is not late
      not_late : (h : List (Entry T P E R O J B)) (s e t since now : ℕ) → GoesOn h (Finish s e) → GoesOn h (Late t since now) → ⊥
      not_late h s e t since now a b =
          let pair = one_pair (replay m h) s t e since a.may.pending b.may.pending in
          let epochs : e ≡ now = sym a.may.current ∙ ap (epoch_of (replay m h)) pair.0 ∙ b.may.current in
          omega (arith, epochs, pair.1, b.may.later)

      -- both close what is pending, or none does
      both_close : (h : List (Entry T P E R O J B)) (w v : What T P E R O J B) → GoesOn h w → GoesOn h v → closes w ≡ closes v
      both_close h w v a b = closes_pending (replay m h) w a.may ∙ sym (closes_pending (replay m h) v b.may)

      one_next : (h : List (Entry T P E R O J B)) (w v : What T P E R O J B) → IsCoherent m (replay m h) → GoesOn h w → GoesOn h v → w ≡ v
      one_next h (Call c r) (Call d s) kept a b =
          let f : Some c ≡ Some d = sym (a.asked c refl) ∙ b.asked d refl in
          let g : c ≡ d = cc in
          ap (λ x. Call x r) g ∙ ap (Call d) (one_reply m (replay m h) d r s kept.modes_long (subst (λ x. Replies m (replay m h) x r) g a.may.1) b.may.1)
      one_next h (Call c r) (Start slot epoch) kept a b = absurd (not_both h c r slot epoch kept a b)
      one_next h (Call c r) Bye kept a b = absurd (none_next (commands_by 1 h) commands c (b.left refl).0 (a.asked c refl))
      one_next h (Start slot epoch) (Call c r) kept a b = absurd (not_both h c r slot epoch kept b a)
      one_next h (Start s e) (Start t f) kept a b =
          let same = same_least m (replay m h) s t a.least b.least in
          let epochs : e ≡ f = sym a.may.current ∙ ap (epoch_of (replay m h)) same ∙ b.may.current in
          ap (λ k. Start k e) same ∙ ap (Start t) epochs
      one_next h (Start slot epoch) Bye kept a b = absurd (none_next (commands_by 1 h) commands Export (b.left refl).0 a.due)
      one_next h Bye (Call c r) kept a b = absurd (none_next (commands_by 1 h) commands c (a.left refl).0 (b.asked c refl))
      one_next h Bye (Start slot epoch) kept a b = absurd (none_next (commands_by 1 h) commands Export (a.left refl).0 b.due)
      one_next h Bye Bye kept a b = refl
      one_next h (Finish s e) (Finish t f) kept a b =
          let pair = one_pair (replay m h) s t e f a.may.pending b.may.pending in
          ap (λ k. Finish k e) pair.0 ∙ ap (Finish t) pair.1
      one_next h (Finish s e) (Late t since now) kept a b = absurd (not_late h s e t since now a b)
      one_next h (Late t since now) (Finish s e) kept a b = absurd (not_late h s e t since now b a)
      one_next h (Late s since now) (Late t then later) kept a b =
          let pair = one_pair (replay m h) s t since then a.may.pending b.may.pending in
          let epochs : now ≡ later = sym a.may.current ∙ ap (epoch_of (replay m h)) pair.0 ∙ b.may.current in
          ap (λ k. Late k since now) pair.0 ∙ ap (λ k. Late t k now) pair.1 ∙ ap (Late t then) epochs
      one_next h w v kept a b = let same = both_close h w v a b in cc

      -- a complete history goes on no further
      no_more : (h : List (Entry T P E R O J B)) (w : What T P E R O J B) → Whole h → GoesOn h w → ⊥
      no_more h (Call c reply) whole a = none_next (commands_by 1 h) commands c (whole.calls 1 (omega arith) (omega arith)) (a.asked c refl)
      no_more h (Start slot epoch) whole a = none_next (commands_by 1 h) commands Export (whole.calls 1 (omega arith) (omega arith)) a.due
      no_more h (Finish slot epoch) whole a = not_pending (replay m h) _ (whole.idle (Session 1) a.may.actor_is) a.may.pending
      no_more h (Late slot since now) whole a = not_pending (replay m h) _ (whole.idle (Session 1) a.may.actor_is) a.may.pending
      no_more h Bye whole a = let byes = whole.byes 1 (omega arith) (omega arith) in let below = (a.left refl).1 in omega (arith, byes, below)

      -- the next entry is by session 1
      first_is : (h es : List (Entry T P E R O J B)) (e : Entry T P E R O J B) → Whole (h ++ e ∷ es) → e ≡ by_first e.what
      first_is h es e whole = ap (λ a. record { actor = a; what = e.what }) (is_first commands e.actor (whole.actors h es e refl))

      entry_goes_on : (h es : List (Entry T P E R O J B)) (e : Entry T P E R O J B) → Whole (h ++ e ∷ es) → GoesOn h e.what
      entry_goes_on h es e whole = goes_on h es e.what (subst (λ x. Whole (h ++ x ∷ es)) (first_is h es e whole) whole)

      coherent_before : (h es : List (Entry T P E R O J B)) → Whole (h ++ es) → IsCoherent m (replay m h)
      coherent_before h es whole = coherent_history m laws h (run_split m (blank m) h es whole.legal).0

      -- what follows the same entries is the same
      same_rest : (h one other : List (Entry T P E R O J B)) → Whole (h ++ one) → Whole (h ++ other) → one ≡ other
      same_rest h [] [] a b = refl
      same_rest h [] (f ∷ fs) a b = absurd (no_more h f.what (subst Whole (append-nil h) a) (entry_goes_on h fs f b))
      same_rest h (e ∷ es) [] a b = absurd (no_more h e.what (subst Whole (append-nil h) b) (entry_goes_on h es e a))
      same_rest h (e ∷ es) (f ∷ fs) a b =
          let what = one_next h e.what f.what (coherent_before h (e ∷ es) a) (entry_goes_on h es e a) (entry_goes_on h fs f b) in
          let same : e ≡ f = first_is h es e a ∙ ap by_first what ∙ sym (first_is h fs f b) in
          let rest : es ≡ fs = same_rest (h ++ e ∷ []) es fs
          (subst Whole (sym (append_assoc h (e ∷ []) es)) a)
          (subst Whole (sym (append_assoc h (e ∷ []) fs)) (subst (λ x. Whole (h ++ x ∷ fs)) (sym same) b)) in
          ap (λ x. x ∷ es) same ∙ ap (λ l. f ∷ l) rest

      pub one_complete : (one other : List (Entry T P E R O J B)) → Whole one → Whole other → one ≡ other
      one_complete one other a b = same_rest [] one other a b
