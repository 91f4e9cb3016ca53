-- A session that is alone goes on, and comes to its end.
use Rattle.std.proofs.Common.{◌≡◌, ◌≢◌, ℕ, ◌+◌, ◌<◌, ◌&&◌, eqb, Bool, true, false, cond, List, [], ◌∷◌, ◌++◌, length, take, refl, ap, sym, subst, ◌∙◌, None, Some, arith}
use Rattle.std.specs.List.{slice_get, filter_map}
use Rattle.std.proofs.lemmas.List.{append-nil, take_more, take_all, length-take-le}
use Rattle.std.proofs.lemmas.Option.{slice_get_within, get_or_from_slice_get}
use Rattle.pl_tech.specs.Technology.{Meaning, IsLawful}
use Rattle.pl_ports.specs.declared.gate.Actor.TheVariants.{Session}
use Rattle.pl_machine.specs.declared.entry.Command.{Command}
use Rattle.pl_machine.specs.declared.entry.Command.TheVariants.{Export}
use Rattle.pl_machine.specs.declared.entry.Reply.{Reply}
use Rattle.pl_machine.specs.declared.entry.What.{What}
use Rattle.pl_machine.specs.declared.entry.What.TheVariants.{Call, Start, Finish, Bye}
use Rattle.pl_machine.specs.declared.entry.Entry.{Entry}
use Rattle.pl_machine.specs.Machine.{blank, pending_of, started, finished, Replies, Starts, Finishes}
use Rattle.pl_machine.specs.History.{replay}
use Rattle.pl_machine.specs.Startable.{IsLeast}
use Rattle.pl_machine.proofs.Runs.{replay_from-append, run_goes_on}
use Rattle.pl_session.specs.Complete.{command_of, is_bye, commands_by, byes_by, byes_due, IfStart, IsDue, TakesPart, IsComplete}
use Rattle.pl_session.specs.Alone.{first_alone}
use Rattle.pl_session.specs.UnderWay.{IsFree, IsUnderWay}
use Rattle.pl_session.proofs.Entries.{commands_more, byes_more, each_none, each_more}
use Rattle.pl_session.proofs.Free.{free_blank, free_called, free_done, may_call, finishes}

-- a choice between a list and nothing
chosen_more : {A : Type 0} (b : Bool) (xs ys : List A) → cond b xs [] ++ cond b ys [] ≡ cond b (xs ++ ys) []
chosen_more true xs ys = refl
chosen_more false xs ys = refl

chosen_none : {A : Type 0} (b : Bool) → [] ≡ cond {A = List A} b [] []
chosen_none true = refl
chosen_none false = refl

and_false : (b : Bool) → ◌≡◌ {A = ℕ} (cond (b && false) 1 0) 0
and_false true = refl
and_false false = refl

none_due : (E : Type 0) (b : Bool) → 0 ≡ byes_due (cond {A = List (Command E)} b [] [])
none_due E true = refl
none_due E false = refl

module _ {E : Type 0} where
  some_due : (commands : List (Command E)) → commands ≢ [] → byes_due commands ≡ 1
  some_due [] some = absurd (some refl)
  some_due (c ∷ commands) some = refl

  -- the bye of session 1 is the one that is due
  bye_due : (b : Bool) (commands : List (Command E)) → commands ≢ [] → cond (b && true) 1 0 ≡ byes_due (cond b commands [])
  bye_due true commands some = sym (some_due commands some)
  bye_due false commands some = refl

  -- a session that has a command takes part
  has_some : (commands : List (Command E)) (made : ℕ) (c : Command E) → slice_get commands made ≡ Some c → commands ≢ []
  has_some commands made c here none = let within = slice_get_within commands made c here in let short = ap length none in absurd (omega (arith, within, short))

  takes_part : (commands : List (Command E)) → commands ≢ [] → TakesPart (first_alone commands) 0 (Session 1)
  takes_part commands some = (omega arith, omega arith, some)

  take_next : (commands : List (Command E)) (made : ℕ) (c : Command E) → slice_get commands made ≡ Some c → take (made + 1) commands ≡ take made commands ++ c ∷ []
  take_next commands made c here =
      take_more commands made c (slice_get_within commands made c here) ∙ ap (λ x. take made commands ++ x ∷ []) (get_or_from_slice_get commands made c c here)

module _ {T P E R O J B : Type 0} where
  -- an entry of session 1
  abbrev pub by_first : What T P E R O J B → Entry T P E R O J B
  by_first what = record { actor = Session 1; what = what }

  call_alone : (i : ℕ) (c : Command E) (reply : Reply T P E R O J B) → commands_by i (by_first (Call c reply) ∷ []) ≡ cond (eqb i 1) (c ∷ []) []
  call_alone i c reply = either (eqb i 1)
    where
      either : (b : Bool) → filter_map (λ e. command_of e.what) (cond b (by_first (Call c reply) ∷ []) []) ≡ cond b (c ∷ []) []
      either true = refl
      either false = refl

  -- an entry that is no call adds no command, and one that is no bye no bye
  no_call : (i : ℕ) (what : What T P E R O J B) → command_of what ≡ None → (h : List (Entry T P E R O J B)) → commands_by i (h ++ by_first what ∷ []) ≡ commands_by i h
  no_call i what none h = commands_more i h (by_first what) ∙ ap (λ l. commands_by i h ++ l) (either (eqb i 1)) ∙ append-nil (commands_by i h)
    where
      either : (b : Bool) → filter_map (λ e. command_of e.what) (cond b (by_first what ∷ []) []) ≡ []
      either true = rw none refl
      either false = refl

  no_bye : (i : ℕ) (what : What T P E R O J B) → is_bye what ≡ false → (h : List (Entry T P E R O J B)) → byes_by i (h ++ by_first what ∷ []) ≡ byes_by i h
  no_bye i what none h =
      let more = byes_more i h (by_first what) in
      let none = ap (λ b. cond (eqb i 1 && b) 1 0) none ∙ and_false (eqb i 1) in
      omega (arith, more, none)

  module _ (m : Meaning P E R O) (commands : List (Command E)) where
    abbrev PartIs : List (Entry T P E R O J B) → Entry T P E R O J B → Type 0
    PartIs before e = TakesPart (first_alone commands) 0 e.actor

    abbrev LeastIs : List (Entry T P E R O J B) → Entry T P E R O J B → Type 0
    LeastIs before e = IfStart e.what (λ slot. IsLeast m (replay m before) slot)

    abbrev DueIs : List (Entry T P E R O J B) → Entry T P E R O J B → Type 0
    DueIs before e = IfStart e.what (λ slot. IsDue (first_alone commands) before e.actor)

    pub under_way_none : IsUnderWay {T = T} {J = J} {B = B} m commands 0 []
    under_way_none = record {
      legal = tt;
      calls = λ i. chosen_none (eqb i 1);
      byes = λ i. refl;
      actors = each_none PartIs;
      least = each_none LeastIs;
      due = each_none DueIs;
      free = free_blank m;
    }

    pub under_way_called : (made : ℕ) (h : List (Entry T P E R O J B)) (c : Command E) (reply : Reply T P E R O J B)
        → slice_get commands made ≡ Some c → Replies m (replay m h) c reply → IsUnderWay m commands made h → IsUnderWay m commands (made + 1) (h ++ by_first (Call c reply) ∷ [])
    under_way_called made h c reply here replies way =
        let e = by_first (Call c reply) in
        let part = takes_part commands (has_some commands made c here) in
        record {
          legal = run_goes_on m (blank m) h e way.legal (may_call (replay m h) made way.free, replies);
          calls = λ i. commands_more i h e ∙ ap (λ l. l ++ commands_by i (e ∷ [])) (way.calls i) ∙ ap (λ l. first_alone (take made commands) i ++ l) (call_alone i c reply)
              ∙ chosen_more (eqb i 1) (take made commands) (c ∷ []) ∙ ap (λ l. first_alone l i) (sym (take_next commands made c here));
          byes = λ i. no_bye i (Call c reply) refl h ∙ way.byes i;
          actors = each_more PartIs h e way.actors part;
          least = each_more LeastIs h e way.least tt;
          due = each_more DueIs h e way.due tt;
          free = subst (λ st. IsFree st (made + 1)) (sym (replay_from-append m (blank m) h e)) (free_called m (replay m h) c made way.free);
        }

    -- a slot is started before an export, and finished
    pub under_way_made : IsLawful m → (made : ℕ) (h : List (Entry T P E R O J B)) (slot epoch : ℕ)
        → slice_get commands made ≡ Some Export → Starts m (replay m h) (Session 1) slot epoch → IsLeast m (replay m h) slot → IsUnderWay m commands made h
        → IsUnderWay m commands made ((h ++ by_first (Start slot epoch) ∷ []) ++ by_first (Finish slot epoch) ∷ [])
    under_way_made laws made h slot epoch here starts least way =
        let st = replay m h in
        let e = by_first (Start slot epoch) in
        let h1 = h ++ e ∷ [] in
        let f = by_first (Finish slot epoch) in
        let part = takes_part commands (has_some commands made Export here) in
        let at : replay m h1 ≡ started st (Session 1) slot epoch = replay_from-append m (blank m) h e in
        let there : replay m (h1 ++ f ∷ []) ≡ finished (replay m h1) (Session 1) slot = replay_from-append m (blank m) h1 f in
        let low : slot < 100 = laws.present_below st.applied slot starts.can.ready.present in
        let within : made < length commands = slice_get_within commands made Export here in
        let due : IsDue (first_alone commands) h (Session 1) = ap (λ l. slice_get commands (length l)) (way.calls 1) ∙ ap (slice_get commands) (length-take-le made commands (omega arith)) ∙ here in
        record {
          legal = run_goes_on m (blank m) h1 f (run_goes_on m (blank m) h e way.legal starts)
              (subst (λ s. Finishes s (Session 1) slot epoch) (sym at) (finishes st slot epoch made low starts.current way.free));
          calls = λ i. no_call i (Finish slot epoch) refl h1 ∙ no_call i (Start slot epoch) refl h ∙ way.calls i;
          byes = λ i. no_bye i (Finish slot epoch) refl h1 ∙ no_bye i (Start slot epoch) refl h ∙ way.byes i;
          actors = each_more PartIs h1 f (each_more PartIs h e way.actors part) part;
          least = each_more LeastIs h1 f (each_more LeastIs h e way.least least) tt;
          due = each_more DueIs h1 f (each_more DueIs h e way.due due) tt;
          free = subst (λ s. IsFree s made) (sym (there ∙ ap (λ s. finished s (Session 1) slot) at)) (free_done st slot epoch made way.free);
        }

    -- without a command the history is complete
    pub complete_none : (made : ℕ) (h : List (Entry T P E R O J B)) → commands ≡ [] → IsUnderWay m commands made h → IsComplete m (first_alone commands) 0 h
    complete_none made h none way =
        let all : take made commands ≡ commands = take_all made commands (let short = ap length none in omega (arith, short)) in
        record {
          legal = way.legal;
          calls = λ i from to. way.calls i ∙ ap (λ l. first_alone l i) all;
          byes = λ i from to. way.byes i ∙ none_due E (eqb i 1) ∙ ap (λ l. byes_due (first_alone l i)) (sym none);
          actors = way.actors;
          idle = λ actor ok. way.free.idle actor;
          least = way.least;
          due = way.due;
        }

    -- else it is with the bye
    pub complete_left : (h : List (Entry T P E R O J B)) → commands ≢ [] → IsUnderWay m commands (length commands) h
        → IsComplete m (first_alone commands) 0 (h ++ by_first Bye ∷ [])
    complete_left h some way =
        let e = by_first Bye in
        let part = takes_part commands some in
        record {
          legal = run_goes_on m (blank m) h e way.legal (may_call (replay m h) (length commands) way.free);
          calls = λ i from to. no_call i Bye refl h ∙ way.calls i ∙ ap (λ l. first_alone l i) (take_all (length commands) commands (omega arith));
          byes = λ i from to. let more = byes_more i h e in let none = way.byes i in let due = bye_due (eqb i 1) commands some in omega (arith, more, none, due);
          actors = each_more PartIs h e way.actors part;
          idle = λ actor ok. ap (λ st. pending_of st actor) (replay_from-append m (blank m) h e) ∙ way.free.idle actor;
          least = each_more LeastIs h e way.least tt;
          due = each_more DueIs h e way.due tt;
        }
