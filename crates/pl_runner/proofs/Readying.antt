-- A runner is in order again after a turn without work.
use Rattle.std.proofs.Common.{◌≡◌, ◌==◌, ℕ, Bool, true, ◌+◌, ◌-◌, ◌^◌, ◌<◌, ◌≤◌, false, List, [], ◌∷◌, ◌++◌, length, refl, ap, sym, subst, ◌∙◌, None, Some, arith}
use Rattle.std.specs.Prelude.{IfSome, if◌then◌else◌}
use Rattle.std.specs.List.{All, filter, slice_get}
use Rattle.std.proofs.lemmas.List.Sums.{count_by-le-length, length-filter}
use Rattle.std.specs.Option.{option_map}
use Rattle.std.specs.declared.option.Option.{Option}
use Rattle.pl_tech.specs.Technology.{Meaning}
use Rattle.pl_ports.specs.declared.gate.Actor.{Actor}
use Rattle.pl_ports.specs.declared.gate.Actor.TheVariants.{Session, Worker}
use Rattle.pl_turn.specs.declared.turned.Turned.{Ghosts}
use Rattle.pl_turn.specs.declared.lock.TurnLock.{TurnLock}
use Rattle.pl_turn.specs.Passes.{IsOf, number, seen, own, joined}
use Rattle.pl_epochs.specs.declared.seats.TableName.{TableName}
use Rattle.pl_epochs.specs.Words.{reads_at}
use Rattle.pl_machine.specs.declared.entry.Command.{Command}
use Rattle.pl_machine.specs.declared.entry.Entry.{Entry}
use Rattle.pl_machine.specs.Calls.{NamesSession}
use Rattle.pl_machine.specs.Machine.{IsActor, Machine}
use Rattle.pl_machine.specs.History.{IsLegal, replay}
use Rattle.pl_machine.specs.Tickets.{number_of, start_of}
use Rattle.pl_plant.specs.declared.plant.Plant.{Plant}
use Rattle.pl_session.specs.Complete.{is_start, runs_of}
use Rattle.pl_session.proofs.Entries.{runs_more}
use Rattle.std.proofs.lemmas.List.{length-append, append-nil}
use Rattle.pl_order.proofs.Own.{calls_append, not_own}
use Rattle.pl_order.proofs.Others.{newcomer}
use Rattle.pl_order.proofs.Steps.{no_bye_before}
use Rattle.pl_order.specs.Order.{IsInOrder, bye_of, calls_in, entries_of}
use Rattle.pl_runner.specs.declared.looked.Looked.{Looked}
use Rattle.pl_runner.specs.declared.looked.Looked.TheVariants.{Called, Begun, Ended, Waits, NoMemory}
use Rattle.pl_runner.specs.declared.step.Step.{Step}
use Rattle.pl_runner.specs.declared.step.Step.TheVariants as step
use Rattle.pl_runner.specs.declared.runner.Hands.{Hands}
use Rattle.pl_runner.specs.declared.runner.Started.{Started}
use Rattle.pl_runner.specs.declared.runner.Runner.{Runner}
use Rattle.pl_runner.specs.Looked.{MatchLooked, IfBegun, IfWaits, work_in}
use Rattle.pl_runner.specs.Causes.{HasCalled, HasEndedIn, HasNext, HasNoneAsWorker, MayGoOn, RunnerWaits}
use Rattle.pl_runner.proofs.Idling.{some_at}
use Rattle.pl_runner.specs.Running.{IsReady, commands_of, jobs_in, own_of, seen_by}
use Rattle.pl_runner.specs.Stepping.{HasWaited, Keeps, MatchStep, UnlessMemory}

module _ {T P E R O J B : Type 0} where
  -- how many slots were started, after an entry that starts none
  called_runs : (actor : Actor) (next : Option (Command E)) (old new : List (Entry T P E R O J B)) → HasCalled actor next old new → runs_of new ≡ runs_of old
  called_runs (Session i) next old new called = let more = ap runs_of called.2.1 ∙ runs_more old (record { actor = Session i; what = _ }) in omega (arith, more)
  called_runs (Worker k) next old new none = absurd none

  begun_runs : (actor : Actor) (slot epoch : ℕ) (old new : List (Entry T P E R O J B)) → new ≡ old ++ start_of actor slot epoch ∷ [] → runs_of new ≡ runs_of old + 1
  begun_runs actor slot epoch old new is = ap runs_of is ∙ runs_more old (start_of actor slot epoch)

  ended_runs : (st : Machine P) (actor : Actor) (sessions : ℕ) (old new : List (Entry T P E R O J B)) → HasEndedIn st actor sessions old new → runs_of new ≡ runs_of old
  ended_runs st (Session i) sessions old new is = let more = ap runs_of is ∙ runs_more old (bye_of (Session i)) in omega (arith, more)
  ended_runs st (Worker k) sessions old new is = ap runs_of is.0

  -- who has made no entry has not said bye
  pub new_stays : (i n : ℕ) (seen own : List (Entry T P E R O J B)) → own ≡ [] → n ≡ i → own ≡ filter (λ e. number_of e.actor == n) seen → MayGoOn (Session i) seen
  new_stays i n seen own none number entries =
      λ said. not_own (Session i) said.0 (bye_of (Session i)) said.1 (ap (entries_of (Session i)) (sym said.2) ∙ ap (λ k. filter (λ e. number_of e.actor == k) seen) (sym number) ∙ sym entries ∙ none) refl

  -- a session that has a command left has not said bye
  pub goes_on : (m : Meaning P E R O) (actor : Actor) (commands : List (Command E)) (made : ℕ) (seen own : List (Entry T P E R O J B)) → IsInOrder m commands actor seen None
      → own ≡ entries_of actor seen → length (calls_in own) ≡ made → HasNext actor made commands → MayGoOn actor seen
  goes_on m (Session i) commands made seen own order entries calls within =
      let next = some_at commands made within in
      λ said. no_bye_before m commands (Session i) seen None next.0 order (ap (slice_get commands) (ap (λ l. length (calls_in l)) (sym entries) ∙ calls) ∙ next.1) said.0 said.1 said.2
  goes_on m (Worker k) commands made seen own order entries calls within = tt

module _ {T P E R O J B : Type 0} {g : Ghosts (Plant T P E R O J B) (Entry T P E R O J B) TableName}
    (m : Meaning P E R O) (job_value : J → O) (runs : B → ℕ) (r : Runner T P E R O J B (Entry T P E R O J B) TableName g) (h : Hands T P E R O J B (Entry T P E R O J B) TableName g)
    (hands : r.hands ≡ Some h) (own_is : own h.pass ≡ []) (number_is : number h.pass ≡ number_of r.actor) (entries : own h.pass ≡ filter (λ e. number_of e.actor == number h.pass) (seen h.pass)) where
  no_entries : entries_of r.actor (seen h.pass) ≡ []
  no_entries = ap (λ n. filter (λ e. number_of e.actor == n) (seen h.pass)) (sym number_is) ∙ sym entries ∙ own_is

  -- a new runner is in order
  pub new_ready : (lock : TurnLock (Plant T P E R O J B) (Entry T P E R O J B) TableName) (table : TableName) → r.started ≡ None → r.made ≡ 0 → r.stopped ≡ 0 → IsActor r.actor → joined h.pass ≡ []
      → IsLegal m (seen h.pass) → runs r.bench ≡ 0 → length r.commands.items ≤ 2 ^ 32 - 1 → All NamesSession (commands_of r) → HasNoneAsWorker r.actor (commands_of r)
      → IsOf lock h.pass → reads_at h.reader ≡ table → IsReady m job_value runs lock table r
  new_ready lock table none made stopped actor joined_is legal unused few named plain of reads = record {
    at = rw hands (of, reads);
    number = rw hands number_is;
    joined = rw hands joined_is;
    few = few;
    named = named;
    plain = plain;
    made = rw (hands, made, own_is) refl;
    within = rw made (omega arith);
    order = rw (hands, none) (newcomer m (commands_of r) r.actor (seen h.pass) legal actor no_entries);
    counted = rw (hands, none, own_is, unused) refl;
    few_stopped = rw (stopped, unused) (omega arith);
    due = rw none tt;
    short = rw none tt;
  }

-- a runner keeps what no step changes, where nothing changes
pub keeps_self : {T P E R O J B : Type 0} {g : Ghosts (Plant T P E R O J B) (Entry T P E R O J B) TableName} (r : Runner T P E R O J B (Entry T P E R O J B) TableName g) → Keeps r r
keeps_self r = record { actor = refl; commands = refl; number = refl; joined = refl; splits = refl; seen = ([], append-nil (seen_by r)) }

module _ {T P E R O J B : Type 0} {g : Ghosts (Plant T P E R O J B) (Entry T P E R O J B) TableName}
    (m : Meaning P E R O) (job_value : J → O) (runs : B → ℕ) (lock : TurnLock (Plant T P E R O J B) (Entry T P E R O J B) TableName) (table : TableName)
    (r : Runner T P E R O J B (Entry T P E R O J B) TableName g) (ready : IsReady m job_value runs lock table r) where
  -- no more were stopped than were run
  pub counts_stopped : (r' : Runner T P E R O J B (Entry T P E R O J B) TableName g) (b : Bool) → r'.stopped ≡ r.stopped + (if b then 1 else 0) → runs r'.bench ≡ runs r.bench + 1 → r'.stopped ≤ runs r'.bench
  counts_stopped r' true is ran = let few = ready.few_stopped in omega (arith, is, ran, few)
  counts_stopped r' false is ran = let few = ready.few_stopped in omega (arith, is, ran, few)

  -- fewer jobs were run than there is room for, where one is under way
  pub few_runs : (s : Started T P E R O J B) (k : Hands T P E R O J B (Entry T P E R O J B) TableName g) (p : Entry T P E R O J B → Bool) → r.started ≡ Some s → r.hands ≡ Some k
      → own k.pass ≡ filter p (seen k.pass) → runs r.bench < 2 ^ 64 - 1
  few_runs s k p busy has entries =
      let counted = rw (busy, has) at ready.counted in
      let short = rw (busy, has) at ready.short in
      let starts = count_by-le-length (λ e. is_start e.what) (own k.pass) in
      let kept = ap length entries ∙ length-filter p (seen k.pass) in
      let few = count_by-le-length p (seen k.pass) in
      omega (arith, counted, short, starts, kept, few)

  module _ (s : Started T P E R O J B) (k h : Hands T P E R O J B (Entry T P E R O J B) TableName g) (busy : r.started ≡ Some s) (has : r.hands ≡ Some k)
      (closing : (commands : List (Command E)) → IsInOrder m commands r.actor (seen k.pass) (Some (record { slot = s.slot; epoch = s.epoch; value = job_value s.job })) → IsInOrder m commands r.actor (seen h.pass) None)
      (e : Entry T P E R O J B) (no_call : calls_in (e ∷ []) ≡ []) (grew : own h.pass ≡ own k.pass ++ e ∷ []) where
    pub closed_order : IsInOrder m (commands_of r) r.actor (seen h.pass) None
    closed_order = closing (commands_of r) (rw (has, busy) at ready.order)

    -- it has made no call more
    pub same_calls : length (calls_in (own h.pass)) ≡ r.made
    same_calls =
        let calls = ap (λ l. length (calls_in l)) grew ∙ ap length (calls_append (own k.pass) (e ∷ [])) ∙ length-append (calls_in (own k.pass)) (calls_in (e ∷ [])) in
        let still = rw no_call at calls in
        let made = rw has at ready.made in
        omega (arith, still, made)

    pub closed_stays : own h.pass ≡ entries_of r.actor (seen h.pass) → MayGoOn r.actor (seen h.pass)
    closed_stays entries = goes_on m r.actor (commands_of r) r.made (seen h.pass) (own h.pass) closed_order entries same_calls (rw busy at ready.due)

module _ {T P E R O J B : Type 0} {g : Ghosts (Plant T P E R O J B) (Entry T P E R O J B) TableName}
    (m : Meaning P E R O) (job_value : J → O) (runs : B → ℕ) (lock : TurnLock (Plant T P E R O J B) (Entry T P E R O J B) TableName) (table : TableName)
    (r r' : Runner T P E R O J B (Entry T P E R O J B) TableName g) (h : Hands T P E R O J B (Entry T P E R O J B) TableName g)
    (ready : IsReady m job_value runs lock table r)
    (hands : r'.hands ≡ Some h) (actor : r'.actor ≡ r.actor) (commands : r'.commands ≡ r.commands)
    (at : IsOf lock h.pass × (reads_at h.reader ≡ table)) (number_is : number h.pass ≡ number_of r.actor) (joined_is : joined h.pass ≡ []) where
  -- it is in order again, where this holds of what it has made and of its work
  pub ready_again : (started : Option (Started T P E R O J B)) (made : ℕ) → r'.started ≡ started → r'.made ≡ made
      → length (calls_in (own h.pass)) ≡ made → made ≤ length r.commands.items
      → IsInOrder m (commands_of r) r.actor (seen h.pass) (option_map (λ s. record { slot = s.slot; epoch = s.epoch; value = job_value s.job }) started)
      → runs r'.bench + jobs_in started ≡ runs_of (own h.pass)
      → r'.stopped ≤ runs r'.bench
      → IfSome started (λ _. HasNext r.actor made (commands_of r)) → IfSome started (λ _. length (seen h.pass) < 2 ^ 64)
      → IsReady m job_value runs lock table r'
  ready_again started made started_is made_is calls within order counted few_stopped due short = record {
    at = rw hands at;
    number = rw (hands, actor) number_is;
    joined = rw hands joined_is;
    few = rw commands ready.few;
    named = rw commands ready.named;
    plain = rw (actor, commands) ready.plain;
    made = rw (hands, made_is) calls;
    within = rw (made_is, commands) within;
    order = rw (hands, actor, commands, started_is) order;
    counted = rw (hands, started_is) counted;
    few_stopped = few_stopped;
    due = rw (started_is, actor, made_is, commands) due;
    short = rw (hands, started_is) short;
  }

  module _ (sessions : ℕ) (st : Machine P) (free : r.started ≡ None) (bench : r'.bench ≡ r.bench) (stopped : r'.stopped ≡ r.stopped) where
    -- nothing was under way
    idle_runs : runs r.bench ≡ runs_of (own_of r)
    idle_runs = let counted = rw free at ready.counted in omega (arith, counted)

    few_more : r'.stopped ≤ runs r'.bench
    few_more = rw (stopped, bench) ready.few_stopped

    pub look_ready : (looked : Looked T P E R O J B) (result : Step)
        → MatchLooked looked (result ≡ step.Moved) (λ _ _. result ≡ step.Moved) (result ≡ step.Ended) (result ≡ step.Waits) (result ≡ step.NoMemory)
        → MatchLooked looked (r'.made ≡ r.made + 1) (λ _ _. r'.made ≡ r.made) (r'.made ≡ r.made) (r'.made ≡ r.made) (r'.made ≡ r.made)
        → MatchLooked looked (r'.started ≡ r.started) (λ t job. r'.started ≡ Some (record { slot = t.slot; epoch = t.epoch; job = job })) (r'.started ≡ r.started) (r'.started ≡ r.started) (r'.started ≡ r.started)
        → MatchLooked looked (HasCalled r.actor (slice_get (commands_of r) r.made) (own_of r) (own h.pass)) (λ t _. own h.pass ≡ own_of r ++ start_of r.actor t.slot t.epoch ∷ []) (HasEndedIn st r.actor sessions (own_of r) (own h.pass)) (own h.pass ≡ own_of r) (own h.pass ≡ own_of r)
        → MatchLooked looked (length (calls_in (own h.pass)) ≡ r.made + 1) (λ _ _. length (calls_in (own h.pass)) ≡ r.made) (length (calls_in (own h.pass)) ≡ r.made) (length (calls_in (own h.pass)) ≡ r.made) (length (calls_in (own h.pass)) ≡ r.made)
        → MatchLooked looked (r.made < length r.commands.items) (λ _ _. HasNext r.actor r.made (commands_of r)) (Unit {0}) (Unit {0}) (Unit {0})
        → IsInOrder m (commands_of r) r.actor (seen h.pass) (work_in job_value looked)
        → IfBegun looked (λ _ _. length (seen h.pass) < 2 ^ 64)
        → UnlessMemory result (IsReady m job_value runs lock table r')
    look_ready Called result step_is made started grew calls called order short =
        subst (λ s. UnlessMemory s (IsReady m job_value runs lock table r')) (sym step_is)
        (ready_again None (r.made + 1) (started ∙ free) made calls (omega (arith, called)) order
        (let more = called_runs r.actor (slice_get (commands_of r) r.made) (own_of r) (own h.pass) grew in let same = idle_runs in let b = ap runs bench in omega (arith, more, same, b)) few_more tt tt)
    look_ready (Begun t job) result step_is made started grew calls called order short =
        subst (λ s. UnlessMemory s (IsReady m job_value runs lock table r')) (sym step_is)
        (ready_again (Some (record { slot = t.slot; epoch = t.epoch; job = job })) r.made started made calls ready.within order
        (let more = begun_runs r.actor t.slot t.epoch (own_of r) (own h.pass) grew in let same = idle_runs in let b = ap runs bench in omega (arith, more, same, b)) few_more called short)
    look_ready Ended result step_is made started grew calls called order short =
        subst (λ s. UnlessMemory s (IsReady m job_value runs lock table r')) (sym step_is)
        (ready_again None r.made (started ∙ free) made calls ready.within order
        (let more = ended_runs st r.actor sessions (own_of r) (own h.pass) grew in let same = idle_runs in let b = ap runs bench in omega (arith, more, same, b)) few_more tt tt)
    look_ready Waits result step_is made started grew calls called order short =
        subst (λ s. UnlessMemory s (IsReady m job_value runs lock table r')) (sym step_is)
        (ready_again None r.made (started ∙ free) made calls ready.within order
        (let more = ap runs_of grew in let same = idle_runs in let b = ap runs bench in omega (arith, more, same, b)) few_more tt tt)
    look_ready NoMemory result step_is made started grew calls called order short =
        subst (λ s. UnlessMemory s (IsReady m job_value runs lock table r')) (sym step_is) tt

    -- why it waits
    pub look_waits : (looked : Looked T P E R O J B) (result : Step)
        → MatchLooked looked (result ≡ step.Moved) (λ _ _. result ≡ step.Moved) (result ≡ step.Ended) (result ≡ step.Waits) (result ≡ step.NoMemory)
        → MatchLooked looked (HasCalled r.actor (slice_get (commands_of r) r.made) (own_of r) (own h.pass)) (λ t _. own h.pass ≡ own_of r ++ start_of r.actor t.slot t.epoch ∷ []) (HasEndedIn st r.actor sessions (own_of r) (own h.pass)) (own h.pass ≡ own_of r) (own h.pass ≡ own_of r)
        → own_of r ≡ entries_of r.actor (seen_by r)
        → IfWaits looked (RunnerWaits m (replay m (seen h.pass)) r.actor (slice_get (commands_of r) r.made) sessions)
        → MatchStep result (Unit {0}) (HasWaited m sessions r r') (Unit {0}) (Unit {0})
    look_waits Called result step_is grew entries waits = subst (λ s. MatchStep s (Unit {0}) (HasWaited m sessions r r') (Unit {0}) (Unit {0})) (sym step_is) tt
    look_waits (Begun t job) result step_is grew entries waits = subst (λ s. MatchStep s (Unit {0}) (HasWaited m sessions r r') (Unit {0}) (Unit {0})) (sym step_is) tt
    look_waits Ended result step_is grew entries waits = subst (λ s. MatchStep s (Unit {0}) (HasWaited m sessions r r') (Unit {0}) (Unit {0})) (sym step_is) tt
    look_waits Waits result step_is grew entries waits =
        subst (λ s. MatchStep s (Unit {0}) (HasWaited m sessions r r') (Unit {0}) (Unit {0})) (sym step_is) (
          free,
          rw hands grew,
          rw hands
              (subst (λ n. RunnerWaits m (replay m (seen h.pass)) r.actor n sessions) (ap (slice_get (commands_of r)) (sym ready.made ∙ ap (λ l. length (calls_in l)) entries)) waits),
        )
    look_waits NoMemory result step_is grew entries waits = subst (λ s. MatchStep s (Unit {0}) (HasWaited m sessions r r') (Unit {0}) (Unit {0})) (sym step_is) tt

  module _ (s : Started T P E R O J B) (k : Hands T P E R O J B (Entry T P E R O J B) TableName g) (busy : r.started ≡ Some s) (has : r.hands ≡ Some k)
      (closing : (commands : List (Command E)) → IsInOrder m commands r.actor (seen k.pass) (Some (record { slot = s.slot; epoch = s.epoch; value = job_value s.job })) → IsInOrder m commands r.actor (seen h.pass) None)
      (e : Entry T P E R O J B) (no_call : calls_in (e ∷ []) ≡ []) (grew : own h.pass ≡ own k.pass ++ e ∷ []) where
    -- its jobs are as many as its starts
    pub closed_ready : is_start e.what ≡ false → r'.started ≡ None → r'.made ≡ r.made → runs r'.bench ≡ runs r.bench + 1 → r'.stopped ≤ runs r'.bench → IsReady m job_value runs lock table r'
    closed_ready no_start none made_is ran few_stopped =
        let more = ap runs_of grew ∙ runs_more (own k.pass) e in
        let others = rw no_start at more in
        let counted = rw (busy, has) at ready.counted in
        ready_again None r.made none made_is (same_calls m job_value runs lock table r ready s k h busy has closing e no_call grew) ready.within (closed_order m job_value runs lock table r ready s k h busy has closing e no_call grew) (omega (arith, others, counted, ran)) few_stopped tt tt
