-- What a turn leaves of a runner that was in order without work.
use Rattle.std.proofs.Common.{◌≡◌, ℕ, ◌+◌, ◌<◌, ◌≤◌, ◌==◌, ◌-◌, ◌^◌, inl, inr, true, false, List, [], ◌∷◌, ◌++◌, length, map, get_or, refl, ap, sym, subst, ◌∙◌, None, Some, arith, append_assoc}
use Rattle.std.specs.List.{All, filter, slice_get}
use Rattle.std.specs.Option.{option_map}
use Rattle.std.specs.Prelude.{IfSome}
use Rattle.std.proofs.lemmas.Option.{slice_get_within, slice_get_past, slice_get-map, slice_get-get_or, get_or_from_slice_get}
use Rattle.std.proofs.lemmas.List.{length-append}
use Rattle.std.specs.declared.option.Option.{Option}
use mathlib.Core.List.{IsPrefix}
use Rattle.pl_tech.specs.Technology.{Meaning, IsLawful}
use Rattle.pl_ports.specs.declared.gate.Actor.{Actor}
use Rattle.pl_ports.specs.declared.gate.Actor.TheVariants.{Session, Worker}
use Rattle.pl_machine.specs.declared.entry.Command.{Command}
use Rattle.pl_machine.specs.declared.entry.Command.TheVariants.{Edit, Apply, Export, Status, Cancel, After}
use Rattle.pl_machine.specs.declared.entry.Reply.{Reply}
use Rattle.pl_machine.specs.declared.entry.What.{What}
use Rattle.pl_machine.specs.declared.entry.What.TheVariants.{Call}
use Rattle.pl_machine.specs.declared.entry.Entry.{Entry}
use Rattle.pl_machine.specs.Machine.{Machine, MayCall, calls_of, pending_of}
use Rattle.pl_machine.specs.Calls.{NamesSession}
use Rattle.pl_machine.specs.History.{replay, IsLegal}
use Rattle.pl_machine.specs.Startable.{IsLeast}
use Rattle.pl_machine.specs.Tickets.{number_of, start_of}
use Rattle.pl_session.specs.Complete.{is_bye}
use Rattle.pl_order.specs.Order.{Work, IsInOrder, IsExportNext, HasSaidBye, number_in, entries_of, calls_in, next_command, bye_of}
use Rattle.pl_order.proofs.Lists.{split_cases, split_one, no_more}
use Rattle.pl_order.proofs.Own.{entries_append, calls_append, not_own}
use Rattle.pl_order.proofs.Others.{found_keep}
use Rattle.pl_order.proofs.Steps.{start_keeps, call_keeps, bye_keeps, no_bye_before}
use Rattle.pl_order.proofs.Staying.{stays, calls_counted}
use Rattle.pl_runner.specs.Causes.{GrewByCall, LacksResults}

-- an element, where it was read
pub at_index : {A B : Type 0} (f : A → B) (xs : List A) (k : ℕ) (x : A) → x ≡ get_or xs k x → k < length xs → slice_get (map f xs) k ≡ Some (f x)
at_index f xs k x is within = slice_get-map f xs k ∙ ap (option_map f) (slice_get-get_or xs k x within ∙ ap Some (sym is))

pub if_some : {A : Type 0} (o : Option A) (x : A) (F : A → Type 0) → o ≡ Some x → F x → IfSome o F
if_some o x F is holds = subst (λ p. IfSome p F) (sym is) holds

-- only an export lacks results
export_lacks : {P E R O : Type 0} (m : Meaning P E R O) (st : Machine P) (command : Command E) → LacksResults m st command → command ≡ Export
export_lacks m st (Edit e) lacks = absurd lacks.1
export_lacks m st Apply lacks = absurd lacks.1
export_lacks m st Export lacks = refl
export_lacks m st Status lacks = absurd lacks.1
export_lacks m st Cancel lacks = absurd lacks.1
export_lacks m st (After s n) lacks = absurd lacks.1

module _ {T P E R O J B : Type 0} where
  -- a session's call
  abbrev pub call_by : ℕ → Command E → Reply T P E R O J B → Entry T P E R O J B
  call_by session command reply = record { actor = Session session; what = Call command reply }

  -- the entries of a pass's number
  abbrev made : ℕ → List (Entry T P E R O J B) → List (Entry T P E R O J B)
  made n log = filter (λ e. number_in e == n) log

  -- a call is one call more, and a start none
  pub calls_called : (session : ℕ) (command : Command E) (reply : Reply T P E R O J B) (own own' : List (Entry T P E R O J B)) (k : ℕ) → length (calls_in own) ≡ k → own' ≡ own ++ call_by session command reply ∷ []
      → length (calls_in own') ≡ k + 1
  calls_called session command reply own own' k made is =
      let more = ap (λ l. length (calls_in l)) is ∙ ap length (calls_append own (call_by session command reply ∷ [])) ∙ length-append (calls_in own) (command ∷ []) in
      omega (arith, more, made)

  pub calls_begun : (actor : Actor) (slot epoch : ℕ) (own own' : List (Entry T P E R O J B)) (k : ℕ) → length (calls_in own) ≡ k → own' ≡ own ++ start_of actor slot epoch ∷ [] → length (calls_in own') ≡ k
  calls_begun actor slot epoch own own' k made is =
      let more = ap (λ l. length (calls_in l)) is ∙ ap length (calls_append own (start_of actor slot epoch ∷ [])) ∙ length-append (calls_in own) [] in
      omega (arith, more, made)

  -- what a pass of the actor knows, and the journal that its turn finds
  pub record Finds (actor : Actor) (seen own log : List (Entry T P E R O J B)) : Type 0 where
    pub before : entries_of actor seen ≡ own
    pub now : entries_of actor log ≡ own
    pub prefix : IsPrefix seen log

  pub finds : (actor : Actor) (seen own log taken : List (Entry T P E R O J B)) (n : ℕ) → n ≡ number_of actor → own ≡ made n seen → log ≡ taken → IsPrefix seen taken → own ≡ made n taken
      → Finds actor seen own log
  finds actor seen own log taken n number before same prefix now = record {
    before = ap (λ k. made k seen) (sym number) ∙ sym before;
    now = ap (λ k. made k log) (sym number) ∙ ap (made n) same ∙ sym now;
    prefix = subst (IsPrefix seen) (sym same) prefix;
  }

  module _ (actor : Actor) {seen own log : List (Entry T P E R O J B)} (found : Finds actor seen own log) where
    pub same : entries_of actor log ≡ entries_of actor seen
    same = found.now ∙ sym found.before

    -- the journal with one entry more has what was seen as a beginning
    pub seen_grown : (e : Entry T P E R O J B) (log' seen' : List (Entry T P E R O J B)) → log' ≡ log ++ e ∷ [] → seen' ≡ log' → IsPrefix seen seen'
    seen_grown e log' seen' grown is =
        (found.prefix.0 ++ e ∷ [], sym (append_assoc seen found.prefix.0 (e ∷ [])) ∙ ap (λ l. l ++ e ∷ []) found.prefix.1 ∙ sym (is ∙ grown))

    -- what came meanwhile has no entry of the actor
    pub none_of_it : entries_of actor found.prefix.0 ≡ []
    none_of_it = no_more (entries_of actor seen) (entries_of actor found.prefix.0) (sym (entries_append actor seen found.prefix.0) ∙ ap (entries_of actor) found.prefix.1 ∙ same)

  -- who has not said bye still has not, where others went on
  no_bye_on : (i : ℕ) {seen own log : List (Entry T P E R O J B)} → Finds (Session i) seen own log → (HasSaidBye (Session i) seen → ⊥)
      → (before after : List (Entry T P E R O J B)) → log ≡ before ++ bye_of (Session i) ∷ after → ⊥
  no_bye_on i {seen} {own} {log} found none before after is = elim (split_cases seen found.prefix.0 before (bye_of (Session i)) after (found.prefix.1 ∙ is)) [
    | inl first ↦ none (before, first.0, first.1)
    | inr second ↦ not_own (Session i) second.0 (bye_of (Session i)) after (ap (entries_of (Session i)) (sym second.2) ∙ none_of_it (Session i) found) refl
  ]

  module _ (m : Meaning P E R O) where
    -- the state of the journal is that of what was seen, where nothing was made
    pub replayed : (st : Machine P) (log log' seen' : List (Entry T P E R O J B)) → st ≡ replay m log → log' ≡ log → seen' ≡ log' → st ≡ replay m seen'
    replayed st log log' seen' at same is = at ∙ ap (replay m) (sym (is ∙ same))

    module _ (commands : List (Command E)) where
      next_on : (actor : Actor) {seen own log : List (Entry T P E R O J B)} → Finds actor seen own log → next_command commands actor log ≡ next_command commands actor seen
      next_on actor found = ap (λ l. slice_get commands (length (calls_in l))) (same actor found)

      -- the next command is the one of the number of the calls that were made
      pub next_of : (actor : Actor) {seen own log : List (Entry T P E R O J B)} (k : ℕ) → Finds actor seen own log → length (calls_in own) ≡ k → next_command commands actor seen ≡ slice_get commands k
      next_of actor k found made = ap (slice_get commands) (ap (λ l. length (calls_in l)) found.before ∙ made)

      pub next_is : (actor : Actor) {seen own log : List (Entry T P E R O J B)} (k : ℕ) (command : Command E) → Finds actor seen own log → length (calls_in own) ≡ k → slice_get commands k ≡ Some command
          → next_command commands actor seen ≡ Some command
      next_is actor k command found made at = next_of actor k found made ∙ at

      pub none_next : (actor : Actor) {seen own log : List (Entry T P E R O J B)} → Finds actor seen own log → length (calls_in own) ≡ length commands → next_command commands actor seen ≡ None
      none_next actor found made = next_of actor (length commands) found made ∙ slice_get_past commands (length commands) (omega arith)

      export_on : (actor : Actor) {seen own log : List (Entry T P E R O J B)} → Finds actor seen own log → IsExportNext commands actor seen → IsExportNext commands actor log
      export_on (Session i) found next = next_on (Session i) found ∙ next
      export_on (Worker k) found next = tt

      -- the runner is in order in the journal that its turn finds
      pub in_order : (actor : Actor) {seen own log : List (Entry T P E R O J B)} (work : Option (Work O)) → Finds actor seen own log → IsInOrder m commands actor seen work → IsLegal m log
          → IsInOrder m commands actor log work
      in_order actor {seen} {own} {log} work found order legal = found_keep m commands actor seen log work order found.prefix (same actor found) legal

      -- a turn without an entry
      pub idle : (actor : Actor) {seen own log : List (Entry T P E R O J B)} (log' seen' : List (Entry T P E R O J B)) → Finds actor seen own log → IsInOrder m commands actor seen None → IsLegal m log
          → log' ≡ log → seen' ≡ log' → IsInOrder m commands actor seen' None
      idle actor log' seen' found order legal same is =
          subst (λ h. IsInOrder m commands actor h None) (sym (is ∙ same)) (in_order actor None found order legal)

      pub free : (actor : Actor) {seen own log : List (Entry T P E R O J B)} (st : Machine P) → Finds actor seen own log → IsInOrder m commands actor seen None → IsLegal m log → st ≡ replay m log
          → pending_of st actor ≡ None
      free actor st found order legal at = ap (λ s. pending_of s actor) at ∙ (in_order actor None found order legal).work_is

      -- a turn that starts a slot
      pub begun : (actor : Actor) {seen own log : List (Entry T P E R O J B)} (log' seen' : List (Entry T P E R O J B)) (st : Machine P) (slot epoch : ℕ) (value : O) → Finds actor seen own log → IsInOrder m commands actor seen None
          → IsExportNext commands actor seen → IsLegal m log → st ≡ replay m log → IsLeast m st slot → value ≡ m.value st.applied slot → IsLegal m log'
          → log' ≡ log ++ start_of actor slot epoch ∷ [] → seen' ≡ log' → IsInOrder m commands actor seen' (Some (record { slot = slot; epoch = epoch; value = value }))
      begun actor {seen} {own} {log} log' seen' st slot epoch value found order next legal at least is legal' grown seen_is =
          subst (λ h. IsInOrder m commands actor h (Some (record { slot = slot; epoch = epoch; value = value }))) (sym (seen_is ∙ grown))
          (start_keeps m commands actor log None slot epoch value (in_order actor None found order legal)
          (subst (λ s. IsLeast m s slot) at least) (export_on actor found next) (subst (IsLegal m) grown legal') (is ∙ ap (λ s. m.value s.applied slot) at))

      -- the session may call its next command in the journal that its turn finds
      pub may_ask : (i : ℕ) {seen own log : List (Entry T P E R O J B)} (st : Machine P) (command : Command E) → Finds (Session i) seen own log → IsInOrder m commands (Session i) seen None
          → next_command commands (Session i) seen ≡ Some command → IsLegal m log → st ≡ replay m log → MayCall st i
      may_ask i {seen} {own} {log} st command found order next legal at =
          let here = in_order (Session i) None found order legal in
          subst (λ s. MayCall s i) (sym at) (record {
            from_1 = order.actor_is.0;
            to_16 = order.actor_is.1;
            stays = stays m log i order.actor_is.0 legal (no_bye_before m commands (Session i) log None command here (next_on (Session i) found ∙ next));
            free = here.work_is;
          })

      -- and has made few enough calls
      pub few_calls : (i : ℕ) {seen own log : List (Entry T P E R O J B)} (st : Machine P) (command : Command E) → Finds (Session i) seen own log → IsInOrder m commands (Session i) seen None
          → next_command commands (Session i) seen ≡ Some command → length commands ≤ 2 ^ 32 - 1 → IsLegal m log → st ≡ replay m log → calls_of st i < 2 ^ 32 - 1
      few_calls i {seen} {own} {log} st command found order next few legal at =
          let counted = ap (λ s. calls_of s i) at ∙ calls_counted m log i order.actor_is.0 order.actor_is.1 legal in
          let within = slice_get_within commands (length (calls_in (entries_of (Session i) log))) command (next_on (Session i) found ∙ next) in
          omega (arith, counted, within, few)

      -- who has a command to call has not said bye in the journal that its turn finds
      no_bye_here : (i : ℕ) {seen own log : List (Entry T P E R O J B)} (command : Command E) → Finds (Session i) seen own log → IsInOrder m commands (Session i) seen None
          → next_command commands (Session i) seen ≡ Some command → IsLegal m log → (before after : List (Entry T P E R O J B)) → log ≡ before ++ bye_of (Session i) ∷ after → ⊥
      no_bye_here i {seen} {own} {log} command found order next legal = no_bye_before m commands (Session i) log None command (in_order (Session i) None found order legal) (next_on (Session i) found ∙ next)

      -- nor after its turn
      pub stays_idle : (i : ℕ) {seen own log : List (Entry T P E R O J B)} (log' seen' : List (Entry T P E R O J B)) (command : Command E) → Finds (Session i) seen own log → IsInOrder m commands (Session i) seen None
          → next_command commands (Session i) seen ≡ Some command → IsLegal m log → log' ≡ log → seen' ≡ log' → HasSaidBye (Session i) seen' → ⊥
      stays_idle i log' seen' command found order next legal same is said = no_bye_here i command found order next legal said.0 said.1 (sym (is ∙ same) ∙ said.2)

      pub stays_grown : (i : ℕ) {seen own log : List (Entry T P E R O J B)} (log' seen' : List (Entry T P E R O J B)) (command : Command E) (w : What T P E R O J B) → Finds (Session i) seen own log → IsInOrder m commands (Session i) seen None
          → next_command commands (Session i) seen ≡ Some command → IsLegal m log → is_bye w ≡ false → log' ≡ log ++ record { actor = Session i; what = w } ∷ [] → seen' ≡ log' → HasSaidBye (Session i) seen' → ⊥
      stays_grown i {seen} {own} {log} log' seen' command w found order next legal other grown is said =
          elim (split_cases log (record { actor = Session i; what = w } ∷ []) said.0 (bye_of (Session i)) said.1 (sym (is ∙ grown) ∙ said.2)) [
            | inl first ↦ no_bye_here i command found order next legal said.0 first.0 first.1
            | inr second ↦
                let one = split_one (record { actor = Session i; what = w }) second.0 (bye_of (Session i)) said.1 second.2 in
                let f : false ≡ true = sym other ∙ ap (λ x. is_bye x.what) one.1 in cc
          ]

      -- a session that has not said bye may, in the journal that its turn finds
      pub may_leave : (i : ℕ) {seen own log : List (Entry T P E R O J B)} (st : Machine P) → Finds (Session i) seen own log → IsInOrder m commands (Session i) seen None
          → (HasSaidBye (Session i) seen → ⊥) → IsLegal m log → st ≡ replay m log → MayCall st i
      may_leave i {seen} {own} {log} st found order none legal at =
          subst (λ s. MayCall s i) (sym at) (record {
            from_1 = order.actor_is.0;
            to_16 = order.actor_is.1;
            stays = stays m log i order.actor_is.0 legal (no_bye_on i found none);
            free = (in_order (Session i) None found order legal).work_is;
          })

      -- a turn that calls
      pub called : (i : ℕ) {seen own log : List (Entry T P E R O J B)} (log' seen' : List (Entry T P E R O J B)) (command : Command E) → Finds (Session i) seen own log → IsInOrder m commands (Session i) seen None
          → next_command commands (Session i) seen ≡ Some command → IsLegal m log → IsLegal m log' → GrewByCall i command log log' → seen' ≡ log' → IsInOrder m commands (Session i) seen' None
      called i {seen} {own} {log} log' seen' command found order next legal legal' grown is =
          subst (λ h. IsInOrder m commands (Session i) h None) (sym (is ∙ grown.1))
          (call_keeps m commands i log None command grown.0 (in_order (Session i) None found order legal) (next_on (Session i) found ∙ next) (subst (IsLegal m) grown.1 legal'))

      -- a turn that says bye
      pub left : IsLawful m → (i : ℕ) {seen own log : List (Entry T P E R O J B)} (log' seen' : List (Entry T P E R O J B)) → Finds (Session i) seen own log → IsInOrder m commands (Session i) seen None
          → next_command commands (Session i) seen ≡ None → IsLegal m log → IsLegal m log' → log' ≡ log ++ bye_of (Session i) ∷ [] → seen' ≡ log' → IsInOrder m commands (Session i) seen' None
      left laws i {seen} {own} {log} log' seen' found order last legal legal' grown is =
          subst (λ h. IsInOrder m commands (Session i) h None) (sym (is ∙ grown))
          (bye_keeps m commands laws i log None (in_order (Session i) None found order legal) (next_on (Session i) found ∙ last) (subst (IsLegal m) grown legal'))

    pub export_next : (commands : List (Command E)) (i : ℕ) (seen : List (Entry T P E R O J B)) (st : Machine P) (command : Command E) → next_command commands (Session i) seen ≡ Some command
        → LacksResults m st command → IsExportNext commands (Session i) seen
    export_next commands i seen st command next lacks = next ∙ ap Some (export_lacks m st command lacks)

-- a command of a list that names sessions names one
pub named : {E : Type 0} (commands : List (Command E)) (k : ℕ) (command : Command E) → All NamesSession commands → slice_get commands k ≡ Some command → NamesSession command
named commands k command all next =
    subst NamesSession (get_or_from_slice_get commands k command command next) (all k command (slice_get_within commands k command next))
