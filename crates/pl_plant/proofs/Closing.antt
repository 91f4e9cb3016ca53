-- What a ticket that stands in the journal says of the plant, and that a call leaves it standing.
use Rattle.std.proofs.Common.{◌≡◌, ℕ, false, List, [], ◌∷◌, ◌++◌, append_assoc, refl, ap, sym, subst, ◌∙◌}
use Rattle.pl_tech.specs.Technology.{Meaning, IsLawful}
use Rattle.pl_ports.specs.declared.gate.Actor.{Actor}
use Rattle.pl_ports.specs.declared.gate.Actor.TheVariants.{Session}
use Rattle.pl_machine.specs.declared.entry.Command.{Command}
use Rattle.pl_machine.specs.declared.entry.Answer.{Answer}
use Rattle.pl_machine.specs.declared.entry.Answer.TheVariants.{Now, NotYet, Behind}
use Rattle.pl_machine.specs.declared.entry.What.TheVariants.{Call}
use Rattle.pl_machine.specs.declared.entry.Entry.{Entry}
use Rattle.pl_machine.specs.Calls.{MatchAnswer}
use Rattle.pl_machine.specs.Tickets.{closes, HasNotClosed, start_of, StandsIn}
use Rattle.pl_machine.proofs.Standing.{TicketTells, ticket_tells}
use Rattle.pl_plant.specs.declared.ticket.Ticket.{Ticket}
use Rattle.pl_plant.specs.Planted.{Planted, StandsFor}
use Rattle.pl_plant.specs.Tickets.{TicketStands}

module _ {T P E R O J B : Type 0} (m : Meaning P E R O) (laws : IsLawful m) (job_value : J → O) where
  pub tells : {seen now : Planted T P E R O J B} → seen ≡ now → (counts : List ℕ) (t : Ticket T P E R O J B) → StandsFor m seen.state seen.journal seen.kept counts → TicketStands m job_value now.journal t
      → TicketTells m seen.state t.actor t.slot t.epoch (job_value t.job.value)
  tells {seen} same counts t stands ticket =
      let here : TicketStands m job_value seen.journal t = subst (λ p. TicketStands m job_value p.journal t) (sym same) ticket in
      subst (λ s. TicketTells m s t.actor t.slot t.epoch (job_value t.job.value)) (sym stands.replayed)
      (ticket_tells m laws seen.journal t.actor t.slot t.epoch (job_value t.job.value) stands.legal here)

module _ {T P E R O J B : Type 0} where
  not_closed_on : (actor : Actor) (es : List (Entry T P E R O J B)) (e : Entry T P E R O J B) → (e.actor ≡ actor → closes e.what ≡ false) → HasNotClosed actor es → HasNotClosed actor (es ++ e ∷ [])
  not_closed_on actor [] e last before = (last, tt)
  not_closed_on actor (x ∷ es) e last before = (before.0, not_closed_on actor es e last before.1)

  -- a start stands on after an entry that does not close it
  pub stands_on : (m : Meaning P E R O) (js : List (Entry T P E R O J B)) (e : Entry T P E R O J B) (actor : Actor) (slot epoch : ℕ) (value : O)
      → (e.actor ≡ actor → closes e.what ≡ false) → StandsIn m js actor slot epoch value → StandsIn m (js ++ e ∷ []) actor slot epoch value
  stands_on m js e actor slot epoch value last stands = record {
    before = stands.before;
    rest = stands.rest ++ e ∷ [];
    split = ap (λ l. l ++ e ∷ []) stands.split ∙ append_assoc (stands.before ++ start_of actor slot epoch ∷ []) stands.rest (e ∷ []);
    unclosed = not_closed_on actor stands.rest e last stands.unclosed;
    value_is = stands.value_is;
  }

  -- a session's call closes no start
  pub stands_after_call : (m : Meaning P E R O) (a : Answer T P E R O J B) (c : Command E) (i : ℕ) (old new : List (Entry T P E R O J B)) (actor : Actor) (slot epoch : ℕ) (value : O)
      → MatchAnswer a (λ r. new ≡ old ++ record { actor = Session i; what = Call c r } ∷ []) (λ _. new ≡ old) (λ _. new ≡ old)
      → StandsIn m old actor slot epoch value → StandsIn m new actor slot epoch value
  stands_after_call m (Now r) c i old new actor slot epoch value more stands =
      subst (λ js. StandsIn m js actor slot epoch value) (sym more) (stands_on m old (record { actor = Session i; what = Call c r }) actor slot epoch value (λ _. refl) stands)
  stands_after_call m (NotYet s) c i old new actor slot epoch value same stands = subst (λ js. StandsIn m js actor slot epoch value) (sym same) stands
  stands_after_call m (Behind n) c i old new actor slot epoch value same stands = subst (λ js. StandsIn m js actor slot epoch value) (sym same) stands
