-- When a ticket stands in a journal.
use Rattle.std.specs.Prelude.{List}
use Rattle.pl_tech.specs.Technology.{Meaning}
use Rattle.pl_machine.specs.declared.entry.Entry.{Entry}
use Rattle.pl_machine.specs.Tickets.{StandsIn}
use Rattle.pl_plant.specs.declared.ticket.Ticket.{Ticket}

-- its start is in the journal and was not closed since, and its job makes the slot's value for the plate applied there;
-- job_value says what a job makes
abbrev pub TicketStands : {T P E R O J B : Type 0} → Meaning P E R O → (J → O) → List (Entry T P E R O J B) → Ticket T P E R O J B → Type 0
TicketStands m job_value journal t = StandsIn m journal t.actor t.slot t.epoch (job_value t.job.value)
