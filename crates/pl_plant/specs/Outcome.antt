-- What a start answers.
use Rattle.pl_plant.specs.declared.ticket.Ticket.{Ticket}
use Rattle.pl_plant.specs.declared.ticket.Begun.{Begun}
use Rattle.pl_plant.specs.declared.ticket.Begun.TheVariants.{Go, NotReady}

abbrev pub MatchBegun : {T P E R O J B : Type 0} → Begun T P E R O J B → (Ticket T P E R O J B → J → Type 0) → Type 0 → Type 0
MatchBegun (Go ticket job) F Q = F ticket job
MatchBegun NotReady F Q = Q
