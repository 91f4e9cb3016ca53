-- What calls answer, unless memory runs out.
use Rattle.std.specs.Prelude.{◌≡◌, Result, Ok, Err}
use Rattle.pl_edit.specs.declared.reply.EditReply.{EditReply}
use Rattle.pl_edit.specs.declared.reply.EditRefusal.{EditRefusal}
use Rattle.pl_model.specs.declared.stop.Stop.{Stop}
use Rattle.pl_model.specs.declared.stop.Stop.TheVariants.{Refused, NoMemory}
use Rattle.pl_model.specs.Contents.{Contents}
use Rattle.pl_model.specs.declared.object.Object.{Object}
use Rattle.pl_model.specs.Outcomes.{Outcome, Changed}

-- a call answers what is found, or why it is refused
abbrev pub Finds : {X : Type 0} → Result X EditRefusal → Result X Stop → Type 0
Finds said (Ok x) = said ≡ Ok x
Finds said (Err (Refused refusal)) = said ≡ Err refusal
Finds said (Err NoMemory) = Unit {0}

-- a call makes an edit's outcome of a plate, or leaves the plate and answers why
abbrev pub Makes : Result Outcome EditRefusal → Contents → Contents → Result EditReply Stop → Type 0
Makes said old new (Ok reply) = said ≡ Ok (record { plate = new; reply = reply })
Makes said old new (Err (Refused refusal)) = (said ≡ Err refusal) × (new ≡ old)
Makes said old new (Err NoMemory) = new ≡ old

-- the same of an object
abbrev pub Changes : Result Changed EditRefusal → Object → Object → Result EditReply Stop → Type 0
Changes said old new (Ok reply) = said ≡ Ok (record { object = new; reply = reply })
Changes said old new (Err (Refused refusal)) = (said ≡ Err refusal) × (new ≡ old)
Changes said old new (Err NoMemory) = new ≡ old
