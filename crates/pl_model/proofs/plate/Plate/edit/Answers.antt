use Rattle.std.proofs.Common.{subst}
use Rattle.pl_model.specs.Contents.{Contents}
use Rattle.pl_model.specs.Places.{ArePlaces}
use Rattle.pl_model.proofs.Edits.{told_result}
use Rattle.pl_model.proofs.plate.Plate.edit.Goals as goal

pub returns-clause-told : goal.returns-clause-told
returns-clause-told c =
    let places : ArePlaces c.args.self.now.places = subst (λ (plate : Contents). ArePlaces plate.places) c.self.view_is c.self.invariant in
    told_result c.args.self.now c.answer.new.self c.args.edit.now c.answer.result places c.answer.ensures.reply c.answer.ensures.plate
