-- What the technology of this crate's tests means: the toy, which no edit of a plate changes.
use Rattle.pl_edit.specs.declared.edit.Edit.{Edit}
use Rattle.pl_edit.specs.declared.reply.EditReply.{EditReply}
use Rattle.pl_edit.specs.declared.reply.EditReply.TheVariants.{Done}
use Rattle.pl_tech.specs.Technology.{Meaning, IsLawful}
use Rattle.pl_tech.specs.Toy.{toy_meaning}
use Rattle.pl_tech.specs.ToyLaws.{toy_laws}
use Rattle.pl_tech.specs.declared.toy.ToyPlate.{ToyPlate}
use Rattle.pl_tech.specs.declared.toy.ToyOutput.{ToyOutput}

abbrev pub plain_meaning : Meaning ToyPlate Edit EditReply ToyOutput
plain_meaning = record {
  blank = toy_meaning.blank;
  same = toy_meaning.same;
  edited = λ plate _. plate;
  reply = λ _ _. Done;
  problem = toy_meaning.problem;
  present = toy_meaning.present;
  needs = toy_meaning.needs;
  touched = toy_meaning.touched;
  value = toy_meaning.value;
  batches = toy_meaning.batches;
  bytes = toy_meaning.bytes;
  name = toy_meaning.name;
}

pub plain_laws : IsLawful plain_meaning
plain_laws = record {
  same_itself = toy_laws.same_itself;
  same_sym = toy_laws.same_sym;
  same_trans = toy_laws.same_trans;
  same_present = toy_laws.same_present;
  same_problem = toy_laws.same_problem;
  same_untouched = toy_laws.same_untouched;
  present_below = toy_laws.present_below;
  kept_value = toy_laws.kept_value;
  kept_needs = toy_laws.kept_needs;
  touched_up = toy_laws.touched_up;
  changed_touched = toy_laws.changed_touched;
  needs_present = toy_laws.needs_present;
  needs_below = toy_laws.needs_below;
  last_present = toy_laws.last_present;
  last_needs = toy_laws.last_needs;
  last_bytes = toy_laws.last_bytes;
  name_short = toy_laws.name_short;
  name_solid = toy_laws.name_solid;
  name_present = toy_laws.name_present;
  name_apart = toy_laws.name_apart;
}
