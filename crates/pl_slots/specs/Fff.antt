-- What plates, edits and slots mean where layers of molten filament are printed.
use Rattle.pl_tech.specs.Technology.{Meaning}
use Rattle.pl_edit.specs.declared.edit.Edit.{Edit}
use Rattle.pl_edit.specs.declared.reply.EditReply.{EditReply}
use Rattle.pl_model.specs.Contents.{Contents, blank}
use Rattle.pl_model.specs.Outcomes.{edited, edit_reply}
use Rattle.pl_model.specs.Problem.{problem_of}
use Rattle.pl_model.specs.Same.{same_plates}
use Rattle.pl_cascade.specs.Slots.{is_present, needs_slot}
use Rattle.pl_cascade.specs.Touched.{is_touched}
use Rattle.pl_slots.specs.declared.output.FffOutput.{FffOutput}
use Rattle.pl_slots.specs.Outputs.{output_bytes}
use Rattle.pl_slots.specs.Values.{slot_value}
use Rattle.pl_slots.specs.Batches.{batches}
use Rattle.pl_slots.specs.Names.{slot_name}

abbrev pub fff_meaning : Meaning Contents Edit EditReply FffOutput
fff_meaning = record {
  blank = blank;
  same = same_plates;
  edited = edited;
  reply = edit_reply;
  problem = problem_of;
  present = is_present;
  needs = needs_slot;
  touched = is_touched;
  value = slot_value;
  batches = batches;
  bytes = output_bytes;
  name = slot_name;
}
