-- What an edit changes of an object.
use Rattle.std.specs.Prelude.{Result}
use Rattle.pl_model.specs.declared.object.Object.{Object}
use Rattle.pl_edit.specs.declared.reply.EditRefusal.{EditRefusal}
use Rattle.pl_edit.specs.declared.edit.Edit.{Edit}
use Rattle.pl_edit.specs.declared.edit.Edit.TheVariants.{Reload, Copy, Move, Drop, Turn, Override, Unset}
use Rattle.pl_model.specs.Shifts.{shift_of}
use Rattle.pl_model.specs.Outcomes.{Changed, as_done, reloaded, copied, moved, dropped, turned, overridden, unset}

-- what an edit makes of the object that it names; an edit that names none leaves it
abbrev pub change_by : Edit → Object → Result Changed EditRefusal
change_by (Reload place block) = reloaded block
change_by (Copy place x y) = copied (shift_of x y)
change_by (Move place instance x y) = moved instance (shift_of x y)
change_by (Drop place instance) = dropped instance
change_by (Turn place quarter) = turned quarter
change_by (Override place key text) = overridden key text
change_by (Unset place key) = unset key
change_by _ = as_done
