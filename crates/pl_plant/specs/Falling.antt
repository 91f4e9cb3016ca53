-- Which slots fall in a call.
use Rattle.std.specs.Prelude.{◌≡◌, ℕ, false}
use Rattle.pl_tech.specs.Slots.{has}
use Rattle.pl_machine.specs.declared.entry.Reply.{Reply}
use Rattle.pl_machine.specs.declared.entry.Reply.TheVariants.{Invalidated, Cancelled}

-- the slots that fell by a call that had this reply: those that an apply names, or all that were started before a cancel
abbrev pub HasFallen : {T P E R O J B : Type 0} → Reply T P E R O J B → ℕ → ℕ → Type 0
HasFallen (Invalidated set) stopped fallen = fallen ≡ set
HasFallen (Cancelled n) stopped fallen = fallen ≡ stopped
HasFallen reply stopped fallen = (k : ℕ) → has fallen k ≡ false
