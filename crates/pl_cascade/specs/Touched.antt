-- What an apply touches.
use Rattle.std.specs.Prelude.{ℕ, nat_lt, Bool, ◌&&◌}
use Rattle.pl_model.specs.Contents.{Contents}
use Rattle.pl_cascade.specs.Cascade.{closure_of}
use Rattle.pl_cascade.specs.Direct.{is_direct}

-- the slots below 100 that are in the closure of those that are directly touched
abbrev pub is_touched : Contents → Contents → ℕ → Bool
is_touched old new slot = nat_lt slot 100 && closure_of (is_direct old new) slot
