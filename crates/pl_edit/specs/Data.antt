-- Bytes under a name.
use Rattle.std.specs.Prelude.{ℕ, List}

pub record Data : Type 0 where
  pub name : List ℕ
  pub bytes : List ℕ
