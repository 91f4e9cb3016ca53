-- The heights at which layers are sampled, as natural numbers.
use Rattle.std.specs.Prelude.{ℕ, zero, suc, ◌+◌, ◌*◌, ◌/◌}

-- the middle of layer k, rounded down, where the first layer is `first` high and each other `height`
abbrev pub sample_of : ℕ → ℕ → ℕ → ℕ
sample_of first height zero = first / 2
sample_of first height (suc k) = first + k * height + height / 2
