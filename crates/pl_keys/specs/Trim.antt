-- White space at the ends of a text.
use Rattle.std.specs.Prelude.{ℕ, ◌==◌, ◌||◌, ◌&&◌, ◌-◌, nat_le, Bool, List, length, take, drop}
use Rattle.std.specs.List.{prefix_len, suffix_len}

-- the bytes 9 to 13 and 32
abbrev pub is_white : ℕ → Bool
is_white b = b == 32 || (nat_le 9 b && nat_le b 13)

abbrev pub without_white_before : List ℕ → List ℕ
without_white_before text = drop (prefix_len is_white text) text

abbrev pub without_white_after : List ℕ → List ℕ
without_white_after text = take (length text - suffix_len is_white text) text

abbrev pub trimmed : List ℕ → List ℕ
trimmed text = without_white_after (without_white_before text)
