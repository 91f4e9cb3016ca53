-- The numbers of a demo: n from 0 to 999 says which demo, i from 1 on which of its sessions.
use Rattle.std.specs.Prelude.{ℕ, zero, suc, ◌+◌, ◌*◌, ◌%◌, ◌==◌, if◌then◌else◌, List, [], ◌++◌}

abbrev pub sessions_of : ℕ → ℕ
sessions_of n = 2 + n % 3

-- how many commands a session has: one more than the first where it waits for another
abbrev pub calls_of : ℕ → ℕ
calls_of i = if i == 1 then 5 else 6

-- the lengths of a box, in millimetres
abbrev pub width_of : ℕ → ℕ → ℕ
width_of n i = 4 + (n + 3 * i) % 9

abbrev pub depth_of : ℕ → ℕ → ℕ
depth_of n i = 4 + (n + 5 * i) % 7

abbrev pub height_of : ℕ → ℕ → ℕ
height_of n i = 2 + (n + i) % 4

-- where an object is moved to, in millimetres
abbrev pub right_of : ℕ → ℕ
right_of i = 30 * i

abbrev pub back_of : ℕ → ℕ → ℕ
back_of n i = 20 + 10 * ((n + i) % 5)

-- how dense its inside is, in percent
abbrev pub density_of : ℕ → ℕ → ℕ
density_of n i = 10 + 10 * ((n + i) % 4)

-- what f gives for 1, then for 2, and so on up to the last of this many
abbrev pub each_of : {A : Type 0} → (ℕ → List A) → ℕ → List A
each_of f zero = []
each_of f (suc k) = each_of f k ++ f (suc k)
