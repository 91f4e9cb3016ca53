-- The tools of the heights of a print, one after the other.
use Rattle.std.specs.Prelude.{ℕ, ◌==◌, List, [], ◌∷◌, ◌++◌, take, if◌then◌else◌}
use Rattle.std.specs.List.{flat_map}
use Rattle.pl_tower.specs.Tools.{order_of}

-- the current tool after these tools: the last of them, and still the one before where there are none
abbrev pub last_tool : ℕ → List ℕ → ℕ
last_tool current [] = current
last_tool current (tool ∷ tools) = last_tool tool tools

-- the current tool before height i: the last one of all heights below, and tool 0 before the first
abbrev pub tool_before : List (List ℕ) → ℕ → ℕ
tool_before heights i = last_tool 0 (flat_map (λ tools. tools) (take i heights))

-- the tools of heights that use these sets, on from the current tool
abbrev pub tools_along : ℕ → List ℕ → List (List ℕ)
tools_along current [] = []
tools_along current (used ∷ above) = order_of current used ∷ tools_along (last_tool current (order_of current used)) above

-- the changes of a height, on from the current tool: each of its tools that differs from the one before it. The
-- change of number b is the one at b, counted from 0
abbrev pub changes : ℕ → List ℕ → List ℕ
changes current [] = []
changes current (tool ∷ tools) = (if tool == current then [] else tool ∷ []) ++ changes tool tools
