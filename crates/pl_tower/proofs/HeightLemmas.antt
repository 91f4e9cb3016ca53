-- The tools of heights.
use Rattle.std.proofs.Common.{◌≡◌, ℕ, zero, suc, ◌+◌, ◌-◌, ◌<◌, ◌≤◌, List, [], ◌∷◌, ◌++◌, length, get_or, take, drop, drop-cons, add-one, append-nil, append_assoc, slice_get, unwrap_or, refl, sym, ap, ◌∙◌, arith}
use Rattle.std.specs.List.{All, flat_map}
use Rattle.std.proofs.Math.Seq.{take-suc}
use Rattle.std.proofs.lemmas.Grind.{flat_map-append}
use Rattle.std.proofs.lemmas.List.{drop_all}
use Rattle.std.proofs.lemmas.List.Elements.{All-cons, All-nil}
use Rattle.pl_tower.specs.Tools.{order_of}
use Rattle.pl_tower.specs.Heights.{last_tool, tool_before, tools_along}
use Rattle.pl_tower.proofs.OrderLemmas.{order_below}

-- ---- the last tool

end_of : (tool : ℕ) (tools : List ℕ) (d : ℕ) → unwrap_or (slice_get (tool ∷ tools) (length tools)) d ≡ last_tool tool tools
end_of tool [] d = refl
end_of tool (next ∷ tools) d = end_of next tools d

less_one : (n : ℕ) → suc n - 1 ≡ n
less_one n = omega arith

-- the last tool stands at the end of the list
pub last_tool_is : (current : ℕ) (tools : List ℕ) → unwrap_or (slice_get tools (length tools - 1)) current ≡ last_tool current tools
last_tool_is current [] = refl
last_tool_is current (tool ∷ tools) = ap (λ k. unwrap_or (slice_get (tool ∷ tools) k) current) (less_one (length tools)) ∙ end_of tool tools current

-- ---- height by height

-- the tools of the heights below `at`, and the current tool after them
pub record Along (used : List ℕ) (heights : List (List ℕ)) (current at : ℕ) : Type 0 where
  pub rest : heights ++ tools_along current (drop at used) ≡ tools_along 0 used

pub along_none : (used : List ℕ) (heights : List (List ℕ)) → heights ≡ [] → Along used heights 0 0
along_none used heights none = record { rest = ap (λ hs. hs ++ tools_along 0 used) none }

pub along_more : (used : List ℕ) (heights new : List (List ℕ)) (current after at set : ℕ) (tools : List ℕ) → Along used heights current at → at < length used → set ≡ get_or used at set → tools ≡ order_of current set → after ≡ last_tool current tools → new ≡ heights ++ tools ∷ [] → Along used new after (at + 1)
along_more used heights new current after at set tools along less here is last more =
    let next : drop at used ≡ set ∷ drop (at + 1) used = rw add-one (drop-cons used at set less) ∙ ap (λ s. s ∷ drop (at + 1) used) (sym here) in
    record {
      rest =
          ap (λ hs. hs ++ tools_along after (drop (at + 1) used)) more
          ∙ append_assoc heights (tools ∷ []) (tools_along after (drop (at + 1) used))
          ∙ ap (λ t. heights ++ tools ∷ tools_along t (drop (at + 1) used)) last
          ∙ ap (λ ts. heights ++ ts ∷ tools_along (last_tool current ts) (drop (at + 1) used)) is
          ∙ ap (λ sets. heights ++ tools_along current sets) (sym next)
          ∙ along.rest;
    }

pub along_all : (used : List ℕ) (heights : List (List ℕ)) (current at : ℕ) → Along used heights current at → length used ≤ at → heights ≡ tools_along 0 used
along_all used heights current at along all =
    sym (append-nil heights) ∙ ap (λ sets. heights ++ tools_along current sets) (sym (drop_all at used all)) ∙ along.rest

-- ---- what holds of the heights

pub length_along : (current : ℕ) (used : List ℕ) → length (tools_along current used) ≡ length used
length_along current [] = refl
length_along current (set ∷ used) = ap suc (length_along (last_tool current (order_of current set)) used)

last_tool-append : (current : ℕ) (tools more : List ℕ) → last_tool current (tools ++ more) ≡ last_tool (last_tool current tools) more
last_tool-append current [] more = refl
last_tool-append current (tool ∷ tools) more = last_tool-append tool tools more

-- the last of the tools below height i, and the current one where there are none
abbrev tool_below : ℕ → List (List ℕ) → ℕ → ℕ
tool_below current heights i = last_tool current (flat_map (λ tools. tools) (take i heights))

order_from : (current : ℕ) (used : List ℕ) (i : ℕ) → i < length used → get_or (tools_along current used) i [] ≡ order_of (tool_below current (tools_along current used) i) (get_or used i 0)
order_from current [] i less = absurd (omega arith)
order_from current (set ∷ used) zero less = refl
order_from current (set ∷ used) (suc i) less =
    let tools : List ℕ = order_of current set in
    let above : List (List ℕ) = tools_along (last_tool current tools) used in
    order_from (last_tool current tools) used i (omega arith)
    ∙ ap (λ t. order_of t (get_or used i 0)) (sym (last_tool-append current tools (flat_map (λ ts. ts) (take i above))))

pub order_at : (used : List ℕ) (i : ℕ) → i < length used → get_or (tools_along 0 used) i [] ≡ order_of (tool_before (tools_along 0 used) i) (get_or used i 0)
order_at used i less = order_from 0 used i less

pub tool_after_height : (heights : List (List ℕ)) (i : ℕ) → i < length heights → tool_before heights (i + 1) ≡ last_tool (tool_before heights i) (get_or heights i [])
tool_after_height heights i less =
    let below : List ℕ = flat_map (λ tools. tools) (take i heights) in
    let more : take (i + 1) heights ≡ take i heights ++ get_or heights i [] ∷ [] = rw add-one (take-suc heights i [] less) in
    ap (λ hs. last_tool 0 (flat_map (λ tools. tools) hs)) more
    ∙ ap (last_tool 0) (flat_map-append (λ tools. tools) (take i heights) (get_or heights i [] ∷ []) ∙ ap (λ ts. below ++ ts) (append-nil (get_or heights i [])))
    ∙ last_tool-append 0 below (get_or heights i [])

pub along_below : (current : ℕ) (used : List ℕ) → All (λ tools. All (λ tool. tool < 4) tools) (tools_along current used)
along_below current [] = All-nil (λ tools. All (λ tool. tool < 4) tools)
along_below current (set ∷ used) =
    All-cons (λ tools. All (λ tool. tool < 4) tools) (order_of current set) (tools_along (last_tool current (order_of current set)) used)
    (order_below current set) (along_below (last_tool current (order_of current set)) used)
