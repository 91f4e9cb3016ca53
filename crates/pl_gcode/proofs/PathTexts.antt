-- The texts of paths, part by part.
use Rattle.std.proofs.Common.{◌≡◌, ◌+◌, ◌-◌, ◌<◌, ◌≤◌, ℕ, List, [], ◌∷◌, ◌++◌, length, take, drop, map, ap, sym, ◌∙◌, get_or, arith, append_assoc, length-drop}
use Rattle.std.proofs.lemmas.List.{append-nil, drop_more, drop_all, take_all}
use Rattle.pl_grid.specs.declared.stroke.Corner.{Corner}
use Rattle.pl_grid.specs.declared.stroke.Stroke.{Stroke}
use Rattle.pl_gcode.specs.Print.{Settings}
use Rattle.pl_gcode.specs.Paths.{Spot, Pace, start_lines, extrude, extrude_along, shifted, start_of, end_of, stroke_path, shifted_corner, loop_path}

-- pieces that were put in front of one another: a point, a move with extrusion, and a move with the feed after it
pub spot_pieces : (first x between y rest : List ℕ) → first ++ (x ++ (between ++ (y ++ rest))) ≡ (first ++ x ++ between ++ y) ++ rest
spot_pieces first x between y rest = simp append_assoc

pub extrude_pieces : (spot sign amount end : List ℕ) → spot ++ (sign ++ (amount ++ end)) ≡ (spot ++ sign ++ amount) ++ end
extrude_pieces spot sign amount end = simp append_assoc

pub start_pieces : (spot space sign travel end move feed : List ℕ) →
    spot ++ (space ++ (sign ++ (travel ++ (end ++ (move ++ (sign ++ (feed ++ end))))))) ≡ ((spot ++ space ++ (sign ++ travel)) ++ end) ++ ((move ++ (sign ++ feed)) ++ end)
start_pieces spot space sign travel end move feed = simp append_assoc

pub stroke_first : (s : Settings) (pace : Pace) (by : Corner) (k : Stroke) (start : Spot) → start ≡ shifted by (start_of k) → stroke_path s pace by k ≡ start_lines s pace start ++ extrude_along s pace start (shifted by (end_of k) ∷ [])
stroke_first s pace by k start e = ap (λ a. start_lines s pace a ++ extrude_along s pace a (shifted by (end_of k) ∷ [])) (sym e)

pub stroke_second : (s : Settings) (pace : Pace) (by : Corner) (k : Stroke) (start end : Spot) → end ≡ shifted by (end_of k) → extrude_along s pace start (shifted by (end_of k) ∷ []) ≡ extrude s pace start end
stroke_second s pace by k start end e = append-nil (extrude s pace start (shifted by (end_of k))) ∙ ap (extrude s pace start) (sym e)

-- the moves that are left of a loop
abbrev pub round_text : Settings → Pace → Corner → Corner → Spot → List Corner → List ℕ
round_text s pace by first from others = extrude_along s pace from (map (shifted_corner by) (others ++ first ∷ []))

pub round_next : (s : Settings) (pace : Pace) (by first : Corner) (others : List Corner) (i : ℕ) (d : Corner) (from to : Spot) → i < length others → to ≡ shifted_corner by (get_or others i d) →
    round_text s pace by first from (drop i others) ≡ extrude s pace from to ++ round_text s pace by first to (drop (i + 1) others)
round_next s pace by first others i d from to h e =
    ap (round_text s pace by first from) (drop_more others i d h) ∙ ap (λ q. extrude s pace from q ++ round_text s pace by first q (drop (i + 1) others)) (sym e)

pub round_last : (s : Settings) (pace : Pace) (by first : Corner) (others : List Corner) (i : ℕ) (from to : Spot) → length others ≤ i → to ≡ shifted_corner by first → round_text s pace by first from (drop i others) ≡ extrude s pace from to
round_last s pace by first others i from to h e =
    ap (round_text s pace by first from) (drop_all i others h) ∙ append-nil (extrude s pace from (shifted_corner by first)) ∙ ap (extrude s pace from) (sym e)

pub loop_first : (s : Settings) (pace : Pace) (by first : Corner) (corners others : List Corner) (at : Spot) → corners ≡ first ∷ others → at ≡ shifted_corner by first → loop_path s pace by corners ≡ start_lines s pace at ++ round_text s pace by first (shifted_corner by first) others
loop_first s pace by first corners others at is e = ap (loop_path s pace by) is ∙ ap (λ a. start_lines s pace a ++ round_text s pace by first (shifted_corner by first) others) (sym e)

-- a list is its first item and the others
pub first_and_others : {X : Type 0} (xs : List X) (d : X) → 1 ≤ length xs → xs ≡ get_or xs 0 d ∷ take (length xs - 1) (drop 1 xs)
first_and_others xs d h =
    let short : length (drop 1 xs) ≤ length xs - 1 = omega (arith, length-drop 1 xs) in
    drop_more xs 0 d h ∙ ap (λ l. get_or xs 0 d ∷ l) (sym (take_all (length xs - 1) (drop 1 xs) short))
