-- The tools of a height, its gap, and the ends of texts.
use Rattle.std.proofs.Common.{◌≡◌, ◌≢◌, ◌+◌, ◌-◌, ◌<◌, ◌≤◌, ℕ, zero, suc, pos, ◌-ℤ◌, true, false, cond, List, [], ◌∷◌, ◌++◌, length, drop, refl, ap, subst, sym, ◌∙◌, get_or, arith, append_assoc}
use Rattle.std.specs.Prelude.{◌==◌, codes}
use Rattle.std.specs.Fmt.{decimal}
use Rattle.std.specs.List.{flat_map, concat}
use Rattle.std.proofs.lemmas.List.{append-nil, drop_more}
use Rattle.std.proofs.lemmas.Bool.Decides.{nat_tests}
use Rattle.pl_units.specs.declared.Nm.{Nm}
use Rattle.pl_grid.specs.declared.stroke.Corner.{Corner}
use Rattle.pl_grid.specs.declared.stroke.Stroke.{Stroke}
use Rattle.pl_gcode.specs.declared.tools.Turn.{Turn}
use Rattle.pl_gcode.specs.Print.{Settings, Print}
use Rattle.pl_gcode.specs.IsPrint.{IsTrack}
use Rattle.pl_gcode.specs.Paths.{Pace, stroke_path, loop_path}
use Rattle.pl_gcode.specs.Gcode.{ends_line, own_text, opening_lines, head_text, height_at, rise_text, temperatures_text, height_text, perimeter_pace, infill_pace, ironing_pace, layer_text, origin, gap, tool_line, change_before, counted, turn_text, tools_text, last_tool, tool_before}

-- the last byte says whether a text ends with a line end
pub ends_at_last : (text : List ℕ) → 1 ≤ length text → (get_or text (length text - 1) 0 == 10) ≡ ends_line text
ends_at_last [] h = absurd (omega arith)
ends_at_last (b ∷ []) h = refl
ends_at_last (b ∷ c ∷ cs) h =
    let e : suc (suc (length cs)) - 1 ≡ suc (suc (length cs) - 1) = omega arith in
    ap (λ k. get_or (b ∷ c ∷ cs) k 0 == 10) e ∙ ends_at_last (c ∷ cs) (omega arith)

last_is : (current : ℕ) (tools : List ℕ) → 1 ≤ length tools → get_or tools (length tools - 1) 0 ≡ last_tool current tools
last_is current [] h = absurd (omega arith)
last_is current (t ∷ []) h = refl
last_is current (t ∷ u ∷ ts) h =
    let e : suc (suc (length ts)) - 1 ≡ suc (suc (length ts) - 1) = omega arith in
    ap (λ k. get_or (t ∷ u ∷ ts) k 0) e ∙ last_is t (u ∷ ts) (omega arith)

-- the tool before a height is the last of the height before
pub tool_before_is : (p : Print) (i : ℕ) (tools : List ℕ) → i ≢ 0 → tools ≡ p.tools (i - 1) → 1 ≤ length (p.tools (i - 1)) → get_or tools (length tools - 1) 0 ≡ tool_before p i
tool_before_is p zero tools other e h = absurd (other refl)
tool_before_is p (suc i) tools other e h =
    let back : suc i - 1 ≡ i = omega arith in
    let is : tools ≡ p.tools i = e ∙ ap p.tools back in
    let some : 1 ≤ length tools = subst (λ (l : List ℕ). 1 ≤ length l) (sym e) h in
    last_is (tool_before p i) tools some ∙ ap (last_tool (tool_before p i)) is

pub gap_between : (p : Print) (i : ℕ) (heights : List Nm) → i ≢ 0 → heights ≡ p.heights → IsTrack (gap p i) → IsTrack (record { 0 = (get_or heights i (record { 0 = pos 0 })).0 -ℤ (get_or heights (i - 1) (record { 0 = pos 0 })).0 })
gap_between p zero heights other e t = absurd (other refl)
gap_between p (suc i) heights other e t =
    let back : i ≡ suc i - 1 = omega arith in
    subst (λ (l : List Nm). IsTrack (record { 0 = (get_or l (suc i) (record { 0 = pos 0 })).0 -ℤ (get_or l (suc i - 1) (record { 0 = pos 0 })).0 })) (sym e)
    (subst (λ (k : ℕ). IsTrack (record { 0 = (get_or p.heights (suc i) (record { 0 = pos 0 })).0 -ℤ (get_or p.heights k (record { 0 = pos 0 })).0 })) back t)

opening_pieces : (first one two three four end bed nozzle : List ℕ) →
    concat ((first ++ one) ∷ bed ∷ (end ++ two) ∷ nozzle ∷ (end ++ three) ∷ bed ∷ (end ++ four) ∷ nozzle ∷ end ∷ []) ≡ (((first ++ ((one ++ bed) ++ end)) ++ ((two ++ nozzle) ++ end)) ++ ((three ++ bed) ++ end)) ++ ((four ++ nozzle) ++ end)
opening_pieces first one two three four end bed nozzle = simp (append_assoc, append-nil)

-- the pieces of the opening
pub opening_is : (s : Settings) → concat (codes "; headless plater\nG21\nG90\nM83\nM140 S" ∷ decimal s.first_layer_bed_temperature ∷ codes "\nM104 S" ∷ decimal s.first_layer_temperature ∷ codes "\nM190 S" ∷ decimal s.first_layer_bed_temperature ∷ codes "\nM109 S" ∷ decimal s.first_layer_temperature ∷ codes "\n" ∷ []) ≡ opening_lines s
opening_is s =
    opening_pieces (codes "; headless plater\nG21\nG90\nM83\n") (codes "M140 S") (codes "M104 S") (codes "M190 S") (codes "M109 S") (10 ∷ []) (decimal s.first_layer_bed_temperature) (decimal s.first_layer_temperature)

-- head and height, part by part
pub head_parts : (s t : Settings) (start : List ℕ) → t ≡ s → start ≡ t.start_gcode → head_text s ≡ opening_lines t ++ own_text start
head_parts s t start e is = ap head_text (sym e) ∙ ap (λ l. opening_lines t ++ own_text l) (sym is)

pub height_parts : (p : Print) (i : ℕ) (t : Settings) (height : Nm) → t ≡ p.settings → height ≡ height_at p i → height_text p i ≡ rise_text t height ++ (temperatures_text t i ++ tools_text p i (tool_before p i) 0 true (p.tools i))
height_parts p i t height e is =
    append_assoc (rise_text p.settings (height_at p i)) (temperatures_text p.settings i) (tools_text p i (tool_before p i) 0 true (p.tools i))
    ∙ ap (λ (s : Settings). rise_text s (height_at p i) ++ (temperatures_text s i ++ tools_text p i (tool_before p i) 0 true (p.tools i))) (sym e)
    ∙ ap (λ (h : Nm). rise_text t h ++ (temperatures_text t i ++ tools_text p i (tool_before p i) 0 true (p.tools i))) (sym is)

-- a layer, part by part
pub layer_parts : (p : Print) (place k : ℕ) (by : Corner) (s : Settings) (height : Nm) (perimeter infill ironing : Pace) (loops : List (List Corner)) (fill iron : List Stroke) →
    s ≡ p.settings → height ≡ p.layer_height place k → perimeter ≡ perimeter_pace s height → infill ≡ infill_pace s height → ironing ≡ ironing_pace s height → loops ≡ p.loops place k → fill ≡ p.infill place k → iron ≡ p.ironing place k →
    layer_text p place k by ≡ flat_map (loop_path s perimeter by) loops ++ (flat_map (stroke_path s infill by) fill ++ (flat_map (stroke_path s ironing by) iron ++ flat_map (stroke_path s infill by) (p.support place k)))
layer_parts p place k by s height perimeter infill ironing loops fill iron es eh ep ei er el ef en = rw (ep, ei, er, el, ef, en, es, eh) (simp append_assoc)

-- a change to another tool
pub change_is : (p : Print) (i current changes tool : ℕ) → tool ≢ current → change_before p i current changes tool ≡ tool_line tool ++ flat_map (stroke_path p.settings (infill_pace p.settings (gap p i)) origin) (p.block i changes)
change_is p i current changes tool other =
    let apart : (tool == current) ≡ false = grind (arith, nat_tests) in
    ap (λ b. cond b [] (tool_line tool ++ flat_map (stroke_path p.settings (infill_pace p.settings (gap p i)) origin) (p.block i changes))) apart

-- the tools that are left of a height
pub tools_next : (p : Print) (i : ℕ) (tools : List ℕ) (k d : ℕ) (turn after : Turn) → k < length tools → after ≡ record { current = get_or tools k d; changes = counted turn.current turn.changes (get_or tools k d); first = false } →
    tools_text p i turn.current turn.changes turn.first (drop k tools) ≡ turn_text p i turn.current turn.changes turn.first (get_or tools k d) ++ tools_text p i after.current after.changes after.first (drop (k + 1) tools)
tools_next p i tools k d turn after h e =
    ap (tools_text p i turn.current turn.changes turn.first) (drop_more tools k d h)
    ∙ ap (λ (t : Turn). turn_text p i turn.current turn.changes turn.first (get_or tools k d) ++ tools_text p i t.current t.changes t.first (drop (k + 1) tools)) (sym e)
