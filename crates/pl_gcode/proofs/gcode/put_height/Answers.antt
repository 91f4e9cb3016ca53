use Rattle.std.proofs.Common.{◌++◌, pos, true, List, get_or, ap, ◌∙◌, refl}
use Rattle.std.proofs.lemmas.Result.{err_from_is_err_and}
use Rattle.pl_units.specs.declared.Nm.{Nm}
use Rattle.pl_gcode.specs.Gcode.{rise_text, temperatures_text, tools_text, tool_before}
use Rattle.pl_gcode.proofs.Heights.{height_parts}
use Rattle.pl_gcode.proofs.Written.{written_none, written_more, written_err, written_last}
use Rattle.pl_gcode.proofs.gcode.put_height.Goals as goal

pub returns-in_err-put_rise : goal.returns-in_err-put_rise
returns-in_err-put_rise g c =
    let p = err_from_is_err_and c.from_residual.result c.from_residual.ensures.1 in
    written_err _ _ _ _ _ (rise_text c.of-settings.result (get_or c.heights.result.now c.args.i (record { 0 = pos 0 }))) ((temperatures_text c.of-settings.result c.args.i) ++ (tools_text (g.P.Parts.print c.args.parts.now) c.args.i (tool_before (g.P.Parts.print c.args.parts.now) c.args.i) 0 true ((g.P.Parts.print c.args.parts.now).tools c.args.i))) _ _ p.1
    (written_none _ _ _
    (height_parts (g.P.Parts.print c.args.parts.now) c.args.i c.of-settings.result (get_or c.heights.result.now c.args.i (record { 0 = pos 0 })) (c.of-settings.ensures ∙ c.config.ensures.settings) (ap (λ (l : List Nm). get_or l c.args.i (record { 0 = pos 0 })) c.heights.ensures)))
    c.in_err-put_rise.ensures refl

pub returns-in_err-put_temperatures : goal.returns-in_err-put_temperatures
returns-in_err-put_temperatures g c =
    let p = err_from_is_err_and c.from_residual-in_err-put_temperatures.result c.from_residual-in_err-put_temperatures.ensures.1 in
    written_err _ _ _ _ _ (temperatures_text c.of-settings.result c.args.i) (tools_text (g.P.Parts.print c.args.parts.now) c.args.i (tool_before (g.P.Parts.print c.args.parts.now) c.args.i) 0 true ((g.P.Parts.print c.args.parts.now).tools c.args.i)) _ _ p.1
    (written_more _ _ _ _ _ (rise_text c.of-settings.result (get_or c.heights.result.now c.args.i (record { 0 = pos 0 }))) ((temperatures_text c.of-settings.result c.args.i) ++ (tools_text (g.P.Parts.print c.args.parts.now) c.args.i (tool_before (g.P.Parts.print c.args.parts.now) c.args.i) 0 true ((g.P.Parts.print c.args.parts.now).tools c.args.i)))
    (written_none _ _ _
    (height_parts (g.P.Parts.print c.args.parts.now) c.args.i c.of-settings.result (get_or c.heights.result.now c.args.i (record { 0 = pos 0 })) (c.of-settings.ensures ∙ c.config.ensures.settings) (ap (λ (l : List Nm). get_or l c.args.i (record { 0 = pos 0 })) c.heights.ensures)))
    c.in_ok-put_rise.ensures refl)
    c.in_err-put_temperatures.ensures refl

pub returns : goal.returns
returns g c =
    written_last _ _ _ _ _ (tools_text (g.P.Parts.print c.args.parts.now) c.args.i (tool_before (g.P.Parts.print c.args.parts.now) c.args.i) 0 true ((g.P.Parts.print c.args.parts.now).tools c.args.i)) _
    (written_more _ _ _ _ _ (temperatures_text c.of-settings.result c.args.i) (tools_text (g.P.Parts.print c.args.parts.now) c.args.i (tool_before (g.P.Parts.print c.args.parts.now) c.args.i) 0 true ((g.P.Parts.print c.args.parts.now).tools c.args.i))
    (written_more _ _ _ _ _ (rise_text c.of-settings.result (get_or c.heights.result.now c.args.i (record { 0 = pos 0 }))) ((temperatures_text c.of-settings.result c.args.i) ++ (tools_text (g.P.Parts.print c.args.parts.now) c.args.i (tool_before (g.P.Parts.print c.args.parts.now) c.args.i) 0 true ((g.P.Parts.print c.args.parts.now).tools c.args.i)))
    (written_none _ _ _
    (height_parts (g.P.Parts.print c.args.parts.now) c.args.i c.of-settings.result (get_or c.heights.result.now c.args.i (record { 0 = pos 0 })) (c.of-settings.ensures ∙ c.config.ensures.settings) (ap (λ (l : List Nm). get_or l c.args.i (record { 0 = pos 0 })) c.heights.ensures)))
    c.in_ok-put_rise.ensures refl)
    c.in_ok-put_temperatures.ensures refl)
    c.put_tools.ensures refl
