use Rattle.std.proofs.Common.{◌-◌, length, slice_get, unwrap_or, ◌∙◌, ap}
use Rattle.pl_tower.proofs.HeightLemmas.{last_tool_is}
use Rattle.pl_tower.proofs.heights.tool_after.Goals as goal

pub returns : goal.returns
returns c =
    c.unwrap_or.ensures
    ∙ ap (λ o. unwrap_or o c.args.current) (c.copied.ensures ∙ c.last.ensures.value)
    ∙ ap (λ tools. unwrap_or (slice_get tools (length tools - 1)) c.args.current) c.tools.ensures
    ∙ last_tool_is c.args.current c.args.tools.now
