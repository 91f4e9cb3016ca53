use Rattle.std.proofs.Common.{◌≡◌, ◌∙◌}
use Rattle.pl_whole.specs.Printed.{AroundData, around_of}
use Rattle.pl_whole.proofs.ObjectLemmas.{data_are}
use Rattle.pl_whole.proofs.WholeLemmas.{lists_are}
use Rattle.pl_whole.proofs.slicing.print_lists.Goals as goal

pub returns : goal.returns
returns c =
    let around : AroundData = record { heights = c.deref.result.now; tools = c.deref-2.result.now; blocks = c.deref-3.result.now; skirt = c.deref-4.result.now; brim = c.deref-5.result.now } in
    let inside : AroundData = record { heights = c.around.inside.heights.items; tools = c.around.inside.tools.items; blocks = c.around.inside.blocks.items; skirt = c.around.inside.skirt.items; brim = c.around.inside.brim.items } in
    let seen : around ≡ inside =
    λ i. record { heights = c.deref.ensures.value i; tools = c.deref-2.ensures.value i; blocks = c.deref-3.ensures.value i; skirt = c.deref-4.ensures.value i; brim = c.deref-5.ensures.value i } in
    let is : around ≡ around_of c.args.plate.now = seen ∙ c.around.view_is ∙ c.requires.around in
    lists_are c.args.plate.now c.config.result.now around c.in_ok-all_parts.field-0.items c.config.ensures is
    (data_are c.args.plate.now c.args.objects.now c.in_ok-all_parts.field-0.items c.requires.objects c.in_ok-all_parts.ensures)
