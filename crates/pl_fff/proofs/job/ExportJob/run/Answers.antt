use Rattle.std.proofs.Common.{◌≡◌, rules, ap, ◌∙◌}
use Rattle.pl_gcode.specs.SettingsOf.{settings_of}
use Rattle.pl_gcode.specs.Gcode.{gcode_of}
use Rattle.pl_parts.specs.Parts.{print_from}
use Rattle.pl_slots.specs.declared.output.FffOutput.TheVariants.{Gcode}
use Rattle.pl_fff.specs.Held.{heights_in, tools_in, blocks_in, rounds_in}
use Rattle.pl_fff.specs.Jobs.{exported}
use Rattle.pl_fff.proofs.job.ExportJob.run.Goals as goal

pub returns-in-Done-clause-ran : goal.returns-in-Done-clause-ran
returns-in-Done-clause-ran g c =
    let text : c.in-Done.text ≡ gcode_of (print_from c.of-parts.result) = search rules in
    let lists : c.of-parts.result ≡ exported c.args.self.now =
    c.of-parts.ensures
    ∙ (λ i. record {
      settings = settings_of c.args.self.now.config;
      heights = (c.heights_in.ensures ∙ ap heights_in c.get.ensures) i;
      tools = (c.tools_in.ensures ∙ ap tools_in c.get-2.ensures) i;
      blocks = (c.blocks_in.ensures ∙ ap blocks_in c.get-3.ensures) i;
      skirt = (c.rounds_in.ensures ∙ ap rounds_in c.get-4.ensures) i;
      brim = (c.rounds_in-2.ensures ∙ ap rounds_in c.get-5.ensures) i;
      objects = (c.in_ok-all_parts.ensures ∙ c.deref.ensures.value) i;
    }) in
    ap Gcode (text ∙ ap (λ d. gcode_of (print_from d)) lists)
