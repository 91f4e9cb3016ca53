use Rattle.std.proofs.Common.{ℕ, ◌≤◌, List, length, ap, sym, subst, ◌∙◌, ◌^◌}
use Rattle.pl_demo.specs.Script.{percent_of}
use Rattle.pl_demo.proofs.Short.{short_percent}
use Rattle.pl_demo.proofs.commands.set_in.Goals as goal

pub of-requires : goal.of-requires
of-requires c =
    let Short : List ℕ → Type 0 = λ l. length l ≤ 2 ^ 28 in
    subst Short (sym (c.in_ok-value.ensures ∙ ap percent_of c.density_of.ensures)) (short_percent c.args.n c.args.i)
