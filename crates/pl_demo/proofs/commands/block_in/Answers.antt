use Rattle.std.proofs.Common.{ℕ, ◌≤◌, List, length, ap, sym, subst, ◌∙◌, ◌^◌}
use Rattle.pl_demo.specs.Box.{box_text}
use Rattle.pl_demo.specs.Script.{size_of}
use Rattle.pl_demo.proofs.Short.{short_box, small_sizes}
use Rattle.pl_demo.proofs.commands.block_in.Goals as goal

pub of-requires : goal.of-requires
of-requires c =
    let Short : List ℕ → Type 0 = λ l. length l ≤ 2 ^ 28 in
    subst Short (sym (c.in_ok-text.ensures ∙ ap box_text c.size_of.ensures)) (short_box (size_of c.args.n c.args.i) (small_sizes c.args.n c.args.i))
