use Rattle.std.proofs.Common.{ℕ, List, length, ap, sym, subst, ◌∙◌, FitsSigned, w32}
use Rattle.std.proofs.lemmas.Int.{to_z-of_z}
use Rattle.std.proofs.lemmas.List.{with_items_is}
use Rattle.pl_grid.specs.Packed.{packed, IsPacked}
use Rattle.pl_grid.proofs.Toggling.{toggled_from, toggled_is, IsPacked-toggled}
use Rattle.pl_grid.proofs.Setting.{row_some}
use Rattle.pl_grid.proofs.plane.Plane.toggle_row.Goals as goal

pub invariant_of-self : goal.invariant_of-self
invariant_of-self c =
    let t = toggled_from c.self.inside.bounds.cols c.in-Some.row c.columns_to-below.result c.first_word-start.result c.row_words.result c.self.inside.words.items c.deref_mut.result.now c.toggle_at.new.words c.deref_mut.ensures.value c.first_word-start.ensures.value c.row_words.ensures c.toggle_at.ensures.inside c.toggle_at.ensures.before c.toggle_at.ensures.after in
    let ok = IsPacked-toggled c.self.inside.bounds c.self.inside.words.items c.toggle_at.new.words c.in-Some.row c.columns_to-below.result c.self.invariant (c.toggle_at.auto.words ∙ ap length c.deref_mut.ensures.value) c.columns_to-below.ensures.within t in
    subst (λ (l : List ℕ). IsPacked c.self.inside.bounds l) (sym (with_items_is c.self.inside.words c.toggle_at.new.words (c.toggle_at.auto.words ∙ c.deref_mut.ensures.len))) ok

pub returns-in-Some : goal.returns-in-Some
returns-in-Some c =
    let t = toggled_from c.self.inside.bounds.cols c.in-Some.row c.columns_to-below.result c.first_word-start.result c.row_words.result c.self.inside.words.items c.deref_mut.result.now c.toggle_at.new.words c.deref_mut.ensures.value c.first_word-start.ensures.value c.row_words.ensures c.toggle_at.ensures.inside c.toggle_at.ensures.before c.toggle_at.ensures.after in
    let fx : FitsSigned w32 c.args.x = c.ranges.x in
    let fy : FitsSigned w32 c.args.y = c.ranges.y in
    let ey = row_some c.self.inside.bounds _ c.in-Some.row (sym c.in-Some.ensures.value) in
    ap (λ l. packed c.self.inside.bounds l) (with_items_is c.self.inside.words c.toggle_at.new.words (c.toggle_at.auto.words ∙ c.deref_mut.ensures.len))
    ∙ toggled_is c.args.self.now c.self.inside.bounds c.self.inside.words.items c.toggle_at.new.words c.args.x c.args.y c.in-Some.row c.columns_to-below.result c.self.view_is (simp to_z-of_z at ey) (simp to_z-of_z at c.columns_to-below.ensures.value) c.in-Some.ensures.below t
