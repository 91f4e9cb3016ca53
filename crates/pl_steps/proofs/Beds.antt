-- Shifts of instances that are in the bed.
use Rattle.std.proofs.Common.{◌≡◌, ℤ, ℕ, pos, negsuc, ◌+◌, ◌<◌, ◌≤◌, ◌≤ℤ◌, Bool, true, false, ◌&&◌, List, length, slice_index_or, slice_get, Some, subst, refl, sym, ap, ◌∙◌, arith}
use Rattle.std.proofs.lemmas.Int.{ints}
use Rattle.std.proofs.lemmas.Bool.Decides.{nat_tests}
use Rattle.std.proofs.lemmas.Option.{slice_get-get_or}
use Rattle.pl_model.specs.declared.instances.Shift.{Shift}
use Rattle.pl_model.specs.declared.object.Object.{Object}
use Rattle.pl_model.specs.Problem.{cell_of, is_among}
use Rattle.pl_model.specs.Printable.{box_for, AreInBed}
use Rattle.pl_steps.specs.Corners.{IsOnBed}

both : (a b : Bool) → (a && b) ≡ true → (a ≡ true) × (b ≡ true)
both true b h = (refl, h)
both false b h = absurd cc

among : (most : ℕ) (first : ℤ) (count : ℕ) → is_among most first count ≡ true → (pos 0 ≤ℤ first) × (first ≤ℤ pos most)
among most (pos n) count h = let less : n + count ≤ most = grind (arith, nat_tests, h) in (omega (arith, ints), omega (arith, ints))
among most (negsuc n) count h = absurd cc

pub on_bed : (object : Object) (shifts : List Shift) (i : ℕ) (d : Shift) → shifts ≡ object.instances → AreInBed object (length object.instances) → i < length shifts → IsOnBed (slice_index_or shifts i d)
on_bed object shifts i d same inside less =
    let shift = slice_index_or shifts i d in
    let there : slice_get object.instances i ≡ Some shift = ap (λ list. slice_get list i) (sym same) ∙ slice_get-get_or shifts i d less in
    let bed = both _ _ (inside i shift (subst (λ list. i < length list) same less) there) in
    let x = among 625 (cell_of shift.x) (box_for object).cols bed.0 in
    let y = among 525 (cell_of shift.y) (box_for object).rows bed.1 in
    record { left = x.0; right = x.1; bottom = y.0; top = y.1 }
