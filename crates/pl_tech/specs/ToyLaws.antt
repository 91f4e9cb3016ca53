-- The laws of the toy technology.
use Rattle.std.proofs.Common.{refl, arith}
use Rattle.std.proofs.lemmas.Bool.Decides.{nat_tests}
use Rattle.pl_tech.specs.Technology.{IsLawful}
use Rattle.pl_tech.specs.Toy.{toy_meaning}

pub toy_laws : IsLawful toy_meaning
toy_laws = record {
  same_itself = λ a. grind (arith, nat_tests);
  same_sym = λ a b h. grind (arith, nat_tests);
  same_trans = λ a b c h k. grind (arith, nat_tests);
  same_present = λ a b h s. refl;
  same_problem = λ a b h. refl;
  same_untouched = λ a b h s. grind (arith, nat_tests);
  present_below = λ a s h. grind (arith, nat_tests);
  kept_value = λ a b s h k u. grind (arith, nat_tests);
  kept_needs = λ a b s h k u n. refl;
  touched_up = λ a b s n h k u t. grind (arith, nat_tests);
  changed_touched = λ a b s h. absurd (h refl);
  needs_present = λ a s n h k. grind (arith, nat_tests);
  needs_below = λ a s n h k. grind (arith, nat_tests);
  last_present = λ a. refl;
  last_needs = λ a s h k. grind (arith, nat_tests);
  last_bytes = λ a s h k. grind (arith, nat_tests);
  name_short = λ s. grind (arith, nat_tests);
  name_solid = λ s. grind (arith, nat_tests);
  name_present = λ a s h. grind (arith, nat_tests);
  name_apart = λ s t h k. grind (arith, nat_tests);
}
