-- What the toy technology means.
use Rattle.std.specs.Prelude.{ℕ, ◌==◌, not, ◌&&◌, ◌||◌, Bool, if◌then◌else◌, List, [], ◌∷◌, ◌++◌}
use Rattle.std.specs.Prelude.{None}
use Rattle.std.specs.Fmt.{decimal}
use Rattle.pl_tech.specs.Technology.{Meaning}
use Rattle.pl_tech.specs.declared.toy.ToyPlate.{ToyPlate}
use Rattle.pl_tech.specs.declared.toy.ToyEdit.{ToyEdit}
use Rattle.pl_tech.specs.declared.toy.ToyEdit.TheVariants.{SetA, SetB}
use Rattle.pl_tech.specs.declared.toy.ToyOutput.{ToyOutput}
use Rattle.pl_tech.specs.declared.toy.ToyOutput.TheVariants.{Number, Text}
use Rattle.pl_tech.specs.declared.toy.ToyJob.{ToyJob}
use Rattle.pl_tech.specs.declared.toy.ToyJob.TheVariants.{First, Both}

abbrev pub toy_edited : ToyPlate → ToyEdit → ToyPlate
toy_edited p (SetA n) = record p { a = n }
toy_edited p (SetB n) = record p { b = n }

-- two numbers with a space between
abbrev pub both_text : ℕ → ℕ → List ℕ
both_text a b = decimal a ++ 32 ∷ decimal b

abbrev pub toy_value : ToyPlate → ℕ → ToyOutput
toy_value p slot = if slot == 98 then Number p.a else Text (both_text p.a p.b)

abbrev pub toy_job_value : ToyJob → ToyOutput
toy_job_value (First a) = Number a
toy_job_value (Both a b) = Text (both_text a b)

abbrev pub toy_bytes : ToyOutput → List ℕ
toy_bytes (Number n) = []
toy_bytes (Text t) = t

-- a change of a touches both slots, one of b slot 99
abbrev pub toy_touched : ToyPlate → ToyPlate → ℕ → Bool
toy_touched p q slot = (not (p.a == q.a) && ((slot == 98) || (slot == 99))) || (not (p.b == q.b) && (slot == 99))

-- "a" and "export"
abbrev pub toy_name : ℕ → List ℕ
toy_name slot = if slot == 98 then 97 ∷ [] else if slot == 99 then 101 ∷ 120 ∷ 112 ∷ 111 ∷ 114 ∷ 116 ∷ [] else []

abbrev pub toy_meaning : Meaning ToyPlate ToyEdit (Unit {0}) ToyOutput
toy_meaning = record {
  blank = record { a = 0; b = 0 };
  same = λ p q. (p.a == q.a) && (p.b == q.b);
  edited = toy_edited;
  reply = λ _ _. tt;
  problem = λ _. None;
  present = λ _ slot. (slot == 98) || (slot == 99);
  needs = λ _ slot need. (slot == 99) && (need == 98);
  touched = toy_touched;
  value = toy_value;
  batches = λ _ _. 1;
  bytes = toy_bytes;
  name = toy_name;
}
