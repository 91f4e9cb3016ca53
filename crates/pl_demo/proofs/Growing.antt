-- Texts that grow by one part more.
use Rattle.std.proofs.Common.{◌≡◌, ℕ, ◌+◌, ◌<◌, List, ◌++◌, length, get_or, take, refl, ap, sym, ◌∙◌, append_assoc, add-one, Result, Ok, Err, OnOk}
use Rattle.std.specs.List.{flat_map}
use Rattle.std.proofs.lemmas.List.{take_more, flat_map_more}
use Rattle.pl_demo.specs.Numbers.{each_of}

each_step : {A : Type 0} (f : ℕ → List A) (k : ℕ) → each_of f k ++ f (k + 1) ≡ each_of f (k + 1)
each_step f k = rw add-one refl

pub each_more : (f : ℕ → List ℕ) (init text more : List ℕ) (k : ℕ) → text ≡ init ++ each_of f k → more ≡ text ++ f (k + 1) → more ≡ init ++ each_of f (k + 1)
each_more f init text more k is next = next ∙ ap (λ l. l ++ f (k + 1)) is ∙ append_assoc init (each_of f k) (f (k + 1)) ∙ ap (λ l. init ++ l) (each_step f k)

pub parts_more : {X : Type 0} (f : X → List ℕ) (xs : List X) (init text more : List ℕ) (k : ℕ) (d : X) → k < length xs → text ≡ init ++ flat_map f (take k xs)
    → more ≡ text ++ f (get_or xs k d) → more ≡ init ++ flat_map f (take (k + 1) xs)
parts_more f xs init text more k d low is next =
    next ∙ ap (λ l. l ++ f (get_or xs k d)) is ∙ flat_map_more f init (take k xs) (get_or xs k d) ∙ ap (λ l. init ++ flat_map f l) (sym (take_more xs k d low))

-- what follows from a fact follows where the fact holds of a call that went well
pub on_ok : {A E : Type 0} (r : Result A E) (P Q : Type 0) → OnOk r P → (P → Q) → OnOk r Q
on_ok (Ok a) P Q holds f = f holds
on_ok (Err e) P Q holds f = tt

-- three texts one after another
pub three : (old a b c x y z : List ℕ) → a ≡ old ++ x → b ≡ a ++ y → c ≡ b ++ z → c ≡ old ++ (x ++ (y ++ z))
three old a b c x y z first second third =
    third ∙ ap (λ l. l ++ z) (second ∙ ap (λ l. l ++ y) first ∙ append_assoc old x y) ∙ append_assoc old (x ++ y) z ∙ ap (λ l. old ++ l) (append_assoc x y z)
