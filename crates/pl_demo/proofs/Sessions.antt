-- The lines of a session, one after another.
use Rattle.std.proofs.Common.{◌≡◌, ℕ, List, ◌++◌, ap, ◌∙◌, append_assoc}
use Rattle.std.specs.Fmt.{decimal}
use Rattle.pl_demo.specs.Lines.{line_of, text_of}
use Rattle.pl_demo.specs.Numbers.{density_of}
use Rattle.pl_demo.specs.Script.{wait_text, load_words, move_words, percent_of, set_words, export_lines, session_text}

more : (old a b x y : List ℕ) → a ≡ old ++ x → b ≡ a ++ y → b ≡ old ++ (x ++ y)
more old a b x y first second = second ∙ ap (λ l. l ++ y) first ∙ append_assoc old x y

pub session_is : (n i : ℕ) (old a b c d e one two three density : List ℕ) → one ≡ decimal i → two ≡ decimal i → three ≡ decimal i → density ≡ percent_of (density_of n i)
    → a ≡ old ++ wait_text i → b ≡ a ++ line_of (load_words one) → c ≡ b ++ line_of (move_words n i) → d ≡ c ++ line_of (set_words two density) → e ≡ d ++ text_of (export_lines three)
    → e ≡ old ++ session_text n i
session_is n i old a b c d e one two three density one_is two_is three_is density_is wait load move set export =
    let l : List ℕ = line_of (load_words (decimal i)) in
    let m : List ℕ = line_of (move_words n i) in
    let s : List ℕ = line_of (set_words (decimal i) (percent_of (density_of n i))) in
    let x : List ℕ = text_of (export_lines (decimal i)) in
    let loaded : b ≡ a ++ l = load ∙ ap (λ t. a ++ line_of (load_words t)) one_is in
    let settled : d ≡ c ++ s = set ∙ ap (λ t. c ++ line_of (set_words t density)) two_is ∙ ap (λ t. c ++ line_of (set_words (decimal i) t)) density_is in
    let exported : e ≡ d ++ x = export ∙ ap (λ t. d ++ text_of (export_lines t)) three_is in
    more old a e (wait_text i) (l ++ (m ++ (s ++ x))) wait (more a b e l (m ++ (s ++ x)) loaded (more b c e m (s ++ x) move (more c d e s x settled exported)))
