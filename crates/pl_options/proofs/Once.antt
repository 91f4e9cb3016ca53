-- A text has one reading: its settings, or its first breach.
use Rattle.std.proofs.Common.{◌≡◌, ℕ, ◌+◌, ◌⊎◌, inl, inr, List, Result, All, refl, sym, ap, subst, ◌∙◌}
use Rattle.std.specs.Result.{IsOk, IfOk, MatchResult}
use Rattle.std.proofs.lemmas.Result.{MatchResult-weaker}
use Rattle.pl_units.specs.declared.Refusal.{Refusal}
use Rattle.pl_units.specs.declared.Refusal.TheVariants.{Fault, NoMemory}
use Rattle.pl_options.specs.declared.fault.IniFault.{IniFault}
use Rattle.pl_options.specs.Lines.{line_of}
use Rattle.pl_options.specs.Settings.{Settings, settings_of, Sets, Breaks, IsSettingsText, IsFirstBreach}
use Rattle.pl_options.specs.Reading.{IsRefusal}
use Rattle.pl_options.proofs.Lists.{all_ok, same_oks, middle, no_err, one_failure}

sets_once : (texts : List (List ℕ)) (one other : Settings) → Sets texts one → Sets texts other → one ≡ other
sets_once texts one other h k = h.same ∙ ap settings_of (same_oks h.lines k.lines (sym h.said ∙ k.said)) ∙ sym k.same

sets_or_breaks : (texts : List (List ℕ)) (settings : Settings) (number : ℕ) (fault : IniFault) → Sets texts settings → Breaks texts number fault → ⊥
sets_or_breaks texts settings number fault h k =
    let Whole : List ℕ → Type 0 = λ text. IsOk (line_of text) in
    no_err line_of k.line fault (middle Whole k.before k.line k.after (subst (All Whole) k.all (all_ok line_of texts h.lines h.said))) k.broken

breaks_once : (texts : List (List ℕ)) (number other : ℕ) (fault more : IniFault) → Breaks texts number fault → Breaks texts other more → (number ≡ other) × (fault ≡ more)
breaks_once texts number other fault more h k =
    let one = one_failure line_of h.before h.line h.after fault k.before k.line k.after more (sym h.all ∙ k.all) h.whole k.whole h.broken k.broken in
    (h.place ∙ ap (λ n. n + 1) one.0 ∙ sym k.place, one.1)

refusal_of_settings : (text : List ℕ) (settings : Settings) (refusal : Refusal IniFault) → IsSettingsText text settings → IsRefusal text refusal → refusal ≡ NoMemory
refusal_of_settings text settings (Fault line fault) h k = absurd (sets_or_breaks _ settings line fault h k)
refusal_of_settings text settings NoMemory h k = refl

refusal_of_breach : (text : List ℕ) (line : ℕ) (fault : IniFault) (refusal : Refusal IniFault) → IsFirstBreach text line fault → IsRefusal text refusal → (refusal ≡ Fault line fault) ⊎ (refusal ≡ NoMemory)
refusal_of_breach text line fault (Fault at other) h k =
    let same = breaks_once _ at line other fault k h in
    inl (λ i. Fault (same.0 i) (same.1 i))
refusal_of_breach text line fault NoMemory h k = inr refl

module _ (text : List ℕ) (result : Result Settings (Refusal IniFault)) (read : MatchResult result (IsSettingsText text) (IsRefusal text)) where
  pub its_text : IfOk result (IsSettingsText text)
  its_text = MatchResult-weaker result read (λ set h. h) (λ e h. tt)

  pub its_settings : (settings : Settings) → IsSettingsText text settings → MatchResult result (λ set. set ≡ settings) (λ e. e ≡ NoMemory)
  its_settings settings h = MatchResult-weaker result read (λ set k. sets_once _ set settings k h) (λ e k. refusal_of_settings text settings e h k)

  pub its_breach : (line : ℕ) (fault : IniFault) → IsFirstBreach text line fault → MatchResult result (λ _. ⊥) (λ e. (e ≡ Fault line fault) ⊎ (e ≡ NoMemory))
  its_breach line fault h = MatchResult-weaker result read (λ set k. sets_or_breaks _ set line fault k h) (λ e k. refusal_of_breach text line fault e h k)
