-- The lines of a text, and what they set.
use Rattle.std.proofs.Common.{◌≡◌, ℕ, ◌+◌, ◌<◌, ◌≤◌, ◌==◌, List, [], ◌∷◌, ◌++◌, length, take, drop, get_or, reverse, Ok, Err, cond, refl, sym, ap, ◌∙◌, arith, append-nil, add-zero, take-append-drop, count_by}
use Rattle.std.specs.List.{filter_map}
use Rattle.std.specs.FinMap.{from_entries}
use Rattle.std.proofs.lemmas.List.{length-map, map-append, reverse-append, drop_more, length_push}
use Rattle.std.proofs.lemmas.List.Elements.{filter_map-append}
use Rattle.std.proofs.lemmas.List.Splits.{length-slice_split}
use Rattle.std.proofs.lemmas.List.Sums.{sum_by-append, count_by-le-length}
use Rattle.pl_units.specs.declared.Refusal.{Refusal}
use Rattle.pl_units.specs.declared.Refusal.TheVariants.{Fault, NoMemory}
use Rattle.pl_keys.specs.declared.key.Key.{Key}
use Rattle.pl_keys.specs.declared.value.Value.{Value}
use Rattle.pl_options.specs.declared.fault.IniFault.{IniFault}
use Rattle.pl_options.specs.declared.line.Line.{Line}
use Rattle.pl_options.specs.declared.line.Line.TheVariants.{Nothing, Unknown, Put}
use Rattle.pl_options.specs.KeyMap.{key_cmp}
use Rattle.pl_options.specs.Lines.{line_of, lines_of, Refuses}
use Rattle.pl_options.specs.Settings.{Settings, settings_of, put_of, is_unknown, Sets, Breaks}
use Rattle.pl_options.specs.Reading.{with_line, IsRefusal}
use Rattle.pl_options.proofs.Lists.{all_ok}

-- settings by what was put and how many lines were passed
abbrev made : List (Key × Value) → ℕ → Settings
made puts passed = record { values = from_entries {R = key_cmp} (reverse puts); taken = length puts; passed = passed }

one_put : (puts : List (Key × Value)) (passed : ℕ) (key : Key) (value : Value) → with_line (made puts passed) (Put key value) ≡ made (puts ++ (key, value) ∷ []) passed
one_put puts passed key value =
    (λ i. record {
      values = from_entries {R = key_cmp} (sym (reverse-append puts ((key, value) ∷ [])) i);
      taken = sym (length_push puts (key, value)) i;
      passed = passed;
    })

puts_more : (lines : List Line) (line : Line) → filter_map put_of (lines ++ line ∷ []) ≡ filter_map put_of lines ++ filter_map put_of (line ∷ [])
puts_more lines line = filter_map-append put_of lines (line ∷ [])

passed_more : (lines : List Line) (line : Line) → count_by is_unknown (lines ++ line ∷ []) ≡ count_by is_unknown lines + count_by is_unknown (line ∷ [])
passed_more lines line = sum_by-append (λ l. cond (is_unknown l) 1 0) lines (line ∷ [])

-- a further line
pub settings_more : (lines : List Line) (line : Line) → with_line (settings_of lines) line ≡ settings_of (lines ++ line ∷ [])
settings_more lines Nothing = sym (λ i. made ((puts_more lines Nothing ∙ append-nil (filter_map put_of lines)) i) ((passed_more lines Nothing ∙ add-zero (count_by is_unknown lines)) i))
settings_more lines Unknown = sym (λ i. made ((puts_more lines Unknown ∙ append-nil (filter_map put_of lines)) i) (passed_more lines Unknown i))
settings_more lines (Put key value) =
    one_put (filter_map put_of lines) (count_by is_unknown lines) key value
    ∙ sym (λ i. made (puts_more lines (Put key value) i) ((passed_more lines (Put key value) ∙ add-zero (count_by is_unknown lines)) i))

pub nothing_set : Sets [] (settings_of [])
nothing_set = record { lines = []; said = refl; same = refl }

pub one_set : (texts : List (List ℕ)) (text : List ℕ) (old new : Settings) (line : Line) → Sets texts old → line_of text ≡ Ok line → new ≡ with_line old line → Sets (texts ++ text ∷ []) new
one_set texts text old new line h said same = record {
  lines = h.lines ++ line ∷ [];
  said = map-append line_of texts (text ∷ []) ∙ (λ i. h.said i ++ said i ∷ []) ∙ sym (map-append Ok h.lines (line ∷ []));
  same = same ∙ ap (λ s. with_line s line) h.same ∙ settings_more h.lines line;
}

few_puts : (lines : List Line) → length (filter_map put_of lines) ≤ length lines
few_puts [] = omega arith
few_puts (Nothing ∷ lines) = omega (arith, few_puts lines)
few_puts (Unknown ∷ lines) = omega (arith, few_puts lines)
few_puts (Put key value ∷ lines) = omega (arith, few_puts lines)

-- no more lines are taken than there are
pub few_taken : (texts : List (List ℕ)) (settings : Settings) → Sets texts settings → settings.taken ≤ length texts
few_taken texts settings h =
    let count : length texts ≡ length h.lines = simp length-map at (ap length h.said) in
    let same : settings.taken ≡ length (filter_map put_of h.lines) = ap (λ s. s.taken) h.same in
    omega (arith, few_puts h.lines)

pub few_passed : (texts : List (List ℕ)) (settings : Settings) → Sets texts settings → settings.passed ≤ length texts
few_passed texts settings h =
    let count : length texts ≡ length h.lines = simp length-map at (ap length h.said) in
    let same : settings.passed ≡ count_by is_unknown h.lines = ap (λ s. s.passed) h.same in
    omega (arith, count_by-le-length is_unknown h.lines)

-- a text has no more lines than bytes and one
pub few_lines : (text : List ℕ) → length (lines_of text) ≤ length text + 1
few_lines text = omega (arith, length-slice_split (λ b. b == 10) text, count_by-le-length (λ b. b == 10) text)

-- the line after those that were taken breaks
pub first_break : (texts all : List (List ℕ)) (text : List ℕ) (settings : Settings) (number : ℕ) (fault : IniFault) → Sets texts settings → texts ≡ take (length texts) all → length texts < length all → text ≡ get_or all (length texts) text
    → line_of text ≡ Err fault → number ≡ length texts + 1 → Breaks all number fault
first_break texts all text settings number fault h front within here broken place = record {
  before = texts;
  line = text;
  after = drop (length texts + 1) all;
  all = sym (take-append-drop (length texts) all) ∙ (λ i. sym front i ++ (drop_more all (length texts) text within ∙ ap (λ t. t ∷ drop (length texts + 1) all) (sym here)) i);
  whole = all_ok line_of texts h.lines h.said;
  broken = broken;
  place = place;
}

pub refused : (texts : List (List ℕ)) (text line : List ℕ) (settings : Settings) (number : ℕ) (refusal : Refusal IniFault) → Sets texts settings → texts ≡ take (length texts) (lines_of text) → length texts < length (lines_of text) → line ≡ get_or (lines_of text) (length texts) line
    → number ≡ length texts + 1 → Refuses number (line_of line) refusal → IsRefusal text refusal
refused texts text line settings number (Fault at fault) h front within here place says = first_break texts (lines_of text) line settings at fault h front within here says.1 (says.0 ∙ place)
refused texts text line settings number NoMemory h front within here place says = tt
