-- Each text has one reading: the script of its lines, or their first breach.
use Rattle.std.proofs.Common.{◌≡◌, ℕ, zero, suc, ◌+◌, ◌==◌, ◌<◌, ◌≤◌, nat_lt, true, if◌then◌else◌, Option, Some, None, is_some, Result, Ok, Err, List, [], ◌∷◌, ◌++◌, length, codes, take, get_or, ◌⊎◌, inl, inr, refl, sym, ap, subst, ◌∙◌, append_assoc, append-nil, arith, length-append}
use Rattle.std.specs.Result.{IfOk, MatchResult}
use Rattle.pl_units.specs.declared.Refusal.{Refusal}
use Rattle.pl_units.specs.declared.Refusal.TheVariants.{Fault, NoMemory}
use Rattle.std.specs.List.{count_by, position_or_len, before_first, after_first}
use Rattle.std.specs.Option.{option_map, option_and_then, ok_or}
use Rattle.std.specs.Str.{bytes_eq}
use Rattle.std.proofs.lemmas.Bool.{cases_Bool, cond-true, cond-false}
use Rattle.std.proofs.lemmas.Bool.Decides.{nat_tests}
use Rattle.std.proofs.lemmas.Grind.{common_steps}
use Rattle.std.proofs.lemmas.List.Sums.{split_at_first, fails_before_first, passes_at_first}
use Rattle.pl_edit.specs.Data.{Data}
use Rattle.pl_script.specs.declared.fault.ScriptFault.{ScriptFault}
use Rattle.pl_script.specs.declared.fault.ScriptFault.TheVariants.{NoHead, BadLine, SameData, CutData, Stuck}
use Rattle.pl_script.specs.Outcomes.{and_then, mapped}
use Rattle.pl_script.specs.Lines.{line_text, line_words}
use Rattle.pl_script.specs.Forms.{whole_of}
use Rattle.pl_script.specs.Orders.{block_named, one_of}
use Rattle.pl_script.specs.Rotation.{stuck_line}
use Rattle.pl_script.specs.Script.{Script, Breach, breach, is_block_end, with_ends, is_data, data_name, body_of, named_block, block_in, workers_number, workers_in, is_head, script_in}
use Rattle.pl_script.specs.Grammar.{counts, is_workers, is_empty, sets_workers, begins_block, IsBlock, IsOther, IsBeginning, head, passed, workers, block, command, IsScriptText, IsFirstBreach, nothing, no_head, bad_workers, bad_block, bad_command, stuck}
use Rattle.pl_script.specs.Reading.{Gives}
use Rattle.pl_script.proofs.Told.{IsRead, IsRefused, line_told}
use Rattle.pl_script.proofs.Texts.{both_true, said_free, said_stuck, script_read, breach_named}

-- the lines are a script's, or have a first breach, as they are read
abbrev pub Reads : List (List ℕ) → Type 0
Reads lines = MatchResult (script_in lines) (IsScriptText lines) (λ b. IsFirstBreach lines b.line b.fault)

script_reads : (lines : List (List ℕ)) (script : Script) → IsScriptText lines script → Reads lines
script_reads lines script h = subst (λ said. MatchResult said (IsScriptText lines) (λ b. IsFirstBreach lines b.line b.fault)) (sym (script_read lines script h)) h

breach_reads : (lines : List (List ℕ)) (number : ℕ) (fault : ScriptFault) → IsFirstBreach lines number fault → Reads lines
breach_reads lines number fault h = subst (λ said. MatchResult said (IsScriptText lines) (λ b. IsFirstBreach lines b.line b.fault)) (sym (breach_named lines number fault h)) h

said_reads : (lines : List (List ℕ)) (script : Script) → IsBeginning lines script → (told : Option ℕ) → stuck_line script.lines ≡ told → Reads lines
said_reads lines script h None e = script_reads lines script (record { says = h; free = said_free lines script h e })
said_reads lines script h (Some number) e = breach_reads lines number Stuck (stuck lines script number h (said_stuck lines script number h e))

-- a line of workers gives a number or a fault

workers_number_some : (words : List (List ℕ)) → workers_number words ≡ Ok None → ⊥
workers_number_some words e = by (option_and_then (λ word. whole_of 8 word) (one_of words)) e
  where
    by : (o : Option ℕ) → mapped (λ n. Some n) (ok_or o BadLine) ≡ Ok None → ⊥
    by None e = absurd (cc)
    by (Some n) e = absurd (cc)

workers_in_some : (words : List (List ℕ)) → is_workers words ≡ true → workers_in words ≡ Ok None → ⊥
workers_in_some [] w e = absurd (cc)
workers_in_some (word ∷ words) w e = workers_number_some words (sym (cond-true (bytes_eq word (codes "workers")) _ _ w) ∙ e)

-- a block that is read is a part of the lines

pub record Found (blocks : List Data) (first : List ℕ) (more : List (List ℕ)) (data_block : Data) : Type 0 where
  pub part : List (List ℕ)
  pub rest : List (List ℕ)
  pub all : first ∷ more ≡ part ++ rest
  pub shorter : length rest ≤ length more
  pub is : IsBlock part data_block
  pub new : block_named blocks data_block.name ≡ None

abbrev value : {X E : Type 0} → X → Result X E → X
value x (Ok y) = y
value x (Err e) = x

pub ok_is : {X E : Type 0} (said : Result X E) (x y : X) → said ≡ Ok x → said ≡ Ok y → x ≡ y
ok_is said x y e f = ap (value x) (sym e ∙ f)

pub named_found : (blocks : List Data) (first : List ℕ) (more : List (List ℕ)) (data_block : Data) (name : List ℕ) → is_data (line_words first) ≡ true → data_name (line_words first) ≡ Ok name → block_named blocks name ≡ None
    → ok_or (option_map (λ body. record { name = name; bytes = with_ends body }) (body_of more)) CutData ≡ Ok data_block → Found blocks first more data_block
named_found blocks first more data_block name starts named new e =
    elim (cases_Bool (nat_lt (position_or_len is_block_end more) (length more))) [
      | inl within ↦
          let comes : position_or_len is_block_end more < length more = grind (arith, nat_tests, within) in
          let body = before_first is_block_end more in
          let last = get_or more (position_or_len is_block_end more) [] in
          let rest = after_first is_block_end more in
          let lines : more ≡ body ++ last ∷ rest = split_at_first is_block_end more [] comes in
          let read : record { name = name; bytes = with_ends body } ≡ data_block =
          ok_is _ _ data_block ((ap (λ o. ok_or (option_map (λ b. record { name = name; bytes = with_ends b }) (option_map (λ n. take n more) o)) CutData) (cond-true (nat_lt (position_or_len is_block_end more) (length more)) _ _ within))) e in
          record {
            part = first ∷ (body ++ last ∷ []);
            rest = rest;
            all = ap (λ ls. first ∷ ls) (lines ∙ sym (append_assoc body (last ∷ []) rest));
            shorter = omega (arith, ap length lines ∙ length-append body (last ∷ rest));
            is = record {
              first = first;
              body = body;
              last = last;
              all = refl;
              data_line = starts;
              name = named ∙ ap (λ b. Ok b.name) read;
              inner = λ k d m. let k' = fails_before_first is_block_end more k d (grind (arith, common_steps)) in grind (arith, common_steps);
              end = passes_at_first is_block_end more [] comes;
              bytes = ap (λ b. b.bytes) (sym read);
            };
            new = ap (λ b. block_named blocks b.name) (sym read) ∙ new;
          }
      | inr never ↦
          let cut : Err CutData ≡ Ok data_block = sym (ap (λ o. ok_or (option_map (λ b. record { name = name; bytes = with_ends b }) (option_map (λ n. take n more) o)) CutData) (cond-false (nat_lt (position_or_len is_block_end more) (length more)) _ _ never)) ∙ e in
          absurd (cc)
    ]

block_found : (blocks : List Data) (first : List ℕ) (more : List (List ℕ)) (data_block : Data) → is_data (line_words first) ≡ true → block_in blocks (line_words first) more ≡ Ok data_block → Found blocks first more data_block
block_found blocks first more data_block starts e = by_name (data_name (line_words first)) refl e
  where
    by_block : (name : List ℕ) (o : Option Data) → data_name (line_words first) ≡ Ok name → block_named blocks name ≡ o
        → (if is_some o then Err SameData else ok_or (option_map (λ body. record { name = name; bytes = with_ends body }) (body_of more)) CutData) ≡ Ok data_block → Found blocks first more data_block
    by_block name None named new e = named_found blocks first more data_block name starts named new e
    by_block name (Some other) named new e = absurd (cc)

    by_name : (said : Result (List ℕ) ScriptFault) → data_name (line_words first) ≡ said → and_then said (named_block blocks more) ≡ Ok data_block → Found blocks first more data_block
    by_name (Ok name) named e = by_block name (block_named blocks name) named refl e
    by_name (Err fault) named e = absurd (cc)

-- on from lines of a script, where any such lines with so many further ones are read

abbrev pub GoesOn : ℕ → Type 0
GoesOn most = (before : List (List ℕ)) (script : Script) (rest : List (List ℕ)) → length rest ≤ most → IsBeginning before script → Reads (before ++ rest)

module _ (most : ℕ) (go_on : GoesOn most) (before : List (List ℕ)) (script : Script) (line : List ℕ) (rest : List (List ℕ)) (fewer : length rest ≤ most) (h : IsBeginning before script) where
  one_on : (next : Script) → IsBeginning (before ++ line ∷ []) next → Reads (before ++ line ∷ rest)
  one_on next is = subst Reads (append_assoc before (line ∷ []) rest) (go_on (before ++ line ∷ []) next rest fewer is)

  by_workers : sets_workers before (line_words line) ≡ true → (said : Result (Option ℕ) ScriptFault) → workers_in (line_words line) ≡ said → Reads (before ++ line ∷ rest)
  by_workers sets (Ok (Some n)) e = one_on _ (workers before script line n h sets e)
  by_workers sets (Ok None) e = absurd (workers_in_some (line_words line) (both_true (count_by counts before == 1) (is_workers (line_words line)) sets).1 e)
  by_workers sets (Err fault) e = breach_reads (before ++ line ∷ rest) (length before + 1) fault (bad_workers before script line rest fault h sets e)

  by_block : begins_block script (line_words line) ≡ true → (said : Result Data ScriptFault) → block_in script.blocks (line_words line) rest ≡ said → Reads (before ++ line ∷ rest)
  by_block begins (Ok data_block) e =
      let t = both_true (is_empty script.lines) (is_data (line_words line)) begins in
      let found : Found script.blocks line rest data_block = block_found script.blocks line rest data_block t.1 e in
      subst Reads (append_assoc before found.part found.rest ∙ ap (λ ls. before ++ ls) (sym found.all))
      (go_on (before ++ found.part) _ found.rest (omega (arith, found.shorter, fewer)) (block before script found.part data_block h t.0 found.is found.new))
  by_block begins (Err fault) e = breach_reads (before ++ line ∷ rest) (length before + 1) fault (bad_block before script line rest fault h begins e)

  by_command : IsOther before script line → IsRead script.blocks (length script.lines) (length before + 1) (line_text line) ⊎ IsRefused script.blocks (length script.lines) (length before + 1) (line_text line) → Reads (before ++ line ∷ rest)
  by_command other (inl r) = one_on _ (command before script line r.session r.order h other r.is r.few)
  by_command other (inr r) = breach_reads (before ++ line ∷ rest) (length before + 1) r.fault (bad_command before script line rest r.fault h other r.is)

  pub line_reads : Reads (before ++ line ∷ rest)
  line_reads =
      elim (cases_Bool (counts line)) [
        | inl here ↦ elim (cases_Bool (sets_workers before (line_words line))) [
          | inl sets ↦ by_workers sets (workers_in (line_words line)) refl
          | inr no_workers ↦ elim (cases_Bool (begins_block script (line_words line))) [
            | inl begins ↦ by_block begins (block_in script.blocks (line_words line) rest) refl
            | inr no_block ↦ by_command (record { counts_too = here; no_workers = no_workers; no_block = no_block }) (line_told script.blocks (length script.lines) (length before + 1) (line_text line))
          ]
        ]
        | inr over ↦ one_on script (passed before script line h over)
      ]

pub reads_on : (most : ℕ) → GoesOn most
reads_on most before script [] le h = subst Reads (sym (append-nil before)) (said_reads before script h (stuck_line script.lines) refl)
reads_on zero before script (line ∷ rest) le h = absurd (omega (arith, le))
reads_on (suc most) before script (line ∷ rest) le h = line_reads most (reads_on most) before script line rest (omega (arith, le)) h

pub one_reading : (lines : List (List ℕ)) → Reads lines
one_reading [] = nothing
one_reading (line ∷ lines) =
    elim (cases_Bool (is_head (line_words line))) [
      | inl first ↦ reads_on (length lines) (line ∷ []) _ lines (omega arith) (head line first)
      | inr other ↦ breach_reads (line ∷ lines) 1 NoHead (no_head line lines other)
    ]

pub its_script : (lines : List (List ℕ)) (script : Script) → script_in lines ≡ Ok script → IsScriptText lines script
its_script lines script e = subst (λ said. MatchResult said (IsScriptText lines) (λ b. IsFirstBreach lines b.line b.fault)) e (one_reading lines)

pub its_breach : (lines : List (List ℕ)) (number : ℕ) (fault : ScriptFault) → script_in lines ≡ breach number fault → IsFirstBreach lines number fault
its_breach lines number fault e = subst (λ said. MatchResult said (IsScriptText lines) (λ b. IsFirstBreach lines b.line b.fault)) e (one_reading lines)

-- what a call gives, in the words of the lines

abbrev refusal : ℕ → ScriptFault → Result Script Breach → Refusal ScriptFault
refusal number fault (Ok script) = Fault number fault
refusal number fault (Err b) = Fault b.line b.fault

module _ (lines : List (List ℕ)) where
  pub gives_script : (result : Result Script (Refusal ScriptFault)) → Gives result (script_in lines) → IfOk result (IsScriptText lines)
  gives_script (Ok script) g = its_script lines script g
  gives_script (Err e) g = tt

  pub gives_taken : (result : Result Script (Refusal ScriptFault)) → Gives result (script_in lines) → (script : Script) → IsScriptText lines script → MatchResult result (λ read. read ≡ script) (λ e. e ≡ NoMemory)
  gives_taken (Ok read) g script h = ok_is (script_in lines) read script g (script_read lines script h)
  gives_taken (Err (Fault number fault)) g script h =
      let both : breach number fault ≡ Ok script = sym g ∙ script_read lines script h in
      absurd (cc)
  gives_taken (Err NoMemory) g script h = refl

  pub gives_refused : (result : Result Script (Refusal ScriptFault)) → Gives result (script_in lines) → (number : ℕ) (fault : ScriptFault) → result ≡ Err (Fault number fault) → IsFirstBreach lines number fault
  gives_refused result g number fault e = its_breach lines number fault (subst (λ r. Gives r (script_in lines)) e g)

  breaches_same : (number other : ℕ) (fault more : ScriptFault) → script_in lines ≡ breach number fault → script_in lines ≡ breach other more → Fault number fault ≡ Fault other more
  breaches_same number other fault more e f = ap (λ said. refusal number fault said) (sym e ∙ f)

  pub gives_named : (result : Result Script (Refusal ScriptFault)) → Gives result (script_in lines) → (number : ℕ) (fault : ScriptFault) → IsFirstBreach lines number fault → MatchResult result (λ _. ⊥) (λ e. (e ≡ Fault number fault) ⊎ (e ≡ NoMemory))
  gives_named (Ok script) g number fault h =
      let both : Ok script ≡ breach number fault = sym g ∙ breach_named lines number fault h in
      absurd (cc)
  gives_named (Err (Fault other more)) g number fault h = inl (breaches_same other number more fault g (breach_named lines number fault h))
  gives_named (Err NoMemory) g number fault h = inr refl
