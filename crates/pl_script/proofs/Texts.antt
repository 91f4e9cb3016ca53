-- Reading goes on behind the lines of a script, and stops at a first breach.
use Rattle.std.proofs.Common.{◌≡◌, ℕ, suc, ◌+◌, ◌==◌, ◌<◌, ◌≤◌, nat_lt, Bool, true, false, not, cond, if◌then◌else◌, ◌&&◌, Some, None, is_some, Ok, Err, List, [], ◌∷◌, ◌++◌, length, codes, take, drop, All, refl, sym, ap, subst, ◌∙◌, append_assoc, append-nil, arith, length-append}
use Rattle.std.specs.List.{count_by, position, position_or_len}
use Rattle.std.specs.Option.{option_map, ok_or}
use Rattle.std.specs.Str.{bytes_eq}
use Rattle.std.proofs.lemmas.Bool.{cond-true, cond-false}
use Rattle.std.proofs.lemmas.Bool.Decides.{nat_tests}
use Rattle.std.proofs.lemmas.Slice.Eq.{bytes_eq-Decides}
use Rattle.std.proofs.lemmas.List.Sums.{sum_by-cons, sum_by-append}
use Rattle.pl_edit.specs.Data.{Data}
use Rattle.pl_script.specs.declared.script.Line.{Line}
use Rattle.pl_script.specs.declared.fault.ScriptFault.{ScriptFault}
use Rattle.pl_script.specs.declared.fault.ScriptFault.TheVariants.{SameData, CutData}
use Rattle.pl_script.specs.Outcomes.{and_then}
use Rattle.pl_script.specs.Lines.{line_text, line_words, is_passed_over, begins_comment}
use Rattle.pl_script.specs.Orders.{block_named}
use Rattle.pl_script.specs.Script.{Script, breach, is_block_end, with_ends, is_data, body_of, named_block, block_in, with_workers, is_head, beginning_in, unless_at, unless_stuck, script_in}
use Rattle.pl_script.specs.Stuck.{IsFree, IsStuckAt}
use Rattle.pl_script.specs.Rotation.{stuck_line}
use Rattle.pl_script.specs.Grammar.{counts, is_workers, is_empty, sets_workers, IsBlock, IsBeginning, head, passed, workers, block, command, IsFirstBreach, nothing, no_head, bad_workers, bad_block, bad_command, stuck, IsScriptText}
use Rattle.pl_script.proofs.Courses.{Tells}
use Rattle.pl_script.proofs.Rounds.{line_tells}
use Rattle.pl_script.proofs.Sessions.{said_sessions}
use Rattle.pl_script.proofs.Told.{command_read, fault_read}
use Rattle.pl_script.proofs.BlockBodies.{first_end, take_body, drop_body}
use Rattle.pl_script.proofs.Resumed.{behind, resume, resume_passed, resume_workers, resume_bad_workers, resume_other, data_counts, workers_count, behind_block_read, behind_bad_block, behind_command, behind_bad_command}

pub both_true : (a b : Bool) → (a && b) ≡ true → (a ≡ true) × (b ≡ true)
both_true true b e = (refl, e)
both_true false b e = absurd (cc)

head_counts : (words : List (List ℕ)) → is_head words ≡ true → is_passed_over words ≡ false
head_counts [] e = absurd (cc)
head_counts (a ∷ []) e = absurd (cc)
head_counts (a ∷ b ∷ []) e = ap begins_comment ((bytes_eq-Decides a (codes "plater")).0 (both_true (bytes_eq a (codes "plater")) (bytes_eq b (codes "1")) e).0)
head_counts (a ∷ b ∷ c ∷ words) e = absurd (cc)

-- how many lines count

counted_one : (line : List ℕ) (more : List (List ℕ)) → counts line ≡ true → count_by counts (line ∷ more) ≡ 1 + count_by counts more
counted_one line more e = sum_by-cons (λ l. cond (counts l) 1 0) line more ∙ ap (λ b. cond b 1 0 + count_by counts more) e

passed_one : (line : List ℕ) (more : List (List ℕ)) → counts line ≡ false → count_by counts (line ∷ more) ≡ 0 + count_by counts more
passed_one line more e = sum_by-cons (λ l. cond (counts l) 1 0) line more ∙ ap (λ b. cond b 1 0 + count_by counts more) e

counted : (before : List (List ℕ)) (line : List ℕ) (more : List (List ℕ)) → counts line ≡ true → count_by counts (before ++ line ∷ more) ≡ count_by counts before + (1 + count_by counts more)
counted before line more e = sum_by-append (λ l. cond (counts l) 1 0) before (line ∷ more) ∙ ap (λ n. count_by counts before + n) (counted_one line more e)

uncounted : (before : List (List ℕ)) (line : List ℕ) → counts line ≡ false → count_by counts (before ++ line ∷ []) ≡ count_by counts before
uncounted before line e = sum_by-append (λ l. cond (counts l) 1 0) before (line ∷ []) ∙ ap (λ n. count_by counts before + n) (passed_one line [] e) ∙ omega arith

abbrev pub IsBare : Script → Type 0
IsBare script = (script.workers ≡ 0) × (script.blocks ≡ []) × (script.lines ≡ [])

not_one : (n : ℕ) → 2 ≤ n → (n == 1) ≡ false
not_one n le = grind (arith, nat_tests)

not_bare : {X : Type 0} (n : ℕ) → 2 ≤ n → (n == 1) ≡ true → X
not_bare n le e = absurd (grind (arith, nat_tests))

-- at least the head counts, and while it alone does, nothing was read
abbrev pub Starts : List (List ℕ) → Script → Type 0
Starts lines script = (1 ≤ count_by counts lines) × ((count_by counts lines == 1) ≡ true → IsBare script)

more_count : (before : List (List ℕ)) (line : List ℕ) (more : List (List ℕ)) → 1 ≤ count_by counts before → counts line ≡ true → 2 ≤ count_by counts (before ++ line ∷ more)
more_count before line more some e = omega (arith, some, counted before line more e)

starts_more : (before : List (List ℕ)) (line : List ℕ) (more : List (List ℕ)) (script : Script) → 1 ≤ count_by counts before → counts line ≡ true → Starts (before ++ line ∷ more) script
starts_more before line more script some e =
    let two : 2 ≤ count_by counts (before ++ line ∷ more) = more_count before line more some e in
    (omega (arith, two), not_bare _ two)

pub workers_line_counts : (before : List (List ℕ)) (line : List ℕ) → sets_workers before (line_words line) ≡ true → counts line ≡ true
workers_line_counts before line e = ap not (workers_count (line_words line) (both_true (count_by counts before == 1) (is_workers (line_words line)) e).1)

pub data_line_counts : (line : List ℕ) → is_data (line_words line) ≡ true → counts line ≡ true
data_line_counts line e = ap not (data_counts (line_words line) e)

pub starts : (lines : List (List ℕ)) (script : Script) → IsBeginning lines script → Starts lines script
starts _ _ (head line h) =
    let one = counted_one line [] (ap not (head_counts (line_words line) h)) in
    (omega (arith, one), λ e. (refl, refl, refl))
starts _ _ (passed before script line h e) = subst (λ n. (1 ≤ n) × ((n == 1) ≡ true → IsBare script)) (sym (uncounted before line e)) (starts before script h)
starts _ _ (workers before script line number h sets is) = starts_more before line [] _ (starts before script h).0 (workers_line_counts before line sets)
starts _ _ (block before script part data_block h none is new) =
    let After : Script = record { workers = script.workers; blocks = script.blocks ++ data_block ∷ []; lines = script.lines } in
    subst (λ p. Starts (before ++ p) After) (sym is.all) (starts_more before is.first (is.body ++ is.last ∷ []) After (starts before script h).0 (data_line_counts is.first is.data_line))
starts _ _ (command before script line session order h other is few) = starts_more before line [] _ (starts before script h).0 other.counts_too

-- where the lines go on

same_resume : (script : Script) (rest : List (List ℕ)) (a b : Bool) (m n : ℕ) → a ≡ b → m ≡ n → resume a m script rest ≡ resume b n script rest
same_resume script rest a b m n p q = λ i. resume (p i) (q i) script rest

pub longer : (before : List (List ℕ)) (line : List ℕ) → length (before ++ line ∷ []) + 1 ≡ (length before + 1) + 1
longer before line = omega (arith, length-append before (line ∷ []))

apart_words : (words : List (List ℕ)) → is_data words ≡ true → is_workers words ≡ false
apart_words [] e = refl
apart_words (word ∷ words) e = ap (λ w. bytes_eq w (codes "workers")) ((bytes_eq-Decides word (codes "data")).0 e)

and_false : (a b : Bool) → b ≡ false → (a && b) ≡ false
and_false true b e = e
and_false false b e = refl

pub empty_is : (lines : List Line) → is_empty lines ≡ true → lines ≡ []
empty_is [] e = refl
empty_is (c ∷ cs) e = absurd (cc)

-- the block of a part is found behind its data line

pub body_is : (body : List (List ℕ)) (last : List ℕ) (rest : List (List ℕ)) → All (λ line. is_block_end line ≡ false) body → is_block_end last ≡ true → body_of (body ++ last ∷ rest) ≡ Some body
body_is body last rest inner end =
    let at : position_or_len is_block_end (body ++ last ∷ rest) ≡ length body = first_end body last rest inner end in
    let long : length (body ++ last ∷ rest) ≡ length body + length (last ∷ rest) = length-append body (last ∷ rest) in
    let within : position_or_len is_block_end (body ++ last ∷ rest) < length (body ++ last ∷ rest) = omega (arith, at, long) in
    let place : position is_block_end (body ++ last ∷ rest) ≡ Some (length body) = cond-true (nat_lt (position_or_len is_block_end (body ++ last ∷ rest)) (length (body ++ last ∷ rest))) _ _ (grind (arith, nat_tests, within)) ∙ ap Some at in
    ap (option_map (λ n. take n (body ++ last ∷ rest))) place ∙ ap Some (take_body body (last ∷ rest))

block_read : (blocks : List Data) (part : List (List ℕ)) (data_block : Data) (is : IsBlock part data_block) (rest : List (List ℕ)) → block_named blocks data_block.name ≡ None → block_in blocks (line_words is.first) (is.body ++ is.last ∷ rest) ≡ Ok data_block
block_read blocks part data_block is rest new =
    let lines = is.body ++ is.last ∷ rest in
    ap (λ said. and_then said (named_block blocks lines)) is.name
    ∙ ap (λ o. if is_some o then Err SameData else ok_or (option_map (λ body. record { name = data_block.name; bytes = with_ends body }) (body_of lines)) CutData) new
    ∙ ap (λ o. ok_or (option_map (λ body. record { name = data_block.name; bytes = with_ends body }) o) CutData) (body_is is.body is.last rest is.inner is.end)
    ∙ ap (λ b. Ok (record { name = data_block.name; bytes = b })) (sym is.bytes)

resume_block : (only : Bool) (number : ℕ) (script : Script) (part : List (List ℕ)) (data_block : Data) (is : IsBlock part data_block) (rest : List (List ℕ)) → (only ≡ true → IsBare script) → is_empty script.lines ≡ true → block_named script.blocks data_block.name ≡ None
    → resume only number script (is.first ∷ (is.body ++ is.last ∷ rest)) ≡ resume false (number + length part) (record { workers = script.workers; blocks = script.blocks ++ data_block ∷ []; lines = script.lines }) rest
resume_block only number script part data_block is rest bare none new =
    let lines = is.body ++ is.last ∷ rest in
    let more = script.blocks ++ data_block ∷ [] in
    let at : position_or_len is_block_end lines ≡ length is.body = first_end is.body is.last rest is.inner is.end in
    let long : length part ≡ suc (length (is.body ++ is.last ∷ [])) = ap length is.all in
    let count : (number + 1) + (position_or_len is_block_end lines + 1) ≡ number + length part = omega (arith, at, long, length-append is.body (is.last ∷ [])) in
    let left : drop (position_or_len is_block_end lines + 1) lines ≡ rest = ap (λ n. drop (n + 1) lines) at ∙ drop_body is.body is.last rest in
    resume_other only number script is.first lines (data_line_counts is.first is.data_line) (and_false only (is_workers (line_words is.first)) (apart_words (line_words is.first) is.data_line)) bare
    ∙ ap (λ ls. with_workers script.workers (behind number script.blocks ls (is.first ∷ lines))) (empty_is script.lines none)
    ∙ ap (with_workers script.workers) (behind_block_read number script.blocks is.first lines data_block is.data_line (block_read script.blocks part data_block is rest new))
    ∙ (λ i. with_workers script.workers (behind (count i) more [] (left i)))
    ∙ ap (λ ls. with_workers script.workers (behind (number + length part) more ls rest)) (sym (empty_is script.lines none))

pub part_first : (before part : List (List ℕ)) (data_block : Data) (is : IsBlock part data_block) (rest : List (List ℕ)) → (before ++ part) ++ rest ≡ before ++ (is.first ∷ (is.body ++ is.last ∷ rest))
part_first before part data_block is rest =
    append_assoc before part rest
    ∙ ap (λ p. before ++ (p ++ rest)) is.all
    ∙ ap (λ p. before ++ (is.first ∷ p)) (append_assoc is.body (is.last ∷ []) rest)

pub resumed : (lines : List (List ℕ)) (script : Script) → IsBeginning lines script → (rest : List (List ℕ)) → beginning_in (lines ++ rest) ≡ resume (count_by counts lines == 1) (length lines + 1) script rest
resumed _ _ (head line h) rest =
    let one : (count_by counts (line ∷ []) == 1) ≡ true = ap (λ n. n == 1) (counted_one line [] (ap not (head_counts (line_words line) h))) in
    cond-true (is_head (line_words line)) _ _ h ∙ ap (λ b. resume b 2 (record { workers = 0; blocks = []; lines = [] }) rest) (sym one)
resumed _ _ (passed before script line h e) rest =
    ap beginning_in (append_assoc before (line ∷ []) rest)
    ∙ resumed before script h (line ∷ rest)
    ∙ resume_passed (count_by counts before == 1) (length before + 1) script line rest e
    ∙ same_resume script rest _ _ _ _ (ap (λ n. n == 1) (sym (uncounted before line e))) (sym (longer before line))
resumed _ _ (workers before script line number h sets is) rest =
    let t = both_true (count_by counts before == 1) (is_workers (line_words line)) sets in
    let s = starts before script h in
    let c = workers_line_counts before line sets in
    ap beginning_in (append_assoc before (line ∷ []) rest)
    ∙ resumed before script h (line ∷ rest)
    ∙ ap (λ b. resume b (length before + 1) script (line ∷ rest)) t.0
    ∙ resume_workers (length before + 1) script line rest number c is (s.1 t.0).1 (s.1 t.0).2
    ∙ same_resume _ rest _ _ _ _ (sym (not_one _ (more_count before line [] s.0 c))) (sym (longer before line))
resumed _ _ (block before script part data_block h none is new) rest =
    let s = starts before script h in
    let two : 2 ≤ count_by counts (before ++ part) = subst (λ p. 2 ≤ count_by counts (before ++ p)) (sym is.all) (more_count before is.first (is.body ++ is.last ∷ []) s.0 (data_line_counts is.first is.data_line)) in
    ap beginning_in (part_first before part data_block is rest)
    ∙ resumed before script h (is.first ∷ (is.body ++ is.last ∷ rest))
    ∙ resume_block (count_by counts before == 1) (length before + 1) script part data_block is rest s.1 none new
    ∙ same_resume _ rest _ _ _ _ (sym (not_one _ two)) (omega (arith, length-append before part))
resumed _ _ (command before script line session order h other is few) rest =
    let c : Line = record { number = length before + 1; session = session; command = order } in
    let read = command_read script.blocks (length script.lines) (length before + 1) (line_text line) session order is few in
    let s = starts before script h in
    ap beginning_in (append_assoc before (line ∷ []) rest)
    ∙ resumed before script h (line ∷ rest)
    ∙ resume_other (count_by counts before == 1) (length before + 1) script line rest other.counts_too other.no_workers s.1
    ∙ ap (with_workers script.workers) (behind_command (length before + 1) script.blocks script.lines line rest c other.counts_too other.no_block read)
    ∙ same_resume _ rest _ _ _ _ (sym (not_one _ (more_count before line [] s.0 other.counts_too))) (sym (longer before line))

behind_end : (number : ℕ) (blocks : List Data) (lines : List Line) → behind number blocks lines [] ≡ Ok (blocks, lines)
behind_end number blocks [] = refl
behind_end number blocks (c ∷ cs) = ap (λ ls. Ok (blocks, ls)) (append-nil (c ∷ cs))

resume_end : (only : Bool) (number : ℕ) (script : Script) → (only ≡ true → IsBare script) → resume only number script [] ≡ Ok script
resume_end true number script bare =
    let b = bare refl in
    λ i. Ok (record { workers = sym b.0 i; blocks = sym b.1 i; lines = sym b.2 i })
resume_end false number script bare = ap (with_workers script.workers) (behind_end number script.blocks script.lines)

-- the lines of a script are read
pub beginning_read : (lines : List (List ℕ)) (script : Script) → IsBeginning lines script → beginning_in lines ≡ Ok script
beginning_read lines script h =
    ap beginning_in (sym (append-nil lines)) ∙ resumed lines script h [] ∙ resume_end (count_by counts lines == 1) (length lines + 1) script (starts lines script h).1

-- where its sessions don't wait for one another, it is a script
stuck_told : (lines : List (List ℕ)) (script : Script) → IsBeginning lines script → Tells script.lines (stuck_line script.lines)
stuck_told lines script h = line_tells script.lines (said_sessions lines script h)

pub said_free : (lines : List (List ℕ)) (script : Script) → IsBeginning lines script → stuck_line script.lines ≡ None → IsFree script.lines
said_free lines script h e = (stuck_told lines script h).free.0 e

pub said_stuck : (lines : List (List ℕ)) (script : Script) (number : ℕ) → IsBeginning lines script → stuck_line script.lines ≡ Some number → IsStuckAt script.lines number
said_stuck lines script number h e = ((stuck_told lines script h).stuck number).0 e

pub script_read : (lines : List (List ℕ)) (script : Script) → IsScriptText lines script → script_in lines ≡ Ok script
script_read lines script h = ap unless_stuck (beginning_read lines script h.says) ∙ ap (λ o. unless_at o script) ((stuck_told lines script h.says).free.1 h.free)

-- a first breach is named
pub breach_named : (lines : List (List ℕ)) (number : ℕ) (fault : ScriptFault) → IsFirstBreach lines number fault → script_in lines ≡ breach number fault
breach_named _ _ _ nothing = refl
breach_named _ _ _ (no_head line rest e) = ap unless_stuck (cond-false (is_head (line_words line)) _ _ e)
breach_named _ _ _ (stuck lines script number h is) = ap unless_stuck (beginning_read lines script h) ∙ ap (λ o. unless_at o script) (((stuck_told lines script h).stuck number).1 is)
breach_named _ _ _ (bad_workers before script line rest fault h sets is) =
    let t = both_true (count_by counts before == 1) (is_workers (line_words line)) sets in
    ap unless_stuck
    (resumed before script h (line ∷ rest)
    ∙ ap (λ b. resume b (length before + 1) script (line ∷ rest)) t.0
    ∙ resume_bad_workers (length before + 1) script line rest fault (workers_line_counts before line sets) is)
breach_named _ _ _ (bad_block before script line rest fault h begins is) =
    let t = both_true (is_empty script.lines) (is_data (line_words line)) begins in
    ap unless_stuck
    (resumed before script h (line ∷ rest)
    ∙ resume_other (count_by counts before == 1) (length before + 1) script line rest (data_line_counts line t.1) (and_false (count_by counts before == 1) (is_workers (line_words line)) (apart_words (line_words line) t.1)) (starts before script h).1
    ∙ ap (λ ls. with_workers script.workers (behind (length before + 1) script.blocks ls (line ∷ rest))) (empty_is script.lines t.0)
    ∙ ap (with_workers script.workers) (behind_bad_block (length before + 1) script.blocks line rest fault t.1 is))
breach_named _ _ _ (bad_command before script line rest fault h other is) =
    ap unless_stuck
    (resumed before script h (line ∷ rest)
    ∙ resume_other (count_by counts before == 1) (length before + 1) script line rest other.counts_too other.no_workers (starts before script h).1
    ∙ ap (with_workers script.workers) (behind_bad_command (length before + 1) script.blocks script.lines line rest fault other.counts_too other.no_block (fault_read script.blocks (length script.lines) (length before + 1) (line_text line) fault is)))
