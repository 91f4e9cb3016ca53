-- The lines of a block.
use Rattle.std.proofs.Common.{◌≡◌, ℕ, ◌+◌, ◌<◌, true, false, not, nat_lt, Some, None, List, [], ◌∷◌, ◌++◌, length, take, drop, All, refl, sym, ap, subst, ◌∙◌, append_assoc, append-nil, arith, length-append}
use Rattle.std.specs.List.{position, position_or_len}
use Rattle.std.specs.Option.{option_map}
use Rattle.std.proofs.lemmas.Bool.{cond-true, cond-false}
use Rattle.std.proofs.lemmas.Bool.Decides.{nat_tests}
use Rattle.std.proofs.lemmas.Grind.{common_steps}
use Rattle.std.proofs.lemmas.List.Elements.{All-nil, All-cons, All-append, All-head, All-tail}
use Rattle.std.proofs.lemmas.List.Concat.{flat_map-append}
use Rattle.pl_script.specs.Script.{is_block_end, with_ends, body_of}

-- lines, none of them `.end`, were read from the front, and these are their bytes
pub record HasRead (lines rest : List (List ℕ)) (bytes : List ℕ) (count : ℕ) : Type 0 where
  pub body : List (List ℕ)
  pub all : lines ≡ body ++ rest
  pub none : All (λ line. is_block_end line ≡ false) body
  pub is : bytes ≡ with_ends body
  pub long : count ≡ length body

pub nothing_read : (lines : List (List ℕ)) → HasRead lines lines [] 0
nothing_read lines = record { body = []; all = refl; none = All-nil (λ line. is_block_end line ≡ false); is = refl; long = refl }

pub line_read : (lines before rest : List (List ℕ)) (bytes line : List ℕ) (count : ℕ) → HasRead lines before bytes count → before ≡ line ∷ rest → is_block_end line ≡ false → HasRead lines rest ((bytes ++ line) ++ 10 ∷ []) (count + 1)
line_read lines before rest bytes line count h e not_end = record {
  body = h.body ++ line ∷ [];
  all = h.all ∙ ap (λ l. h.body ++ l) e ∙ sym (append_assoc h.body (line ∷ []) rest);
  none = All-append (λ l. is_block_end l ≡ false) h.body (line ∷ []) h.none (All-cons (λ l. is_block_end l ≡ false) line [] not_end (All-nil (λ l. is_block_end l ≡ false)));
  is =
      append_assoc bytes line (10 ∷ [])
      ∙ ap (λ b. b ++ (line ++ 10 ∷ [])) h.is
      ∙ ap (λ b. with_ends h.body ++ b) (sym (append-nil (line ++ 10 ∷ [])))
      ∙ sym (flat_map-append (λ l. l ++ 10 ∷ []) h.body (line ∷ []));
  long = omega (arith, h.long, length-append h.body (line ∷ []));
}

-- the first end stands behind the body
pub first_end : (body : List (List ℕ)) (line : List ℕ) (rest : List (List ℕ)) → All (λ l. is_block_end l ≡ false) body → is_block_end line ≡ true → position_or_len is_block_end (body ++ line ∷ rest) ≡ length body
first_end [] line rest none end = cond-false (not (is_block_end line)) _ _ (ap not end)
first_end (l ∷ body) line rest none end =
    cond-true (not (is_block_end l)) _ _ (ap not (All-head (λ l. is_block_end l ≡ false) l body none))
    ∙ ap (λ n. 1 + n) (first_end body line rest (All-tail (λ l. is_block_end l ≡ false) l body none) end)
    ∙ omega arith

pub no_end : (body : List (List ℕ)) → All (λ l. is_block_end l ≡ false) body → position_or_len is_block_end body ≡ length body
no_end [] none = refl
no_end (l ∷ body) none =
    cond-true (not (is_block_end l)) _ _ (ap not (All-head (λ l. is_block_end l ≡ false) l body none))
    ∙ ap (λ n. 1 + n) (no_end body (All-tail (λ l. is_block_end l ≡ false) l body none))
    ∙ omega arith

pub take_body : (body : List (List ℕ)) (rest : List (List ℕ)) → take (length body) (body ++ rest) ≡ body
take_body [] rest = refl
take_body (l ∷ body) rest = ap (λ ls. l ∷ ls) (take_body body rest)

pub drop_body : (body : List (List ℕ)) (line : List ℕ) (rest : List (List ℕ)) → drop (length body + 1) (body ++ line ∷ rest) ≡ rest
drop_body [] line rest = refl
drop_body (l ∷ body) line rest = ap (λ n. drop n (l ∷ (body ++ line ∷ rest))) (omega arith) ∙ drop_more_one (length body + 1) l (body ++ line ∷ rest) ∙ drop_body body line rest
  where
    drop_more_one : (n : ℕ) (l : List ℕ) (ls : List (List ℕ)) → drop (1 + n) (l ∷ ls) ≡ drop n ls
    drop_more_one n l ls = grind (arith, common_steps)

pub body_ends : (lines before rest : List (List ℕ)) (bytes line : List ℕ) (count : ℕ) → HasRead lines before bytes count → before ≡ line ∷ rest → is_block_end line ≡ true → position_or_len is_block_end lines ≡ count
body_ends lines before rest bytes line count h e end = ap (position_or_len is_block_end) (h.all ∙ ap (λ l. h.body ++ l) e) ∙ first_end h.body line rest h.none end ∙ sym h.long

pub body_found : (lines before rest : List (List ℕ)) (bytes line : List ℕ) (count : ℕ) → HasRead lines before bytes count → before ≡ line ∷ rest → is_block_end line ≡ true → Some bytes ≡ option_map (λ body. with_ends body) (body_of lines)
body_found lines before rest bytes line count h e end =
    let all : lines ≡ h.body ++ line ∷ rest = h.all ∙ ap (λ l. h.body ++ l) e in
    let at : position_or_len is_block_end lines ≡ length h.body = ap (position_or_len is_block_end) all ∙ first_end h.body line rest h.none end in
    let long : length lines ≡ length h.body + length (line ∷ rest) = ap length all ∙ length-append h.body (line ∷ rest) in
    let within : position_or_len is_block_end lines < length lines = omega (arith, at, long) in
    let place : position is_block_end lines ≡ Some (length h.body) = cond-true (nat_lt (position_or_len is_block_end lines) (length lines)) _ _ (grind (arith, nat_tests, within)) ∙ ap Some at in
    ap Some h.is
    ∙ ap (λ b. Some (with_ends b)) (sym (take_body h.body (line ∷ rest)))
    ∙ ap (λ ls. Some (with_ends (take (length h.body) ls))) (sym all)
    ∙ sym (ap (λ o. option_map (λ body. with_ends body) (option_map (λ n. take n lines) o)) place)

pub rest_found : (lines before rest : List (List ℕ)) (bytes line : List ℕ) (count : ℕ) → HasRead lines before bytes count → before ≡ line ∷ rest → is_block_end line ≡ true → rest ≡ drop (position_or_len is_block_end lines + 1) lines
rest_found lines before rest bytes line count h e end =
    let all : lines ≡ h.body ++ line ∷ rest = h.all ∙ ap (λ l. h.body ++ l) e in
    sym (ap (λ n. drop (n + 1) lines) (body_ends lines before rest bytes line count h e end ∙ h.long) ∙ ap (drop (length h.body + 1)) all ∙ drop_body h.body line rest)

pub none_found : (lines before : List (List ℕ)) (bytes : List ℕ) (count : ℕ) → HasRead lines before bytes count → before ≡ [] → None ≡ option_map (λ body. with_ends body) (body_of lines)
none_found lines before bytes count h e =
    let all : lines ≡ h.body = h.all ∙ ap (λ l. h.body ++ l) e ∙ append-nil h.body in
    let at : position_or_len is_block_end lines ≡ length lines = ap (position_or_len is_block_end) all ∙ no_end h.body h.none ∙ ap length (sym all) in
    sym (ap (λ o. option_map (λ body. with_ends body) (option_map (λ n. take n lines) o)) (cond-false (nat_lt (position_or_len is_block_end lines) (length lines)) _ _ (grind (arith, nat_tests, at))))

pub line_read_as : (lines before rest : List (List ℕ)) (bytes line more : List ℕ) (count next : ℕ) → HasRead lines before bytes count → before ≡ line ∷ rest → is_block_end line ≡ false → more ≡ (bytes ++ line) ++ 10 ∷ [] → next ≡ count + 1 → HasRead lines rest more next
line_read_as lines before rest bytes line more count next h e not_end is_more is_next =
    let Bytes : List ℕ → Type 0 = λ b. HasRead lines rest b next in
    let Count : ℕ → Type 0 = λ n. HasRead lines rest ((bytes ++ line) ++ 10 ∷ []) n in
    subst Bytes (sym is_more) (subst Count (sym is_next) (line_read lines before rest bytes line count h e not_end))
