-- The sessions of a demo run one after another.
use Rattle.std.proofs.Common.{◌≡◌, All, ℕ, zero, suc, subst, ◌+◌, ◌-◌, ◌<◌, ◌≤◌, ◌==◌, inl, inr, Bool, true, false, cond, List, [], ◌∷◌, ◌++◌, length, refl, ap, sym, ◌∙◌, Some, arith, append_assoc}
use Rattle.std.specs.List.{slice_get, count_by, range_with_len}
use Rattle.std.specs.Prelude.{map}
use Rattle.std.proofs.lemmas.List.{get_or_past, map-append}
use Rattle.std.proofs.lemmas.List.Elements.{All-nil, All-cons, All-push, All-append, All-map}
use Rattle.std.proofs.lemmas.List.FromFn.{length-map-range_with_len, get_or-map-range_with_len, map-range_with_len_more}
use Rattle.std.proofs.lemmas.Bool.Decides.{eqb_tells}
use Rattle.pl_edit.specs.declared.edit.Edit.{Edit}
use Rattle.pl_machine.specs.declared.entry.Command.{Command}
use Rattle.pl_machine.specs.declared.entry.Command.TheVariants.{Edit as Edits, Apply, Export, After}
use Rattle.pl_relay.specs.Relay.{IsRelay}
use Rattle.pl_relay.specs.Exports.{is_export, EndsInExport}
use Rattle.pl_machine.specs.Calls.{NamesSession}
use Rattle.pl_runs.specs.Script.{IsCallable, commands_at}
use Rattle.pl_demo.specs.Numbers.{sessions_of, calls_of}
use Rattle.pl_demo.specs.Commands.{wait_commands, edits_of, edit_commands, session_commands, demo_commands}

pub own : (n i : ℕ) → 1 ≤ i → i ≤ sessions_of n → commands_at (demo_commands n) i ≡ session_commands n i
own n zero from to = absurd (omega (arith, from))
own n (suc i) from to = get_or-map-range_with_len (session_commands n) 1 (sessions_of n) i (suc i) [] (omega arith) (omega (arith, to))

none : (n i : ℕ) → sessions_of n < i → commands_at (demo_commands n) i ≡ []
none n zero out = absurd (omega (arith, out))
none n (suc i) out = get_or_past (demo_commands n) i [] (let long = length-map-range_with_len (session_commands n) 1 (sessions_of n) in omega (arith, long))

pub long : (n i : ℕ) → length (session_commands n i) ≡ calls_of i
long n i = either (i == 1) (After (i - 1) (calls_of (i - 1)))
  where
    either : (b : Bool) (wait : Command Edit) → length (cond b [] (wait ∷ []) ++ (edit_commands n i ++ Apply ∷ Export ∷ [])) ≡ cond b 5 6
    either true wait = refl
    either false wait = refl

few_calls : (b : Bool) → 5 ≤ cond b 5 6
few_calls true = omega arith
few_calls false = omega arith

first_waits : (n i : ℕ) → 1 ≤ i → slice_get (session_commands n (i + 1)) 0 ≡ Some (After i (length (session_commands n i)))
first_waits n i from = elim (eqb_tells (i + 1) 1) [
  | inl same ↦ absurd (omega (arith, same.1))
  | inr other ↦
      let back : i + 1 - 1 ≡ i = omega arith in
      ap (λ b. slice_get (cond b [] (After (i + 1 - 1) (calls_of (i + 1 - 1)) ∷ []) ++ (edit_commands n (i + 1) ++ Apply ∷ Export ∷ [])) 0) other.0
      ∙ ap (λ k. Some (After k (calls_of k))) back ∙ ap (λ k. Some (After i k)) (sym (long n i))
]

pub is_relay : (n : ℕ) → IsRelay (commands_at (demo_commands n)) (sessions_of n)
is_relay n = record {
  few = omega arith;
  some = λ i from to empty.
      let count = long n i in
      let low = few_calls (i == 1) in
      let same = ap length (sym (own n i from to) ∙ empty) in
      omega (arith, count, low, same);
  others = λ i out. none n i out;
  waits = λ i from below.
      ap (λ l. slice_get l 0) (own n (i + 1) (omega arith) (omega (arith, below))) ∙ first_waits n i from
      ∙ ap (λ l. Some (After i (length l))) (sym (own n i from (omega (arith, below))));
}

ends : (n i : ℕ) → EndsInExport (session_commands n i)
ends n i = record {
  one = either (i == 1) (i - 1) (calls_of (i - 1));
  front = wait_commands i ++ (edit_commands n i ++ Apply ∷ []);
  last = sym (append_assoc (wait_commands i) (edit_commands n i ++ Apply ∷ []) (Export ∷ []));
}
  where
    either : (b : Bool) (session calls : ℕ) → count_by is_export (cond b [] (After session calls ∷ []) ++ (edit_commands n i ++ Apply ∷ Export ∷ [])) ≡ 1
    either true session calls = refl
    either false session calls = refl

pub exports_last : (n i : ℕ) → 1 ≤ i → i ≤ sessions_of n → EndsInExport (commands_at (demo_commands n) i)
exports_last n i from to = moved (own n i from to) (ends n i)
  where
    moved : {xs ys : List (Command Edit)} → xs ≡ ys → EndsInExport ys → EndsInExport xs
    moved is e = record { one = ap (count_by is_export) is ∙ e.one; front = e.front; last = is ∙ e.last }

-- the commands of one session more
pub sessions_more : {A B : Type 0} (g : A → B) (f : ℕ → B) (old new : List A) (v : A) (k : ℕ) → map g old ≡ map f (range_with_len 1 k) → g v ≡ f (k + 1) → new ≡ old ++ v ∷ []
    → map g new ≡ map f (range_with_len 1 (k + 1))
sessions_more g f old new v k is one more =
    ap (map g) more ∙ map-append g old (v ∷ []) ∙ ap (λ l. l ++ g v ∷ []) is ∙ ap (λ x. map f (range_with_len 1 k) ++ x ∷ []) one
    ∙ sym (map-range_with_len_more f 1 k (k + 1) (omega arith))

few_sessions : (n : ℕ) → length (demo_commands n) ≤ 4
few_sessions n = let count = length-map-range_with_len (session_commands n) 1 (sessions_of n) in omega (arith, count)

most_calls : (b : Bool) → cond b 5 6 ≤ 6
most_calls true = omega arith
most_calls false = omega arith

no_wait : (n i : ℕ) → All NamesSession (edit_commands n i ++ Apply ∷ Export ∷ [])
no_wait n i =
    let edits : List Edit = edits_of n i in
    All-append NamesSession (edit_commands n i) (Apply ∷ Export ∷ []) (All-map NamesSession Edits edits (free edits)) (All-cons NamesSession Apply (Export ∷ []) tt (All-cons NamesSession Export [] tt (All-nil NamesSession)))
  where
    free : (edits : List Edit) → All (λ (e : Edit). NamesSession (Edits e)) edits
    free [] = All-nil (λ (e : Edit). NamesSession (Edits e))
    free (e ∷ edits) = All-cons (λ (e : Edit). NamesSession (Edits e)) e edits tt (free edits)

waits_for : (n i : ℕ) → 1 ≤ i → i ≤ 4 → All NamesSession (session_commands n i)
waits_for n i from to = elim (eqb_tells i 1) [
  | inl same ↦ subst (λ b. All NamesSession (cond b [] (After (i - 1) (calls_of (i - 1)) ∷ []) ++ (edit_commands n i ++ Apply ∷ Export ∷ []))) (sym same.0) (no_wait n i)
  | inr other ↦
      subst (λ b. All NamesSession (cond b [] (After (i - 1) (calls_of (i - 1)) ∷ []) ++ (edit_commands n i ++ Apply ∷ Export ∷ []))) (sym other.0)
      (All-cons NamesSession (After (i - 1) (calls_of (i - 1))) (edit_commands n i ++ Apply ∷ Export ∷ []) (grind (arith, from, to, other.1), omega (arith, to)) (no_wait n i))
]

-- a session of a demo has few commands, and waits for one of the sessions from 1 to 16
callable : (n i : ℕ) → 1 ≤ i → i ≤ 4 → IsCallable (session_commands n i)
callable n i from to = (let count = long n i in let few = most_calls (i == 1) in omega (arith, count, few), waits_for n i from to)

all_callable : (n k : ℕ) → k ≤ 4 → All IsCallable (map (session_commands n) (range_with_len 1 k))
all_callable n zero few = All-nil IsCallable
all_callable n (suc k) few =
    let more : k + 1 ≡ suc k = omega arith in
    subst (λ j. All IsCallable (map (session_commands n) (range_with_len 1 j))) more
    (subst (All IsCallable) (sym (map-range_with_len_more (session_commands n) 1 k (k + 1) (omega arith)))
    (All-push IsCallable (map (session_commands n) (range_with_len 1 k)) (session_commands n (k + 1)) (all_callable n k (omega (arith, few))) (callable n (k + 1) (omega arith) (omega (arith, few)))))

pub few_given : (given : List (List (Command Edit))) (n : ℕ) → given ≡ demo_commands n → length given ≤ 4
few_given given n is = let same = ap length is in omega (arith, same, few_sessions n)

pub callable_given : (given : List (List (Command Edit))) (n : ℕ) → given ≡ demo_commands n → All IsCallable given
callable_given given n is = subst (All IsCallable) (sym is) (all_callable n (sessions_of n) (omega arith))
