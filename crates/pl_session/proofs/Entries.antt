-- A history that grows by one entry.
use Rattle.std.proofs.Common.{◌≡◌, ℕ, ◌+◌, ◌&&◌, ◌⊎◌, inl, inr, cond, List, [], ◌∷◌, ◌++◌, refl, ap, subst, ◌∙◌}
use Rattle.std.specs.List.{filter, filter_map}
use Rattle.std.proofs.lemmas.List.Elements.{filter-append, filter_map-append}
use Rattle.std.proofs.lemmas.List.Sums.{sum_by-append, sum_by_push}
use Rattle.pl_machine.specs.declared.entry.Entry.{Entry}
use Rattle.pl_session.specs.Complete.{is_session, command_of, is_bye, is_start, commands_by, byes_by, runs_of, EachEntry}

module _ {A : Type 0} where
  not_empty : (before : List A) (x : A) (after : List A) → [] ≡ before ++ x ∷ after → ⊥
  not_empty [] x after e = cc
  not_empty (b ∷ before) x after e = cc

  -- an entry of a list with one more is the last, or stands in the list
  part_cases : (h : List A) (e : A) (before : List A) (x : A) (after : List A) → h ++ e ∷ [] ≡ before ++ x ∷ after
      → ((h ≡ before) × (e ≡ x)) ⊎ ((rest : List A) × (h ≡ before ++ x ∷ rest))
  part_cases [] e [] x after is = inl (refl, (let f : e ≡ x = cc in f))
  part_cases [] e (b ∷ before) x after is = absurd (not_empty before x after (let f : [] ≡ before ++ x ∷ after = cc in f))
  part_cases (y ∷ h) e [] x after is = inr (h, (let f : y ≡ x = cc in ap (λ z. z ∷ h) f))
  part_cases (y ∷ h) e (b ∷ before) x after is =
      let head : y ≡ b = cc in
      let tail : h ++ e ∷ [] ≡ before ++ x ∷ after = cc in
      elim (part_cases h e before x after tail) [
        | inl last ↦ inl ((let f : h ≡ before = last.0 in cc), last.1)
        | inr within ↦ inr (within.0, (let f : h ≡ before ++ x ∷ within.0 = within.1 in cc))
      ]

module _ {T P E R O J B : Type 0} where
  pub commands_append : (i : ℕ) (h es : List (Entry T P E R O J B)) → commands_by i (h ++ es) ≡ commands_by i h ++ commands_by i es
  commands_append i h es =
      ap (filter_map (λ e. command_of e.what)) (filter-append (λ e. is_session i e.actor) h es)
      ∙ filter_map-append (λ e. command_of e.what) (filter (λ e. is_session i e.actor) h) (filter (λ e. is_session i e.actor) es)

  pub commands_more : (i : ℕ) (h : List (Entry T P E R O J B)) (e : Entry T P E R O J B) → commands_by i (h ++ e ∷ []) ≡ commands_by i h ++ commands_by i (e ∷ [])
  commands_more i h e = commands_append i h (e ∷ [])

  pub byes_append : (i : ℕ) (h es : List (Entry T P E R O J B)) → byes_by i (h ++ es) ≡ byes_by i h + byes_by i es
  byes_append i h es = sum_by-append (λ e. cond (is_session i e.actor && is_bye e.what) 1 0) h es

  pub byes_more : (i : ℕ) (h : List (Entry T P E R O J B)) (e : Entry T P E R O J B) → byes_by i (h ++ e ∷ []) ≡ byes_by i h + cond (is_session i e.actor && is_bye e.what) 1 0
  byes_more i h e = sum_by_push (λ e. cond (is_session i e.actor && is_bye e.what) 1 0) h e

  pub runs_more : (h : List (Entry T P E R O J B)) (e : Entry T P E R O J B) → runs_of (h ++ e ∷ []) ≡ runs_of h + cond (is_start e.what) 1 0
  runs_more h e = sum_by_push (λ e. cond (is_start e.what) 1 0) h e

  pub each_none : (F : List (Entry T P E R O J B) → Entry T P E R O J B → Type 0) → EachEntry [] F
  each_none F before after e is = absurd (not_empty before e after is)

  pub each_more : (F : List (Entry T P E R O J B) → Entry T P E R O J B → Type 0) (h : List (Entry T P E R O J B)) (x : Entry T P E R O J B)
      → EachEntry h F → F h x → EachEntry (h ++ x ∷ []) F
  each_more F h x each last before after e is = elim (part_cases h x before e after is) [
    | inl here ↦ subst (λ b. F b e) here.0 (subst (F h) here.1 last)
    | inr within ↦ each before within.0 e within.1
  ]
