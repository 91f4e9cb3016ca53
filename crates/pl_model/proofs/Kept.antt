-- What a change of an object, and what settings, make of a plate.
use Rattle.std.proofs.Common.{◌≡◌, ℕ, List, [], ◌∷◌, ◌++◌, zero, suc, cond, true, false, Option, Some, None, Result, Ok, Err, slice_set, slice_index_or, refl, sym, ap, ◌∙◌}
use Rattle.std.specs.Option.{option_or, ok_or}
use Rattle.std.specs.Ordering.{eq_by_cmp}
use Rattle.std.specs.FinMap.{find, entries, get, get-entries, get-from_entries}
use Rattle.std.proofs.lemmas.List.{set-get_or}
use Rattle.pl_keys.specs.declared.key.Key.{Key}
use Rattle.pl_keys.specs.declared.value.Value.{Value}
use Rattle.pl_options.specs.KeyMap.{KeyMap, key_cmp}
use Rattle.pl_options.specs.Settings.{Settings}
use Rattle.pl_options.proofs.KeyMaps.{key_cmp_total, same_values}
use Rattle.pl_model.specs.declared.object.Object.{Object}
use Rattle.pl_edit.specs.declared.reply.EditReply.{EditReply}
use Rattle.pl_edit.specs.declared.reply.EditReply.TheVariants as reply
use Rattle.pl_edit.specs.declared.reply.EditRefusal.{EditRefusal}
use Rattle.pl_edit.specs.declared.reply.EditRefusal.TheVariants.{NoObject}
use Rattle.pl_model.specs.declared.stop.Stop.{Stop}
use Rattle.pl_model.specs.declared.stop.Stop.TheVariants.{Refused, NoMemory}
use Rattle.pl_model.specs.Contents.{Contents, with_place}
use Rattle.pl_edit.specs.Data.{Data}
use Rattle.pl_model.specs.Settings.{put_over}
use Rattle.pl_model.specs.Finding.{object_at, ini_in}
use Rattle.pl_model.specs.Outcomes.{Changed, given, in_object, configured}
use Rattle.pl_model.specs.Stops.{Makes, Changes}

set_twice : {X : Type 0} (xs : List X) (i : ℕ) (x y : X) → slice_set (slice_set xs i x) i y ≡ slice_set xs i y
set_twice [] i x y = refl
set_twice (z ∷ xs) zero x y = refl
set_twice (z ∷ xs) (suc i) x y = ap (λ ys. z ∷ ys) (set_twice xs i x y)

there : (o : Option Object) (object : Object) → Ok object ≡ ok_or o NoObject → o ≡ Some object
there (Some other) object e = cc
there None object e = cc

put_back : (old : Contents) (place : ℕ) (object : Object) → Ok object ≡ object_at old.places place → with_place old place (Some object) ≡ old
put_back old place object e =
    let is : slice_index_or old.places place None ≡ Some object = there _ object e in
    let same : slice_set old.places place (Some object) ≡ old.places = ap (slice_set old.places place) (sym is) ∙ set-get_or old.places place None in
    λ i. record { config = old.config; places = same i }

put_new : (old taken new : Contents) (place : ℕ) (object : Object) → taken ≡ with_place old place None → new ≡ with_place taken place (Some object) → with_place old place (Some object) ≡ new
put_new old taken new place object t n =
    (λ i. record { config = old.config; places = sym (set_twice old.places place None (Some object)) i }) ∙ ap (λ plate. with_place plate place (Some object)) (sym t) ∙ sym n

module _ (change : Object → Result Changed EditRefusal) (old : Contents) (place : ℕ) where
  pub change_made : (taken new : Contents) (object changed : Object) (result : Result EditReply Stop) → Ok object ≡ object_at old.places place → taken ≡ with_place old place None
      → Changes (change object) object changed result → new ≡ with_place taken place (Some changed) → Makes (in_object old place change) old new result
  change_made taken new object changed (Ok reply) e t h n =
      ap (λ found. given found (λ object. given (change object) (λ changed. Ok (record { plate = with_place old place (Some changed.object); reply = changed.reply })))) (sym e)
      ∙ ap (λ made. given made (λ changed. Ok (record { plate = with_place old place (Some changed.object); reply = changed.reply }))) h
      ∙ (λ i. Ok (record { plate = put_new old taken new place changed t n i; reply = reply }))
  change_made taken new object changed (Err (Refused refusal)) e t h n = (
    ap (λ found. given found (λ object. given (change object) (λ changed. Ok (record { plate = with_place old place (Some changed.object); reply = changed.reply })))) (sym e)
        ∙ ap (λ made. given made (λ changed. Ok (record { plate = with_place old place (Some changed.object); reply = changed.reply }))) h.0,
    sym (put_new old taken new place changed t n) ∙ ap (λ o. with_place old place (Some o)) h.1 ∙ put_back old place object e,
  )
  change_made taken new object changed (Err NoMemory) e t h n =
      sym (put_new old taken new place changed t n) ∙ ap (λ o. with_place old place (Some o)) h ∙ put_back old place object e

find_both : (es fs : List (Key × Value)) (q : Key) → find key_cmp q (es ++ fs) ≡ option_or (find key_cmp q es) (find key_cmp q fs)
find_both [] fs q = refl
find_both (e ∷ es) fs q =
    elim (eq_by_cmp key_cmp q e.0) as (λ b. cond b (Some e.1) (find key_cmp q (es ++ fs)) ≡ option_or (cond b (Some e.1) (find key_cmp q es)) (find key_cmp q fs)) [
      | true ↦ refl
      | false ↦ find_both es fs q
    ]

pub get-put_over : (new old : KeyMap) (q : Key) → get (put_over new old) q ≡ option_or (get new q) (get old q)
get-put_over new old q =
    get-from_entries key_cmp_total (entries new ++ entries old) q ∙ find_both (entries new) (entries old) q
    ∙ (λ i. option_or (sym (get-entries new q) i) (sym (get-entries old q) i))

pub configured_made : (old new : Contents) (block : Data) (set : Settings) (taken passed : ℕ) → ini_in block.bytes ≡ Ok set
    → ((key : Key) → get new.config key ≡ option_or (get set.values key) (get old.config key)) → new.places ≡ old.places → taken ≡ set.taken → passed ≡ set.passed
    → configured old block ≡ Ok (record { plate = new; reply = reply.Set taken passed })
configured_made old new block set taken passed e h p t s =
    let config : put_over set.values old.config ≡ new.config = same_values _ _ (λ q. get-put_over set.values old.config q ∙ sym (h q)) in
    ap (λ read. given read (λ set. Ok (record { plate = record old { config = put_over set.values old.config }; reply = reply.Set set.taken set.passed }))) e
    ∙ (λ i. Ok (record { plate = record { config = config i; places = sym p i }; reply = reply.Set (sym t i) (sym s i) }))
