-- Finite maps from options, and the entries that keep them.
use Rattle.std.proofs.Common.{◌≡◌, ◌↔◌, IsTrue, Bool, cond, ◌==◌, List, [], ◌∷◌, Some, None, ◌⊎◌, inl, inr, refl, sym, ap, ◌∙◌}
use Rattle.std.specs.Ordering.{eq_by_cmp}
use Rattle.std.specs.Cmp.{IsTotalOrder, nat_cmp_total, on_total, unsigned_ties, eq_by_cmp_equiv}
use Rattle.std.specs.Map.{lookup}
use Rattle.std.proofs.lemmas.Bool.{cases_Bool, cond-true, cond-false}
use Rattle.std.specs.FinMap as map
use Rattle.std.specs.FinMap.{find, get-from_entries, get-insert, get-remove, nat_cmp-IsAntisymmetric, IsAntisymmetric, same_map}
use Rattle.pl_keys.specs.declared.key.Key.{Key}
use Rattle.pl_keys.specs.declared.key.Key.TheVariants as k
use Rattle.pl_keys.specs.declared.value.Value.{Value}
use Rattle.pl_keys.specs.Keys.{place}
use Rattle.pl_keys.specs.contracts.key.Key.{the_type}
use Rattle.pl_keys.specs.contracts.key.KeyPartialEq.TheImpl.{eq-value}
use denote.Enum.Bare.{tag_one, same_true, same_false, true_same, false_same}
use denote.Enum.Declared.{tag_of}
use Rattle.pl_options.specs.KeyMap.{key_cmp, KeyMap}

pub key_cmp_total : IsTotalOrder key_cmp
key_cmp_total = on_total place nat_cmp_total

tag_place : (key : Key) → tag_of the_type key ≡ place key
tag_place k.LayerHeight = refl
tag_place k.FirstLayerHeight = refl
tag_place k.Perimeters = refl
tag_place k.TopSolidLayers = refl
tag_place k.BottomSolidLayers = refl
tag_place k.FillDensity = refl
tag_place k.Ironing = refl
tag_place k.SupportMaterial = refl
tag_place k.SupportMaterialBuildplateOnly = refl
tag_place k.Extruder = refl
tag_place k.Skirts = refl
tag_place k.SkirtDistance = refl
tag_place k.SkirtHeight = refl
tag_place k.BrimWidth = refl
tag_place k.WipeTower = refl
tag_place k.WipeTowerX = refl
tag_place k.WipeTowerY = refl
tag_place k.WipeTowerWidth = refl
tag_place k.PerimeterSpeed = refl
tag_place k.InfillSpeed = refl
tag_place k.TravelSpeed = refl
tag_place k.Temperature = refl
tag_place k.FirstLayerTemperature = refl
tag_place k.BedTemperature = refl
tag_place k.FirstLayerBedTemperature = refl
tag_place k.FilamentDiameter = refl
tag_place k.ExtrusionMultiplier = refl
tag_place k.StartGcode = refl
tag_place k.EndGcode = refl
tag_place k.Notes = refl

-- options at one place are one
pub one_place : (a b : Key) → place a ≡ place b → a ≡ b
one_place a b e = tag_one the_type tt a b (tag_place a ∙ e ∙ sym (tag_place b))

pub one_key : IsAntisymmetric key_cmp
one_key a b e = one_place a b (nat_cmp-IsAntisymmetric (place a) (place b) e)

-- whether two options are one, as `==` of the code says
abbrev pub key_eq : Key → Key → Bool
key_eq = eq-value.it

pub key_ties : (a b : Key) → key_eq a b ≡ eq_by_cmp key_cmp a b
key_ties a b = (λ i. tag_place a i == tag_place b i) ∙ unsigned_ties (place a) (place b)

pub key_ties_back : (a b : Key) → key_eq a b ≡ eq_by_cmp key_cmp b a
key_ties_back a b = key_ties a b ∙ (eq_by_cmp_equiv key_cmp_total).symm a b

find_lookup : (es : List (Key × Value)) (q : Key) → find key_cmp q es ≡ lookup (key_eq q) es
find_lookup [] q = refl
find_lookup (e ∷ es) q = λ i. cond (sym (key_ties q e.0) i) (Some e.1) (find_lookup es q i)

-- the map of entries answers as a look-up in them
pub get-entries : (es : List (Key × Value)) (q : Key) → map.get (map.from_entries {R = key_cmp} es) q ≡ lookup (key_eq q) es
get-entries es q = get-from_entries key_cmp_total es q ∙ find_lookup es q

-- maps that answer alike are equal
pub same_values : (m n : KeyMap) → ((q : Key) → map.get m q ≡ map.get n q) → m ≡ n
same_values m n h = same_map key_cmp_total one_key m n h

pub entries_put : (es fs : List (Key × Value)) (key : Key) (value : Value) → ((q : Key) → lookup (key_eq q) fs ≡ cond (key_eq key q) (Some value) (lookup (key_eq q) es)) → map.from_entries {R = key_cmp} fs ≡ map.insert (map.from_entries es) key value
entries_put es fs key value h =
    same_values _ _ (λ q.
    get-entries fs q ∙ h q
    ∙ (λ i. cond (key_ties_back key q i) (Some value) (sym (get-entries es q) i))
    ∙ sym (get-insert key_cmp_total (map.from_entries es) key value q))

pub entries_removed : (es fs : List (Key × Value)) (key : Key) → ((q : Key) → lookup (key_eq q) fs ≡ cond (key_eq key q) None (lookup (key_eq q) es)) → map.from_entries {R = key_cmp} fs ≡ map.remove (map.from_entries es) key
entries_removed es fs key h =
    same_values _ _ (λ q.
    get-entries fs q ∙ h q
    ∙ (λ i. cond (key_ties_back key q i) None (sym (get-entries es q) i))
    ∙ sym (get-remove key_cmp_total (map.from_entries es) key q))

-- an inserted value stands at its key, and the others stay
pub insert_here : (m : KeyMap) (key : Key) (value : Value) → map.get (map.insert m key value) key ≡ Some value
insert_here m key value = get-insert key_cmp_total m key value key ∙ cond-true _ _ _ (sym (key_ties key key) ∙ true_same the_type key key refl)

pub insert_apart : (m : KeyMap) (key : Key) (value : Value) (q : Key) → (q ≡ key → ⊥) → map.get (map.insert m key value) q ≡ map.get m q
insert_apart m key value q other = get-insert key_cmp_total m key value q ∙ cond-false _ _ _ (sym (key_ties q key) ∙ false_same the_type tt q key other)

pub remove_here : (m : KeyMap) (key : Key) → map.get (map.remove m key) key ≡ None
remove_here m key = get-remove key_cmp_total m key key ∙ cond-true _ _ _ (sym (key_ties key key) ∙ true_same the_type key key refl)

pub remove_apart : (m : KeyMap) (key q : Key) → (q ≡ key → ⊥) → map.get (map.remove m key) q ≡ map.get m q
remove_apart m key q other = get-remove key_cmp_total m key q ∙ cond-false _ _ _ (sym (key_ties q key) ∙ false_same the_type tt q key other)

pub one_or_other : (a b : Key) → (a ≡ b) ⊎ (a ≡ b → ⊥)
one_or_other a b = elim (cases_Bool (key_eq a b)) [ inl same ↦ inl (same_true the_type tt a b same) | inr other ↦ inr (same_false the_type a b other) ]

pub remove_absent : (m : KeyMap) (key : Key) → map.get m key ≡ None → map.remove m key ≡ m
remove_absent m key none =
    same_values _ _ (λ q. elim (one_or_other q key) [
      | inl same ↦ ap (map.get (map.remove m key)) same ∙ remove_here m key ∙ sym none ∙ ap (map.get m) (sym same)
      | inr other ↦ remove_apart m key q other
    ])

-- maps are equal exactly where they answer alike
pub equal_or_alike : (r : Bool) (m n : KeyMap) → IsTrue r ↔ (m ≡ n) → IsTrue r ↔ ((q : Key) → map.get m q ≡ map.get n q)
equal_or_alike r m n h = (λ t q. ap (λ v. map.get v q) (h.0 t), λ alike. h.1 (same_values m n alike))
