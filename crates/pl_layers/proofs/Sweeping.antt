-- The layers of a mesh one after another: which facets a layer needs, and that no order of them matters.
use Rattle.std.proofs.Common.{◌≡◌, ℤ, ℕ, pos, zero, suc, ◌+ℤ◌, ◌≤ℤ◌, ◌+◌, ◌%◌, ◌==◌, ◌≤◌, ◌<◌, ◌^◌, Bool, true, false, ◌&&◌, ◌||◌, not, cond, List, [], ◌∷◌, ◌++◌, length, take, drop, get_or, arith, refl, ap, sym, ◌∙◌, subst, unsigned_abs, IsTrue}
use Rattle.std.specs.Prelude.{int_le, int_lt}
use Rattle.std.specs.Int.{int_min}
use Rattle.std.specs.List.{count_by, filter, All}
use Rattle.std.specs.List.Sorted.{IsNonDecreasingBy, IsPermutation}
use Rattle.std.proofs.lemmas.Int.{ints}
use Rattle.std.proofs.lemmas.Nat.{mul-le}
use Rattle.std.proofs.lemmas.Bool.Decides.{nat_tests}
use Rattle.std.proofs.lemmas.List.{take_more, map-append, get_or_default, get_or-drop, length-drop}
use Rattle.std.proofs.lemmas.List.Sums.{sum_by-cons, sum_by_push, sum_by-drop_more}
use Rattle.std.proofs.lemmas.List.Sorted.{sum_by-IsPermutation}
use Rattle.std.proofs.lemmas.List.Elements.{All-push, All-filter}
use Rattle.std.proofs.Math.Seq.{take-length}
use Rattle.pl_units.specs.Within.{Within}
use Rattle.pl_units.specs.declared.Nm.{Nm}
use Rattle.pl_stl.specs.Mesh.{IsNearFacet, IsMesh}
use Rattle.pl_stl.specs.declared.mesh.Point3.{Point3}
use Rattle.pl_stl.specs.declared.mesh.Facet.{Facet}
use Rattle.pl_grid.specs.Extent.{Extent}
use Rattle.pl_grid.proofs.PlaneLemmas.{same_tests}
use Rattle.pl_layers.specs.declared.heights.Heights.{Heights}
use Rattle.pl_layers.specs.declared.sweep.Start.{Start}
use Rattle.pl_layers.specs.Turned.{turned_facet, turned_mesh, box_of}
use Rattle.pl_stl.specs.Coordinates.{part_z}
use Rattle.pl_layers.specs.Heights.{AreHeights, sample, exists_at, layer_count_of}
use Rattle.pl_layers.specs.Samples.{sample_of}
use Rattle.pl_layers.specs.Hits.{hits, is_in_mesh}
use Rattle.pl_layers.specs.Near.{AllClose, IsCloseFacet}
use Rattle.pl_layers.specs.Slices.{corner_of, cell_point, inside_of, slice_of}
use Rattle.pl_layers.specs.Sweeps.{begins_by, ends_by, no_facet, facet_of, IsStart, count_left, AreLeft, base_of}
use Rattle.pl_layers.proofs.Spanning.{hits_none, count_by-filter}
use Rattle.pl_layers.proofs.Samples.{sample_is}
use Rattle.pl_layers.proofs.Extremes.{IsReached-from_near, turned_mesh_near}
use Rattle.pl_layers.proofs.Points.{ArePoints, points_of_layer, facet_close}

-- ---- a facet is hit in no layer before its first, and in none after its last

ended : (a b : Bool) → b ≡ true → (a && not b) ≡ false
ended true b e = ap not e
ended false b e = refl

begun : (a b : Bool) → a ≡ false → (a && not b) ≡ false
begun a b e = ap (λ c. c && not b) e

pub hits_ended : (p : Point3) (f : Facet) → ends_by p.z.0 f ≡ true → hits p f ≡ false
hits_ended p f e = hits_none p f (ended (begins_by p.z.0 f) (ends_by p.z.0 f) e)

pub hits_unbegun : (p : Point3) (f : Facet) → begins_by p.z.0 f ≡ false → hits p f ≡ false
hits_unbegun p f e = hits_none p f (begun (begins_by p.z.0 f) (ends_by p.z.0 f) e)

-- ---- the order of facets decides nothing

pub is_in_mesh-permutation : (fs gs : List Facet) (p : Point3) → IsPermutation fs gs → is_in_mesh gs p ≡ is_in_mesh fs p
is_in_mesh-permutation fs gs p h = ap (λ n. n % 2 == 1) (sum_by-IsPermutation (λ f. cond (hits p f) 1 0) fs gs h)

-- ---- tests that none passes

pub count_none : {X : Type 0} (p : X → Bool) (xs : List X) → ((k : ℕ) (d : X) → k < length xs → p (get_or xs k d) ≡ false) → count_by p xs ≡ 0
count_none p [] h = refl
count_none p (x ∷ xs) h =
    let here : cond {A = ℕ} (p x) 1 0 ≡ 0 = ap (λ b. cond {A = ℕ} b 1 0) (h 0 x (omega arith)) in
    omega (arith, sum_by-cons (λ y. cond (p y) 1 0) x xs, here, count_none p xs (λ k d less. h (suc k) d (omega arith)))

-- ---- what is left after a facet was let go or taken in

not_ended : (b : Bool) → not b ≡ false → b ≡ true
not_ended true e = refl
not_ended false e = absurd (grind arith)

pub left_dropped : (quarter : ℕ) (mesh : List Facet) (z : ℤ) (order : List Start) (next : ℕ) (old new : List Facet) → AreLeft quarter mesh z order next old → new ≡ filter (λ f. not (ends_by z f)) old → AreLeft quarter mesh z order next new
left_dropped quarter mesh z order next old new left e = λ p above.
    ap (λ fs. count_left quarter mesh order next fs p) e
    ∙ ap (λ n. n + count_by (λ s. p (facet_of quarter mesh s)) (drop next order)) (count_by-filter p (λ f. not (ends_by z f)) (λ f no. above f (not_ended (ends_by z f) no)) old)
    ∙ left p above

-- the entry that comes next, and the others
next_entry : (quarter : ℕ) (mesh : List Facet) (order : List Start) (next : ℕ) (s : Start) (p : Facet → Bool) → next < length order → s ≡ get_or order next s → count_by (λ s. p (facet_of quarter mesh s)) (drop next order) ≡ cond (p (facet_of quarter mesh s)) 1 0 + count_by (λ s. p (facet_of quarter mesh s)) (drop (next + 1) order)
next_entry quarter mesh order next s p less e =
    sum_by-drop_more (λ s. cond (p (facet_of quarter mesh s)) 1 0) order next s less
    ∙ ap (λ t. cond (p (facet_of quarter mesh t)) 1 0 + count_by (λ s. p (facet_of quarter mesh s)) (drop (next + 1) order)) (sym e)

pub facet_is : (quarter : ℕ) (mesh : List Facet) (s : Start) (f d : Facet) → s.facet < length mesh → f ≡ turned_facet quarter (get_or mesh s.facet d) → facet_of quarter mesh s ≡ f
facet_is quarter mesh s f d less e = ap (turned_facet quarter) (get_or_default mesh s.facet no_facet d less) ∙ sym e

pub left_taken : (quarter : ℕ) (mesh : List Facet) (z : ℤ) (order : List Start) (next : ℕ) (old new : List Facet) (s : Start) (f : Facet) → AreLeft quarter mesh z order next old → next < length order → s ≡ get_or order next s → facet_of quarter mesh s ≡ f → new ≡ old ++ f ∷ [] → AreLeft quarter mesh z order (next + 1) new
left_taken quarter mesh z order next old new s f left less es ef en = λ p above.
    let all : count_left quarter mesh order next old p ≡ count_by p (turned_mesh quarter mesh) = left p above in
    let one : count_by (λ s. p (facet_of quarter mesh s)) (drop next order) ≡ cond (p f) 1 0 + count_by (λ s. p (facet_of quarter mesh s)) (drop (next + 1) order) = next_entry quarter mesh order next s p less es ∙ ap (λ g. cond (p g) 1 0 + count_by (λ s. p (facet_of quarter mesh s)) (drop (next + 1) order)) ef in
    let more : count_by p new ≡ count_by p old + cond (p f) 1 0 = ap (count_by p) en ∙ sum_by_push (λ g. cond (p g) 1 0) old f in
    omega (arith, all, one, more)

pub left_passed : (quarter : ℕ) (mesh : List Facet) (z : ℤ) (order : List Start) (next : ℕ) (active : List Facet) (s : Start) (f : Facet) → AreLeft quarter mesh z order next active → next < length order → s ≡ get_or order next s → facet_of quarter mesh s ≡ f → ends_by z f ≡ true → AreLeft quarter mesh z order (next + 1) active
left_passed quarter mesh z order next active s f left less es ef over = λ p above.
    let all : count_left quarter mesh order next active p ≡ count_by p (turned_mesh quarter mesh) = left p above in
    let one : count_by (λ s. p (facet_of quarter mesh s)) (drop next order) ≡ cond (p f) 1 0 + count_by (λ s. p (facet_of quarter mesh s)) (drop (next + 1) order) = next_entry quarter mesh order next s p less es ∙ ap (λ g. cond (p g) 1 0 + count_by (λ s. p (facet_of quarter mesh s)) (drop (next + 1) order)) ef in
    let none : cond {A = ℕ} (p f) 1 0 ≡ 0 = ap (λ b. cond {A = ℕ} b 1 0) (above f over) in
    omega (arith, all, one, none)

-- a facet that was taken in unless it ends
pub left_put : (quarter : ℕ) (mesh : List Facet) (z : ℤ) (order : List Start) (next : ℕ) (old new : List Facet) (s : Start) (f : Facet) (over : Bool) → over ≡ ends_by z f → AreLeft quarter mesh z order next old → next < length order → s ≡ get_or order next s → facet_of quarter mesh s ≡ f → new ≡ cond over old (old ++ f ∷ []) → AreLeft quarter mesh z order (next + 1) new
left_put quarter mesh z order next old new s f true eo left less es ef en = subst (λ (fs : List Facet). AreLeft quarter mesh z order (next + 1) fs) (sym en) (left_passed quarter mesh z order next old s f left less es ef (sym eo))
left_put quarter mesh z order next old new s f false eo left less es ef en = left_taken quarter mesh z order next old new s f left less es ef en

pub close_put : (old new : List Facet) (f : Facet) (over : Bool) → AllClose old → IsCloseFacet f → new ≡ cond over old (old ++ f ∷ []) → AllClose new
close_put old new f true close here en = subst (λ (fs : List Facet). AllClose fs) (sym en) close
close_put old new f false close here en = subst (λ (fs : List Facet). AllClose fs) (sym en) (All-push IsCloseFacet old f close here)

-- ---- the heights of layers rise

size_of_height : (z : ℤ) → pos 20000 ≤ℤ z → z ≡ pos (unsigned_abs z)
size_of_height z h = omega (arith, ints)

rises : (f t k : ℕ) → sample_of f t k ≤ sample_of f t (suc k)
rises f t zero = omega arith
rises f t (suc k) = omega (arith, mul-le k t (suc k) t (omega arith) (omega arith))

plus_one : (k : ℕ) → k + 1 ≡ suc k
plus_one k = omega arith

pub sample_rises : (h : Heights) (k : ℕ) → AreHeights h → sample h k ≤ℤ sample h (k + 1)
sample_rises h k are =
    let ef : h.first.0 ≡ pos (unsigned_abs h.first.0) = size_of_height h.first.0 are.first_low in
    let et : h.height.0 ≡ pos (unsigned_abs h.height.0) = size_of_height h.height.0 are.low in
    let up : sample h k ≤ℤ sample h (suc k) = omega (arith, ints, sample_is h _ _ k ef et, sample_is h _ _ (suc k) ef et, rises (unsigned_abs h.first.0) (unsigned_abs h.height.0) k) in
    subst (λ (n : ℕ). sample h k ≤ℤ sample h n) (sym (plus_one k)) up

ends_higher : (y z : ℤ) (f : Facet) → y ≤ℤ z → ends_by y f ≡ true → ends_by z f ≡ true
ends_higher y z f h e = grind (arith, ints, nat_tests, h, e)

pub left_higher : (quarter : ℕ) (mesh : List Facet) (y z : ℤ) (order : List Start) (next : ℕ) (active : List Facet) → y ≤ℤ z → AreLeft quarter mesh y order next active → AreLeft quarter mesh z order next active
left_higher quarter mesh y z order next active h left = λ p above. left p (λ f over. above f (ends_higher y z f h over))

floor_higher : (floor s t : ℤ) → s ≤ℤ t → (floor +ℤ s) ≤ℤ (floor +ℤ t)
floor_higher floor s t h = omega (arith, ints, h)

pub left_next : (quarter : ℕ) (mesh : List Facet) (h : Heights) (floor : ℤ) (k : ℕ) (order : List Start) (next : ℕ) (active : List Facet) → AreHeights h → AreLeft quarter mesh (floor +ℤ sample h k) order next active → AreLeft quarter mesh (floor +ℤ sample h (k + 1)) order next active
left_next quarter mesh h floor k order next active are left = left_higher quarter mesh _ _ order next active (floor_higher floor (sample h k) (sample h (k + 1)) (sample_rises h k are)) left

-- ---- the active facets decide about a layer

-- none of the entries that are left begins by the height of layer k
entries_after : (quarter : ℕ) (mesh : List Facet) (h : Heights) (floor : ℤ) (order : List Start) (next k : ℕ) → All (IsStart quarter mesh h floor) order → IsNonDecreasingBy (λ (s : Start). s.first) order → ((d : Start) → next < length order → k < (get_or order next d).first)
    → (i : ℕ) (d : Start) → i < length (drop next order) → begins_by (floor +ℤ sample h k) (facet_of quarter mesh (get_or (drop next order) i d)) ≡ false
entries_after quarter mesh h floor order next k starts rising done i d less =
    let some : next + i < length order = omega (arith, less, length-drop next order) in
    let after : k < (get_or order (next + i) d).first = omega (arith, done d (omega (arith, some)), rising next (next + i) d (omega arith) some) in
    ap (λ s. begins_by (floor +ℤ sample h k) (facet_of quarter mesh s)) (get_or-drop next order i d) ∙ (starts (next + i) d some).before k after

pub active_decide : (quarter : ℕ) (mesh : List Facet) (h : Heights) (floor : ℤ) (order : List Start) (next k : ℕ) (active : List Facet) (p : Point3) → All (IsStart quarter mesh h floor) order → IsNonDecreasingBy (λ (s : Start). s.first) order → ((d : Start) → next < length order → k < (get_or order next d).first) → AreLeft quarter mesh (floor +ℤ sample h k) order next active → p.z.0 ≡ floor +ℤ sample h k → is_in_mesh active p ≡ is_in_mesh (turned_mesh quarter mesh) p
active_decide quarter mesh h floor order next k active p starts rising done left ez =
    let none : count_by (λ s. hits p (facet_of quarter mesh s)) (drop next order) ≡ 0 = count_none (λ s. hits p (facet_of quarter mesh s)) (drop next order) (λ i d less. hits_unbegun p (facet_of quarter mesh (get_or (drop next order) i d)) (ap (λ z. begins_by z (facet_of quarter mesh (get_or (drop next order) i d))) ez ∙ entries_after quarter mesh h floor order next k starts rising done i d less)) in
    let all : count_left quarter mesh order next active (hits p) ≡ count_by (hits p) (turned_mesh quarter mesh) = left (hits p) (λ f over. hits_ended p f (ap (λ z. ends_by z f) ez ∙ over)) in
    let same : count_by (hits p) active ≡ count_by (hits p) (turned_mesh quarter mesh) = omega (arith, none, all) in
    ap (λ n. n % 2 == 1) same

pub layer_is : (quarter : ℕ) (mesh : List Facet) (h : Heights) (b : Extent) (base corner : Point3) (order : List Start) (next k : ℕ) (active : List Facet) → b ≡ box_of quarter mesh → corner ≡ corner_of (turned_mesh quarter mesh) h k → corner.z.0 ≡ base.z.0 +ℤ sample h k → All (IsStart quarter mesh h base.z.0) order → IsNonDecreasingBy (λ (s : Start). s.first) order → ((d : Start) → next < length order → k < (get_or order next d).first) → AreLeft quarter mesh corner.z.0 order next active → inside_of b active corner ≡ slice_of mesh quarter h k
layer_is quarter mesh h b base corner order next k active eb ec ez starts rising done left =
    same_tests b (λ x y. is_in_mesh active (cell_point corner x y)) (λ x y. is_in_mesh (turned_mesh quarter mesh) (cell_point corner x y)) (λ i j hi hj. active_decide quarter mesh h base.z.0 order next k active (cell_point corner (b.x0 +ℤ pos i) (b.y0 +ℤ pos j)) starts rising done (subst (λ (z : ℤ). AreLeft quarter mesh z order next active) ez left) ez)
    ∙ ap (λ e. inside_of e (turned_mesh quarter mesh) corner) eb
    ∙ ap (λ p. inside_of (box_of quarter mesh) (turned_mesh quarter mesh) p) ec

-- ---- the entries

first_corner : (z a b c : ℤ) → int_lt z (int_min (int_min a b) c) ≡ true → (int_le a z || int_le b z || int_le c z) ≡ false
first_corner z a b c h = grind (arith, ints, nat_tests, h)

pub unbegun : (z low : ℤ) (f : Facet) → low ≡ int_min (int_min f.a.z.0 f.b.z.0) f.c.z.0 → IsTrue (int_lt z low) → begins_by z f ≡ false
unbegun z low f e h = first_corner z f.a.z.0 f.b.z.0 f.c.z.0 (sym (ap (λ y. int_lt z y) e) ∙ h)

pub counted_none : (quarter : ℕ) (mesh : List Facet) → (p : Facet → Bool) → count_by (λ s. p (facet_of quarter mesh s)) [] ≡ count_by p (turned_mesh quarter (take 0 mesh))
counted_none quarter mesh p = refl

pub counted_more : (quarter : ℕ) (mesh : List Facet) (i : ℕ) (old new : List Start) (s : Start) → ((p : Facet → Bool) → count_by (λ s. p (facet_of quarter mesh s)) old ≡ count_by p (turned_mesh quarter (take i mesh))) → i < length mesh → s.facet ≡ i → new ≡ old ++ s ∷ [] → (p : Facet → Bool) → count_by (λ s. p (facet_of quarter mesh s)) new ≡ count_by p (turned_mesh quarter (take (i + 1) mesh))
counted_more quarter mesh i old new s so less ei en p =
    ap (count_by (λ s. p (facet_of quarter mesh s))) en
    ∙ sum_by_push (λ s. cond (p (facet_of quarter mesh s)) 1 0) old s
    ∙ ap (λ n. n + cond (p (facet_of quarter mesh s)) 1 0) (so p)
    ∙ ap (λ n. count_by p (turned_mesh quarter (take i mesh)) + cond (p (turned_facet quarter (get_or mesh n no_facet))) 1 0) ei
    ∙ sym (ap (λ fs. count_by p (turned_mesh quarter fs)) (take_more mesh i no_facet less)
    ∙ ap (count_by p) (map-append (turned_facet quarter) (take i mesh) (get_or mesh i no_facet ∷ []))
    ∙ sum_by_push (λ f. cond (p f) 1 0) (turned_mesh quarter (take i mesh)) (turned_facet quarter (get_or mesh i no_facet)))

pub counted_all : (quarter : ℕ) (mesh : List Facet) (i : ℕ) (starts : List Start) → ((p : Facet → Bool) → count_by (λ s. p (facet_of quarter mesh s)) starts ≡ count_by p (turned_mesh quarter (take i mesh))) → i ≡ length mesh → (p : Facet → Bool) → count_by (λ s. p (facet_of quarter mesh s)) starts ≡ count_by p (turned_mesh quarter mesh)
counted_all quarter mesh i starts so e p = so p ∙ ap (λ fs. count_by p (turned_mesh quarter fs)) (ap (λ n. take n mesh) e ∙ take-length mesh)

pub counted_moved : (quarter : ℕ) (mesh : List Facet) (old new : List Start) → ((p : Facet → Bool) → count_by (λ s. p (facet_of quarter mesh s)) old ≡ count_by p (turned_mesh quarter mesh)) → IsPermutation old new → (p : Facet → Bool) → count_by (λ s. p (facet_of quarter mesh s)) new ≡ count_by p (turned_mesh quarter mesh)
counted_moved quarter mesh old new so moved p = sum_by-IsPermutation (λ s. cond (p (facet_of quarter mesh s)) 1 0) old new moved ∙ so p

-- ---- the height of a layer above the bottom

pub above_floor : (h : Heights) (floor low : ℤ) (tall k : ℕ) → low ≡ floor +ℤ pos tall → IsTrue (exists_at h tall k) → IsTrue (int_lt (floor +ℤ sample h k) low)
above_floor h floor low tall k e there = grind (arith, ints, nat_tests, e, there)

-- one entry more
pub starts_more : (quarter : ℕ) (mesh : List Facet) (h : Heights) (floor : ℤ) (i first : ℕ) (old new : List Start) (f d : Facet) → All (IsStart quarter mesh h floor) old → i < length mesh → f ≡ turned_facet quarter (get_or mesh i d) → ((k : ℕ) → k < first → begins_by (floor +ℤ sample h k) f ≡ false) → new ≡ old ++ record { first = first; facet = i } ∷ [] → All (IsStart quarter mesh h floor) new
starts_more quarter mesh h floor i first old new f d all less ef before en =
    let same : turned_facet quarter (get_or mesh i no_facet) ≡ f = ap (turned_facet quarter) (get_or_default mesh i no_facet d less) ∙ sym ef in
    subst (λ (ss : List Start). All (IsStart quarter mesh h floor) ss) (sym en)
    (All-push (IsStart quarter mesh h floor) old _ all (record { inside = less; before = λ k below. ap (begins_by (floor +ℤ sample h k)) same ∙ before k below }))

-- ---- the steps of a sweep

-- what a step of the loop that takes facets in leaves
pub take_step : (quarter : ℕ) (mesh : List Facet) (z : ℤ) (order : List Start) (next : ℕ) (old new : List Facet) (f d : Facet) (e : Start) → All (λ (s : Start). s.facet < length mesh) order → next < length order → AllClose old → AreLeft quarter mesh z order next old → f ≡ turned_facet quarter (get_or mesh (get_or order next e).facet d) → IsNearFacet f → new ≡ cond (ends_by z f) old (old ++ f ∷ []) → (next + 1 ≤ length order) × AllClose new × AreLeft quarter mesh z order (next + 1) new
take_step quarter mesh z order next old new f d e inside less close left ef near en =
    let here : facet_of quarter mesh (get_or order next e) ≡ f = facet_is quarter mesh (get_or order next e) f d (inside next e less) ef in
    (omega (arith, less), close_put old new f (ends_by z f) close (facet_close f near) en, left_put quarter mesh z order next old new (get_or order next e) f (ends_by z f) refl left less (get_or_default order next e (get_or order next e) less) here en)

pub close_dropped : (z : ℤ) (old new : List Facet) → AllClose old → new ≡ filter (λ f. not (ends_by z f)) old → AllClose new
close_dropped z old new close e = subst (λ (fs : List Facet). AllClose fs) (sym e) (All-filter (λ f. not (ends_by z f)) IsCloseFacet old close)

-- the height of a layer, as it is computed
pub height_is : (h : Heights) (k : ℕ) (floor s z : ℤ) → z ≡ floor +ℤ s → s ≡ sample h k → z ≡ floor +ℤ sample h k
height_is h k floor s z ez es = ez ∙ ap (λ t. floor +ℤ t) es

-- a point with another height
abbrev pub the_corner : Point3 → Nm → Point3
the_corner p z = record { x = p.x; y = p.y; z = z }

pub corner_is : (mesh : List Facet) (h : Heights) (k : ℕ) (base : Point3) (z : Nm) → base ≡ base_of mesh → z.0 ≡ base.z.0 +ℤ sample h k → the_corner base z ≡ corner_of mesh h k
corner_is mesh h k base z eb ez =
    ap (λ (p : Point3). the_corner p z) eb
    ∙ ap (λ (w : ℤ). the_corner (base_of mesh) (record { 0 = w })) (ez ∙ ap (λ (p : Point3). p.z.0 +ℤ sample h k) eb)

further : (z : ℤ) → Within (10 ^ 9) z → Within (2 ^ 40) z
further z h = record { low = omega (arith, ints, h.low); high = omega (arith, ints, h.high) }

pub base_near : (quarter : ℕ) (mesh : List Facet) (base : Point3) → IsMesh mesh → base ≡ base_of (turned_mesh quarter mesh) → Within (2 ^ 40) base.z.0
base_near quarter mesh base is e = subst (λ (p : Point3). Within (2 ^ 40) p.z.0) (sym e) (further _ (IsReached-from_near part_z (turned_mesh quarter mesh) (λ p near. near.z) (turned_mesh_near quarter mesh is.near)).low)

pub points_at : (quarter : ℕ) (mesh : List Facet) (h : Heights) (k : ℕ) (b : Extent) (base : Point3) (z : Nm) → IsMesh mesh → AreHeights h → k < layer_count_of h mesh → b ≡ box_of quarter mesh → base ≡ base_of (turned_mesh quarter mesh) → z.0 ≡ base.z.0 +ℤ sample h k → ArePoints (the_corner base z) b
points_at quarter mesh h k b base z is are less eb ep ez =
    subst (λ (p : Point3). ArePoints p b) (sym (corner_is (turned_mesh quarter mesh) h k base z ep ez)) (subst (λ (e : Extent). ArePoints (corner_of (turned_mesh quarter mesh) h k) e) (sym eb) (points_of_layer h mesh quarter k is are less))
