-- Lists: what holds of all, of some and of pairs of elements, along maps and as a loop takes one more.
use Rattle.std.proofs.Common.{◌≡◌, ◌⊎◌, ℕ, zero, suc, ◌<◌, ◌≤◌, ◌+◌, ◌-◌, ◌^◌, List, [], ◌∷◌, ◌++◌, length, map, get_or, refl, ap, sym, subst, ◌∙◌, append_assoc, arith, inl, inr, ⊎_elim, drop, min, sum, take}
use Rattle.std.specs.Prelude.{All, AllPairs, Any}
use Rattle.std.specs.List.{AllZip}
use Rattle.std.proofs.lemmas.List.{get_or-map, length-map, map-append, append-nil, take_more}
use Rattle.std.proofs.lemmas.List.Sums.{sum_by-append}
use Rattle.std.proofs.lemmas.List.Elements.{All-cons, All-nil, All-head, All-tail, All-push}
use mathlib.Core.List.{IsPrefix}

pub prefix_trans : {A : Type 0} (xs ys zs : List A) → IsPrefix xs ys → IsPrefix ys zs → IsPrefix xs zs
prefix_trans xs ys zs p q = (p.0 ++ q.0, sym (append_assoc xs p.0 q.0) ∙ (ap (λ w. w ++ q.0) p.1 ∙ q.1))

pub cons_apart : {A : Type 0} (x : A) (xs : List A) → [] ≡ x ∷ xs → ⊥
cons_apart x xs e = cc

module _ {A : Type 0} (P : A → Type 0) where
  pub any_more : (x : A) (xs : List A) → Any P xs → Any P (x ∷ xs)
  any_more x xs h = let lt : h.0 < length xs = h.2 in (suc h.0, h.1, omega arith, h.3, h.4)

  left_at : (xs ys : List A) (k : ℕ) (a : A) → k < length xs → get_or xs k a ≡ a → P a → Any P (xs ++ ys)
  left_at [] ys k a lt is p = absurd (omega arith)
  left_at (x ∷ xs) ys zero a lt is p = (zero, a, omega arith, is, p)
  left_at (x ∷ xs) ys (suc k) a lt is p = any_more x (xs ++ ys) (left_at xs ys k a (omega arith) is p)

  pub any_left : (xs ys : List A) → Any P xs → Any P (xs ++ ys)
  any_left xs ys h = left_at xs ys h.0 h.1 h.2 h.3 h.4

  pub any_right : (xs ys : List A) → Any P ys → Any P (xs ++ ys)
  any_right [] ys h = h
  any_right (x ∷ xs) ys h = any_more x (xs ++ ys) (any_right xs ys h)

  pub any_push : (xs : List A) (x : A) → P x → Any P (xs ++ x ∷ [])
  any_push [] x p = (zero, x, omega arith, refl, p)
  any_push (y ∷ xs) x p = any_more y (xs ++ x ∷ []) (any_push xs x p)

  pub here : (x : A) (xs : List A) → P x → Any P (x ∷ xs)
  here x xs p = (zero, x, omega arith, refl, p)

  -- it is the first one or a later one
  pub any_cons : (x : A) (xs : List A) → Any P (x ∷ xs) → P x ⊎ Any P xs
  any_cons x xs (zero, a, lt, is, p) = inl (subst P (sym is) p)
  any_cons x xs (suc k, a, lt, is, p) = inr (k, a, omega arith, is, p)

  pub all_holds : (Q : A → Type 0) (xs : List A) → All P xs → Any Q xs → (x : A) × P x × Q x
  all_holds Q xs a (k, x, lt, is, q) = (x, subst P is (a k x lt), q)

  pub any_wider : (Q : A → Type 0) (xs : List A) → ((a : A) → P a → Q a) → Any P xs → Any Q xs
  any_wider Q xs wide (k, a, lt, is, p) = (k, a, lt, is, wide a p)

  -- what is taken next, and what is left
  pub all_next : (items rest : List A) (x : A) → items ≡ x ∷ rest → All P items → P x × All P rest
  all_next items rest x is all = let now = subst (All P) is all in (All-head P x rest now, All-tail P x rest now)

  pub all_left : (xs ys : List A) → All P (xs ++ ys) → All P xs
  all_left [] ys h = All-nil P
  all_left (x ∷ xs) ys h = All-cons P x xs (All-head P x (xs ++ ys) h) (all_left xs ys (All-tail P x (xs ++ ys) h))

  pub all_right : (xs ys : List A) → All P (xs ++ ys) → All P ys
  all_right [] ys h = h
  all_right (x ∷ xs) ys h = all_right xs ys (All-tail P x (xs ++ ys) h)

  module _ {B : Type 0} (f : B → A) where
    pub all_from_map : (ys : List B) → All P (map f ys) → All (λ y. P (f y)) ys
    all_from_map [] h = All-nil (λ y. P (f y))
    all_from_map (y ∷ ys) h = All-cons (λ z. P (f z)) y ys (All-head P (f y) (map f ys) h) (all_from_map ys (All-tail P (f y) (map f ys) h))

    pub any_to_map : (ys : List B) → Any (λ y. P (f y)) ys → Any P (map f ys)
    any_to_map ys (k, y, lt, is, p) = let long = length-map ys f in (k, f y, omega (arith, long, lt), get_or-map f ys k y (f y) lt ∙ ap f is, p)

    pub any_from_map : (ys : List B) → Any P (map f ys) → Any (λ y. P (f y)) ys
    any_from_map [] (k, a, lt, is, p) = absurd (omega arith)
    any_from_map (y ∷ ys) h = ⊎_elim
        (λ (here : P (f y)). (zero, y, omega arith, refl, here))
        (λ (later : Any P (map f ys)). let r = any_from_map ys later in let lt : r.0 < length ys = r.2 in (suc r.0, r.1, omega arith, r.3, r.4))
        (any_cons (f y) (map f ys) h)

pub pairs_from_map : {A B : Type 0} (R : A → A → Type 0) (f : B → A) (ys : List B) → AllPairs R (map f ys) → AllPairs (λ a b. R (f a) (f b)) ys
pairs_from_map R f ys h i j d lt within = let long = length-map ys f in
    subst (λ a. R a (f (get_or ys j d))) (get_or-map f ys i d (f d) (omega (arith, lt, within)))
    (subst (λ b. R (get_or (map f ys) i (f d)) b) (get_or-map f ys j d (f d) within) (h i j (f d) lt (omega (arith, long, within))))

pub pairs_to_map : {A B : Type 0} (R : A → A → Type 0) (f : B → A) (ys : List B) → AllPairs (λ a b. R (f a) (f b)) ys → AllPairs R (map f ys)
pairs_to_map {A} {B} R f [] h i j d lt within = absurd (omega arith)
pairs_to_map {A} {B} R f (y ∷ ys) h i j d lt within = let long = length-map (y ∷ ys) f in
    let low : j < length (y ∷ ys) = omega (arith, long, within) in
    subst (λ a. R a (get_or (map f (y ∷ ys)) j d)) (sym (get_or-map f (y ∷ ys) i y d (omega (arith, lt, low))))
    (subst (λ b. R (f (get_or (y ∷ ys) i y)) b) (sym (get_or-map f (y ∷ ys) j y d low)) (h i j y lt low))

-- what follows at each place of two lists
pub zip_all : {A B : Type 0} (xs : List A) (ys : List B) (R : A → B → Type 0) (P : A → Type 0) (Q : B → Type 0) → All P xs → AllZip R xs ys → ((x : A) (y : B) → P x → R x y → Q y) → All Q ys
zip_all [] [] R P Q all zip follows = All-nil Q
zip_all [] (y ∷ ys) R P Q all zip follows = absurd zip
zip_all (x ∷ xs) [] R P Q all zip follows = absurd zip
zip_all (x ∷ xs) (y ∷ ys) R P Q all zip follows = All-cons Q y ys (follows x y (All-head P x xs all) zip.0) (zip_all xs ys R P Q (All-tail P x xs all) zip.1 follows)

pub zip_map : {A B C : Type 0} (xs : List A) (ys : List B) (R : A → B → Type 0) (P : A → Type 0) (f : A → C) (h : B → C) → All P xs → AllZip R xs ys → ((x : A) (y : B) → P x → R x y → h y ≡ f x) → map h ys ≡ map f xs
zip_map [] [] R P f h all zip follows = refl
zip_map [] (y ∷ ys) R P f h all zip follows = absurd zip
zip_map (x ∷ xs) [] R P f h all zip follows = absurd zip
zip_map (x ∷ xs) (y ∷ ys) R P f h all zip follows = let e = follows x y (All-head P x xs all) zip.0 in let es = zip_map xs ys R P f h (All-tail P x xs all) zip.1 follows in
    ap (λ c. c ∷ map h ys) e ∙ ap (λ cs. f x ∷ cs) es

pub zip_from_map : {A B C : Type 0} (R : A → C → Type 0) (f : B → C) (xs : List A) (ys : List B) → AllZip R xs (map f ys) → AllZip (λ x y. R x (f y)) xs ys
zip_from_map R f [] [] z = tt
zip_from_map R f [] (y ∷ ys) z = absurd z
zip_from_map R f (x ∷ xs) [] z = absurd z
zip_from_map R f (x ∷ xs) (y ∷ ys) z = (z.0, zip_from_map R f xs ys z.1)

module _ {X Y Z : Type 0} (f : X → Z) (h : Y → Z) where
  -- one more is done, and one less is left
  pub one_more : (done done' : List X) (items rest : List Y) (x : X) (y : Y) (total : List Z) → map f done ++ map h items ≡ total → items ≡ y ∷ rest → done' ≡ done ++ x ∷ [] → f x ≡ h y → map f done' ++ map h rest ≡ total
  one_more done done' items rest x y total sum is grown same =
      ap (λ l. map f l ++ map h rest) grown ∙ (ap (λ l. l ++ map h rest) (map-append f done (x ∷ [])) ∙ (append_assoc (map f done) (f x ∷ []) (map h rest)
      ∙ (ap (λ z. map f done ++ (z ∷ map h rest)) same ∙ (ap (λ l. map f done ++ map h l) (sym is) ∙ sum))))

  -- nothing is left
  pub all_done : (done : List X) (items : List Y) (total : List Z) → map f done ++ map h items ≡ total → length items ≡ 0 → map f done ≡ total
  all_done done [] total sum none = sym (append-nil (map f done)) ∙ sum
  all_done done (y ∷ ys) total sum none = absurd (omega arith)

module _ {X Z : Type 0} (f : X → Z) where
  pub taken_more : (done done' : List X) (items rest : List Z) (x : X) (z : Z) (total : List Z) → map f done ++ items ≡ total → items ≡ z ∷ rest → done' ≡ done ++ x ∷ [] → f x ≡ z → map f done' ++ rest ≡ total
  taken_more done done' items rest x z total sum is grown same =
      ap (λ l. map f l ++ rest) grown ∙ (ap (λ l. l ++ rest) (map-append f done (x ∷ [])) ∙ (append_assoc (map f done) (f x ∷ []) rest
      ∙ (ap (λ y. map f done ++ (y ∷ rest)) same ∙ (ap (λ l. map f done ++ l) (sym is) ∙ sum))))

  pub taken_all : (done : List X) (items total : List Z) → map f done ++ items ≡ total → length items ≡ 0 → total ≡ map f done
  taken_all done [] total sum none = sym sum ∙ append-nil (map f done)
  taken_all done (z ∷ zs) total sum none = absurd (omega arith)

-- the sum of what was read, and of one more
module _ {X : Type 0} (f : X → ℕ) where
  sum_more : (xs : List X) (i : ℕ) (d : X) → i < length xs → sum (map f (take (i + 1) xs)) ≡ sum (map f (take i xs)) + f (get_or xs i d)
  sum_more xs i d lt =
      let more = ap (λ l. sum (map f l)) (take_more xs i d lt) ∙ (ap sum (map-append f (take i xs) (get_or xs i d ∷ [])) ∙ sum_by-append (λ x. x) (map f (take i xs)) (f (get_or xs i d) ∷ [])) in
      let one : sum (f (get_or xs i d) ∷ []) ≡ f (get_or xs i d) = omega arith in
      omega (arith, more, one)

  pub total_more : (xs : List X) (i runs now most : ℕ) (x : X) → i < length xs → x ≡ get_or xs i x → runs ≡ min (sum (map f (take i xs))) most → now ≡ min (runs + f x) most → now ≡ min (sum (map f (take (i + 1) xs))) most
  total_more xs i runs now most x lt is so_far more =
      let e = sum_more xs i x lt in
      let same : f x ≡ f (get_or xs i x) = ap f is in
      omega (arith, e, same, so_far, more)

-- a sum over the same list
pub counted_by : {X : Type 0} (xs slice : List X) (f : X → ℕ) (total most : ℕ) → total ≡ min (sum (map f slice)) most → slice ≡ xs → total ≡ min (sum (map f xs)) most
counted_by xs slice f total most counts is = counts ∙ ap (λ l. min (sum (map f l)) most) is

-- all elements, with one more, or where there is one
pub pushed_all : {A : Type 0} (xs now : List A) (x : A) (P : A → Type 0) → now ≡ xs ++ x ∷ [] → All P xs → P x → All P now
pushed_all xs now x P grown all p = subst (All P) (sym grown) (All-push P xs x all p)

pub one_all : {A : Type 0} (xs : List A) (x : A) (P : A → Type 0) → xs ≡ x ∷ [] → P x → All P xs
one_all xs x P is p = subst (All P) (sym is) (All-cons P x [] p (All-nil P))

pub none_all : {A : Type 0} (xs : List A) (P : A → Type 0) → xs ≡ [] → All P xs
none_all xs P none = subst (All P) (sym none) (All-nil P)

-- room for one, where there is room for all that is left
pub room_for_one : {S : Type 0} (items rest : List S) (s : S) (len cap : ℕ) → items ≡ s ∷ rest → len + length items ≤ cap → len < cap
room_for_one items rest s len cap is room = let a : length items ≡ length (s ∷ rest) = ap length is in omega arith

-- room for what is left: one was taken, and one was pushed
pub room_left : {S : Type 0} (items rest : List S) (s : S) (len now had has : ℕ) → items ≡ s ∷ rest → now ≡ len + 1 → has ≡ had → len + length items ≤ had → now + length rest ≤ has
room_left items rest s len now had has is more same room = let a : length items ≡ length (s ∷ rest) = ap length is in omega arith

-- room where one was taken, and none was pushed
pub room_stays : {S : Type 0} (items rest : List S) (s : S) (len cap : ℕ) → items ≡ s ∷ rest → len + length items ≤ cap → len + length rest ≤ cap
room_stays items rest s len cap is room = let a : length items ≡ length (s ∷ rest) = ap length is in omega arith

-- an element that was read is there, whatever the default
pub get_or_itself : {A : Type 0} (xs : List A) (k : ℕ) (d : A) → k < length xs → get_or xs k (get_or xs k d) ≡ get_or xs k d
get_or_itself [] k d lt = absurd (omega arith)
get_or_itself (x ∷ xs) zero d lt = refl
get_or_itself (x ∷ xs) (suc k) d lt = get_or_itself xs k d (omega arith)

-- what is left after one more
drop_suc : {A : Type 0} (n : ℕ) (xs : List A) → drop 1 (drop n xs) ≡ drop (suc n) xs
drop_suc zero xs = refl
drop_suc (suc n) [] = refl
drop_suc (suc n) (x ∷ xs) = drop_suc n xs

pub drop_one : {A : Type 0} (n : ℕ) (xs : List A) → drop 1 (drop n xs) ≡ drop (n + 1) xs
drop_one n xs = let next : suc n ≡ n + 1 = omega arith in subst (λ k. drop 1 (drop n xs) ≡ drop k xs) next (drop_suc n xs)

pub length_none : {A : Type 0} (xs : List A) → length xs ≡ 0 → xs ≡ []
length_none [] none = refl
length_none (x ∷ xs) none = absurd (omega arith)

-- a count that was held down is exact, where it is that of elements of a vector
pub counts_all : (total all runs long len cap : ℕ) → total ≡ min all (2 ^ 64 - 1) → all ≡ runs → runs ≤ long → len ≡ long → len ≤ cap → cap < 2 ^ 63 → total ≡ runs
counts_all total all runs long len cap is same few ok room small = omega arith
