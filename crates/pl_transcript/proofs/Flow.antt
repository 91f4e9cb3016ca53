-- Texts that are written one after another through a buffer.
use Rattle.std.proofs.Common.{◌≡◌, ℕ, List, [], ◌++◌, refl, ap, sym, subst, ◌∙◌, append_assoc, Option, Result, Ok, Err, OnOk}
use Rattle.std.specs.Io.KnownBytes.{Appends}
use Rattle.pl_ports.specs.Causes.{AppendsFront}
use Rattle.pl_ports.specs.Fronts.{appends_more, front_of_first, front_after}
use Rattle.pl_transcript.specs.Words.{spaced}
use Rattle.pl_transcript.specs.Growth.{Grew, Writes}

abbrev Bytes : Type 0
Bytes = List ℕ

abbrev Held : Type 0
Held = Option Bytes

pub grew_more : (a : Held) (l : Bytes) (b : Held) (k : Bytes) (c : Held) (j s t : Bytes) → Grew a l b k s → Grew b k c j t → Grew a l c j (s ++ t)
grew_more a l b k c j s t (first, p, e) (second, q, f) = (
  first ++ second,
  appends_more a b c first second p q,
  sym (append_assoc l s t) ∙ ap (λ x. x ++ t) e ∙ append_assoc first k t ∙ ap (λ x. first ++ x) f ∙ sym (append_assoc first second j),
)

-- a stop in what comes after a text, and in a text before another
pub stop_after : (a : Held) (l : Bytes) (b : Held) (k : Bytes) (c : Held) (s t whole : Bytes) → Grew a l b k s → AppendsFront b c (k ++ t) → s ++ t ≡ whole → AppendsFront a c (l ++ whole)
stop_after a l b k c s t whole (first, p, e) q is =
    let all : first ++ (k ++ t) ≡ l ++ whole = sym (append_assoc first k t) ∙ ap (λ x. x ++ t) (sym e) ∙ append_assoc l s t ∙ ap (λ x. l ++ x) is in
    rw (← all) (front_after a b c first (k ++ t) p q)

pub stop_before : (a : Held) (l : Bytes) (b : Held) (s t whole : Bytes) → AppendsFront a b (l ++ s) → s ++ t ≡ whole → AppendsFront a b (l ++ whole)
stop_before a l b s t whole p is =
    let all : (l ++ s) ++ t ≡ l ++ whole = append_assoc l s t ∙ ap (λ x. l ++ x) is in
    rw (← all) (front_of_first a b (l ++ s) t p)

pub grew_whole : (a : Held) (l : Bytes) (b : Held) (k : Bytes) (c : Held) (j s t whole : Bytes) → Grew a l b k s → Grew b k c j t → s ++ t ≡ whole → Grew a l c j whole
grew_whole a l b k c j s t whole g h is = subst (Grew a l c j) is (grew_more a l b k c j s t g h)

-- a text after another
pub writes_after : {V E : Type 0} (r : Result V E) (a : Held) (l : Bytes) (b : Held) (k : Bytes) (c : Held) (j s t whole : Bytes) → Grew a l b k s → Writes r b k c j t → s ++ t ≡ whole → Writes r a l c j whole
writes_after (Ok v) a l b k c j s t whole g w is = (grew_whole a l b k c j s t whole g w.0 is, stop_after a l b k c s t whole g w.1 is)
writes_after (Err e) a l b k c j s t whole g w is = (tt, stop_after a l b k c s t whole g w.1 is)

-- a text after the buffer was emptied
pub writes_anew : {V E : Type 0} (r : Result V E) (a : Held) (l : Bytes) (b : Held) (k : Bytes) (c : Held) (j t : Bytes) → Appends a b l → k ≡ [] → Writes r b k c j t → Writes r a l c j t
writes_anew r a l b k c j t p e w =
    let g : Grew a l b k [] = (l, p, ap (λ x. l ++ x) (sym e)) in
    writes_after r a l b k c j [] t t g w refl

-- all that waits after a text is put into the sink
pub all_flushed : (a b c : Held) (k text : Bytes) → Grew a [] b k text → Appends b c k → Appends a c text
all_flushed a b c k text (first, p, e) q = rw e (appends_more a b c first k p q)

pub front_flushed : (a b c : Held) (k text : Bytes) → Grew a [] b k text → AppendsFront b c k → AppendsFront a c text
front_flushed a b c k text (first, p, e) q = rw e (front_after a b c first k p q)

-- all was written, where something was written
pub writes_all : (a : Held) (l : Bytes) (b : Held) (k s whole : Bytes) → Grew a l b k s → s ≡ whole → Grew a l b k whole × AppendsFront a b (l ++ whole)
writes_all a l b k s whole g is =
    let all : Grew a l b k whole = subst (Grew a l b k) is g in
    (all, (all.0, k, all.1, all.2))

-- the words of a value that is known
pub told : {V E X : Type 0} (words : X → List Bytes) (x y : X) (r : Result V E) (a : Held) (l : Bytes) (b : Held) (k : Bytes) → x ≡ y → Writes r a l b k (spaced (words y)) → Writes r a l b k (spaced (words x))
told words x y r a l b k e w = subst (λ z. Writes r a l b k (spaced (words z))) (sym e) w

-- a line is written, and what waits of it is put into the sink
pub flushed : {V E : Type 0} (r : Result V E) (a : Held) (l : Bytes) (b c : Held) (k text : Bytes) → l ≡ [] → Grew a l b k text → OnOk r (Appends b c k) → OnOk r (Appends a c text)
flushed (Ok v) a l b c k text none g p = all_flushed a b c k text (subst (λ w. Grew a w b k text) none g) p
flushed (Err e) a l b c k text none g p = tt

pub flushed_front : (a : Held) (l : Bytes) (b c : Held) (k text : Bytes) → l ≡ [] → Grew a l b k text → AppendsFront b c k → AppendsFront a c text
flushed_front a l b c k text none g p = front_flushed a b c k text (subst (λ w. Grew a w b k text) none g) p

pub stopped : (a : Held) (l : Bytes) (b : Held) (text : Bytes) → l ≡ [] → AppendsFront a b (l ++ text) → AppendsFront a b text
stopped a l b text none p = subst (λ w. AppendsFront a b (w ++ text)) none p
