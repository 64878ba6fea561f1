-- The words of entries, one after the other, and a segment rendered from them. Two lists of entries in a row are the words of both in a row,
-- and slots are the words that they were taken from. A rendered segment has 512 words and its header; its slots are the entries, a marker and
-- a rest, so it is read back as it was written. Assumes nothing.
use Prim.Native.Nat.{ℕ, zero, suc, ◌+◌, ◌*◌, ◌-◌, ◌≤◌, ◌<◌}
use native.Mathlib.Nat.{zero-mul, suc-mul, div-mul-le_self, mul-le-mul_right}
use native.Mathlib.Omega.{arith}
use mathlib.Core.Path.{◌≡◌, refl, sym, ap, ◌∙◌}
use mathlib.Core.Bool.{Bool, true, false, cond}
use mathlib.Core.List.{List, [], ◌∷◌, ◌++◌, append_assoc}
use lib.ListN.{length, get_or, take, drop, replicate, length-append, length-drop, length-replicate, get_or-append}
use lib.Seq.{get_or-take, take-take, take-add, take_at, drop_at, length-take-le}
use Rattle.meaning.specs.declared.Kind.TheVariants.{End}
use Rattle.meaning.specs.declared.Name.{Name}
use Rattle.meaning.specs.Kinds.{end_status, kind_of, is_end}
use Rattle.meaning.specs.Words.{Entry, kind, slot_count, chunks, slots, upto}
use Rattle.meaning.specs.Requests.{entry_of, flat, render}
use Rattle.walks.specs.Lists.{All}
use Rattle.walks.proofs.Words.{drop-take}
use Rattle.walks.proofs.Slots.{more_words}

-- an entry of w words, and entries of w words each
abbrev pub OfWords : ℕ → Entry → Type 0
OfWords w e = length e ≡ w

abbrev pub Wide : ℕ → List Entry → Type 0
Wide w es = All (OfWords w) es

-- entries of w words each, none of them a marker
abbrev pub Proper : ℕ → List Entry → Type 0
Proper w [] = Unit
Proper w (e ∷ es) = (length e ≡ w) × (is_end (kind e) ≡ false) × Proper w es

pub proper_wide : (w : ℕ) (es : List Entry) → Proper w es → Wide w es
proper_wide w [] h = tt
proper_wide w (e ∷ es) h = (h.0, proper_wide w es h.2)

cut_proper : (n w : ℕ) (l : List ℕ) → n * w ≤ length l → Proper w (upto (chunks n w l))
unfolding chunks upto
cut_proper zero w l h = tt
cut_proper (suc n) w l h =
    let m : n * w + w ≤ length l = rw suc-mul at h in
    go (is_end (kind (take w l))) refl (length-take-le w l (omega arith))
    (cut_proper n w (drop w l) (simp length-drop (omega arith)))
  where
    go : (x : Bool) → is_end (kind (take w l)) ≡ x → length (take w l) ≡ w → Proper w (upto (chunks n w (drop w l)))
        → Proper w (cond x [] (take w l ∷ upto (chunks n w (drop w l))))
    go true e i r = tt
    go false e i r = (i, e, r)

-- the entries of a whole segment are such
pub entries_proper : (w : ℕ) (g : List ℕ) → length g ≡ 512 → Proper w (upto (slots w g))
unfolding slots
entries_proper w g h =
    cut_proper (slot_count w) w (drop 5 g) (simp length-drop (omega (arith, div-mul-le_self 507 w)))

-- an entry that is made
pub entry_length : (w s : ℕ) (m : Name) (n x d : ℕ) → 7 ≤ w → length (entry_of w s m n x d) ≡ w
unfolding entry_of
entry_length w s m n x d h = omega (arith, length-replicate {A = ℕ} (w - 7) 0)

-- words of entries, with words after them
pub flat_more : (es : List Entry) (t z : List ℕ) → flat es t ++ z ≡ flat es (t ++ z)
unfolding flat
flat_more [] t z = refl
flat_more (e ∷ es) t z = append_assoc e (flat es t) z ∙ ap {B = List ℕ} (λ l. e ++ l) (flat_more es t z)

pub flat-split : (es : List Entry) (t : List ℕ) → flat es t ≡ flat es [] ++ t
flat-split es t = sym (flat_more es [] t)

pub flat_append : (xs ys : List Entry) (t : List ℕ) → flat (xs ++ ys) t ≡ flat xs (flat ys t)
unfolding flat
flat_append [] ys t = refl
flat_append (x ∷ xs) ys t = ap {B = List ℕ} (λ l. x ++ l) (flat_append xs ys t)

pub flat_both : (xs ys : List Entry) (t : List ℕ) → flat (xs ++ ys) t ≡ flat xs [] ++ flat ys t
flat_both xs ys t = flat_append xs ys t ∙ flat-split xs (flat ys t)

pub flat-chunks : (m w : ℕ) (l : List ℕ) → flat (chunks m w l) [] ≡ take (m * w) l
unfolding flat chunks
flat-chunks zero w l = rw (zero-mul w)
flat-chunks (suc m) w l = rw (flat-chunks m w (drop w l), ← take-add w (m * w) l, more_words m w)

pub flat-length : (w : ℕ) (es : List Entry) → Proper w es → length (flat es []) ≡ length es * w
unfolding flat
flat-length w [] h = omega arith
flat-length w (e ∷ es) h =
    let i = flat-length w es h.2 in
    let l = length-append e (flat es []) in
    let m = suc-mul (length es) w in
    let n = h.0 in
    omega arith

flat-long : (es : List Entry) (t : List ℕ) → length t ≤ length (flat es t)
unfolding flat
flat-long [] t = omega arith
flat-long (e ∷ es) t = omega (arith, length-append e (flat es t), flat-long es t)

-- a rendered segment: 512 words, and the header as it is
cut_length : (n : ℕ) (h : List ℕ) (es : List Entry) (z : List ℕ) → n ≤ length z → length (take n (h ++ flat es z)) ≡ n
cut_length n h es z k = length-take-le n (h ++ flat es z) (omega (arith, length-append h (flat es z), flat-long es z))

pub render-length : (h : List ℕ) (es : List Entry) → length (render h es) ≡ 512
unfolding render
render-length h es = cut_length 512 h es (end_status ∷ replicate 512 0) (omega (arith, length-replicate {A = ℕ} 512 0))

pub render-head : (h : List ℕ) (es : List Entry) (k : ℕ) → k < length h → length h ≤ 512 → get_or (render h es) k 0 ≡ get_or h k 0
unfolding render
render-head h es k a b =
    get_or-take 512 (h ++ flat es (end_status ∷ replicate 512 0)) k 0 (omega arith)
    ∙ get_or-append h (flat es (end_status ∷ replicate 512 0)) 0 k a

-- its slots: the entries, a marker, and others
pub record Marked (es xs : List Entry) : Type 0 where
  pub marker : Entry
  pub rest : List Entry
  pub are : xs ≡ es ++ marker ∷ rest
  pub ends : kind marker ≡ End

chunks-flat : (w : ℕ) (z : List ℕ) → 7 ≤ w → (es : List Entry) (n j : ℕ) → Wide w es → length es < n → (length es + 1) * w ≤ j
    → Marked es (chunks n w (take j (flat es (end_status ∷ z))))
unfolding chunks flat kind_of
chunks-flat w z h [] zero j a l g = absurd (omega arith)
chunks-flat w z h [] (suc n) j a l g =
    record {
      marker = take w (take j (end_status ∷ z));
      rest = chunks n w (drop w (take j (end_status ∷ z)));
      are = refl;
      ends = rw (get_or-take w (take j (end_status ∷ z)) 0 0 (omega arith), get_or-take j (end_status ∷ z) 0 0 (omega arith));
    }
chunks-flat w z h (e ∷ es) zero j a l g = absurd (omega arith)
chunks-flat w z h (e ∷ es) (suc n) j a l g =
    let r = flat es (end_status ∷ z) in
    let i = chunks-flat w z h es n (j - w) a.1 (omega arith) (omega arith) in
    let t : take w (take j (e ++ r)) ≡ e = take-take w j (e ++ r) (omega arith) ∙ take_at e r w a.0 in
    let u : drop w (take j (e ++ r)) ≡ take (j - w) r = drop-take w j (e ++ r) ∙ (rw (drop_at e r w a.0)) in
    record {
      marker = i.marker;
      rest = i.rest;
      are = rw (t, u, i.are);
      ends = i.ends;
    }

pub slots-render : (w : ℕ) (h : List ℕ) (es : List Entry) → 7 ≤ w → length h ≡ 5 → Wide w es → length es < slot_count w
    → Marked es (slots w (render h es))
unfolding slots render
slots-render w h es l e a g =
    let f = flat es (end_status ∷ replicate 512 0) in
    let t : drop 5 (take 512 (h ++ f)) ≡ take 507 f = drop-take 5 512 (h ++ f) ∙ ap (take 507) (drop_at h f 5 e) in
    let m : (length es + 1) * w ≤ slot_count w * w = mul-le-mul_right w (omega arith) in
    rw t (chunks-flat w (replicate 512 0) l es (slot_count w) 507 a g (omega (arith, div-mul-le_self 507 w)))

-- its entries are read back
upto-marked : (w : ℕ) (es : List Entry) (marker : Entry) (rest : List Entry) → Proper w es → kind marker ≡ End
    → upto (es ++ marker ∷ rest) ≡ es
unfolding upto
upto-marked w [] marker rest h e = rw e
upto-marked w (x ∷ es) marker rest h e = rw (h.1, upto-marked w es marker rest h.2 e)

pub render-entries : (w : ℕ) (h : List ℕ) (es : List Entry) → 7 ≤ w → length h ≡ 5 → Proper w es → length es < slot_count w
    → upto (slots w (render h es)) ≡ es
render-entries w h es wide e a l =
    let m = slots-render w h es wide e (proper_wide w es a) l in
    rw m.are (upto-marked w es m.marker m.rest a m.ends)
