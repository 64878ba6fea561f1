-- Slots. Code counts them down and reads them by the place of their first word: n slots are one slot and n - 1 more, in words as in the
-- list. The first of some slots are slots, and so are the rest, from the place where these begin; and the entries of a segment are its first
-- slots, as many as stand before the marker. Each by induction on the slots. Assumes nothing.
use Prim.Native.Nat.{ℕ, zero, suc, ◌+◌, ◌*◌, ◌-◌, ◌≤◌, ◌<◌}
use native.Mathlib.Nat.{zero-mul, suc-mul, add_comm, mul-le-mul_left, div-mul-le_self, sub-zero, suc-sub-suc, not-suc-le-zero, le_of_suc-le-suc}
use native.Mathlib.Omega.{arith}
use mathlib.Core.Path.{◌≡◌, refl, sym, ap, ◌∙◌}
use mathlib.Core.Bool.{Bool, true, false, cond}
use mathlib.Core.List.{List, [], ◌∷◌}
use lib.ListN.{length, get_or, take, drop}
use lib.Seq.{take-length, drop-drop}
use Rattle.meaning.specs.Kinds.{is_end}
use Rattle.meaning.specs.Words.{Entry, kind, segment, slot_words, slot_count, chunks, slots, upto}

-- the slots of segment s
abbrev pub slots_of : List ℕ → ℕ → List Entry
slots_of d s = slots (slot_words d) (segment d s)

-- the words of n slots, and of one slot more
pub mul_less : (n w : ℕ) → 0 < n → n * w ≡ (n - 1) * w + w
mul_less zero w h = absurd (omega arith)
mul_less (suc n) w h =
    let e : suc n - 1 ≡ n = omega arith in
    suc-mul n w ∙ ap (λ (k : ℕ). k * w + w) (sym e)

pub more_words : (n w : ℕ) → w + n * w ≡ suc n * w
more_words n w = add_comm w (n * w) ∙ sym (suc-mul n w)

-- the list of n slots
pub chunks_step : (n w : ℕ) (l : List ℕ) → 0 < n → chunks n w l ≡ take w l ∷ chunks (n - 1) w (drop w l)
unfolding chunks
chunks_step zero w l h = absurd (omega arith)
chunks_step (suc n) w l h =
    let e : n ≡ suc n - 1 = omega arith in
    ap (λ (k : ℕ). take w l ∷ chunks k w (drop w l)) e

pub length-chunks : (n w : ℕ) (l : List ℕ) → length (chunks n w l) ≡ n
unfolding chunks
length-chunks zero w l = refl
length-chunks (suc n) w l = ap suc (length-chunks n w (drop w l))

pub length-slots : (w : ℕ) (g : List ℕ) → length (slots w g) ≡ slot_count w
unfolding slots
length-slots w g = length-chunks (slot_count w) w (drop 5 g)

-- a slot has at least seven words, so there are at most 72
pub most-slots : (w : ℕ) → 7 ≤ w → slot_count w ≤ 72
most-slots w h =
    let a : slot_count w * 7 ≤ slot_count w * w = mul-le-mul_left (slot_count w) h in
    omega (arith, div-mul-le_self 507 w)

-- the first k of m slots, those after them, and the one at k
pub take_chunks : (m k w : ℕ) (l : List ℕ) → k ≤ m → take k (chunks m w l) ≡ chunks k w l
unfolding chunks
take_chunks m zero w l h = refl
take_chunks zero (suc k) w l h = absurd (not-suc-le-zero h)
take_chunks (suc m) (suc k) w l h = ap {B = List Entry} (λ r. take w l ∷ r) (take_chunks m k w (drop w l) (le_of_suc-le-suc h))

pub drop-chunks : (m k w : ℕ) (l : List ℕ) → k ≤ m → drop k (chunks m w l) ≡ chunks (m - k) w (drop (k * w) l)
unfolding chunks
drop-chunks m zero w l h = rw (sub-zero m, zero-mul w)
drop-chunks zero (suc k) w l h = absurd (not-suc-le-zero h)
drop-chunks (suc m) (suc k) w l h =
    drop-chunks m k w (drop w l) (le_of_suc-le-suc h) ∙ rw (suc-sub-suc m k, drop-drop (k * w) w l, more_words k w)

pub at-chunks : (m k w : ℕ) (l : List ℕ) → k < m → get_or (chunks m w l) k [] ≡ take w (drop (k * w) l)
unfolding chunks
at-chunks zero k w l h = absurd (not-suc-le-zero h)
at-chunks (suc m) zero w l h = rw (zero-mul w)
at-chunks (suc m) (suc k) w l h =
    at-chunks m k w (drop w l) (le_of_suc-le-suc h) ∙ rw (drop-drop (k * w) w l, more_words k w)

-- the entries are the first slots
by_first : (x : Bool) (e : Entry) (es : List Entry) (k : ℕ) (r : List Entry)
    → (k ≤ length es → take k es ≡ r)
    → suc k ≤ length (cond x [] (e ∷ es))
    → take (suc k) (cond x [] (e ∷ es)) ≡ e ∷ r
by_first true e es k r f h = absurd (not-suc-le-zero h)
by_first false e es k r f h = ap {B = List Entry} (λ l. e ∷ l) (f (le_of_suc-le-suc h))

pub first-slots : (n k w : ℕ) (l : List ℕ) → k ≤ length (upto (chunks n w l)) → take k (upto (chunks n w l)) ≡ chunks k w l
unfolding chunks upto
first-slots n zero w l h = refl
first-slots zero (suc k) w l h = absurd (not-suc-le-zero h)
first-slots (suc n) (suc k) w l h =
    by_first (is_end (kind (take w l))) (take w l) (upto (chunks n w (drop w l))) k (chunks k w (drop w l))
    (first-slots n k w (drop w l)) h

pub entries-slots : (n w : ℕ) (l : List ℕ) → upto (chunks n w l) ≡ chunks (length (upto (chunks n w l))) w l
entries-slots n w l =
    sym (take-length (upto (chunks n w l))) ∙ first-slots n (length (upto (chunks n w l))) w l (omega arith)

-- no more of them than slots
by_few : (x : Bool) (e : Entry) (es : List Entry) (n : ℕ) → length es ≤ n → length (cond x [] (e ∷ es)) ≤ suc n
by_few true e es n h = omega arith
by_few false e es n h = omega arith

few-entries : (n w : ℕ) (l : List ℕ) → length (upto (chunks n w l)) ≤ n
unfolding chunks upto
few-entries zero w l = omega arith
few-entries (suc n) w l = by_few (is_end (kind (take w l))) (take w l) _ n (few-entries n w (drop w l))

pub entries-count : (w : ℕ) (g : List ℕ) → length (upto (slots w g)) ≤ slot_count w
unfolding slots
entries-count w g = few-entries (slot_count w) w (drop 5 g)

-- the entry after k others
pub entry_at : (n w : ℕ) (l : List ℕ) (k : ℕ) → k < length (upto (chunks n w l))
    → get_or (upto (chunks n w l)) k [] ≡ take w (drop (k * w) l)
entry_at n w l k h =
    ap (λ (es : List Entry). get_or es k []) (entries-slots n w l) ∙ at-chunks (length (upto (chunks n w l))) k w l h
