-- A segment with its slots made anew: it has 512 words, its slots are the new ones, its start is set, and words 0 to 3 and those behind the
-- slots stay. Along a chain that comes to no segment twice each is written once, and the others stay.
use Prim.Native.Nat.{ℕ, zero, suc, ◌+◌, ◌*◌, ◌-◌, ◌≤◌, ◌<◌, min}
use mathlib.Core.Path.{◌≡◌, refl, sym, ap, ◌∙◌}
use mathlib.Core.Bool.{Bool, true, false, cond, ◌||◌}
use mathlib.Core.List.{List, [], ◌∷◌, ◌++◌}
use native.Mathlib.Nat.{suc-mul, div-mul-le_self}
use native.Mathlib.Omega.{arith}
use lib.ListN.{length, get_or, take, drop, set, length-append, length-drop, length-set, get_or-append}
use lib.Seq.{get_or-take, take_at, drop_at, drop-drop, get_or_at, length-take-le}
use Rattle.meaning.specs.Kinds.{empty_status, end_status, is_permanent, is_end, is_unknown}
use Rattle.meaning.specs.Words.{segment, slot_words, slot_count, Entry, kind, blocks, chunks, slots, upto, total}
use Rattle.meaning.specs.Sound.{times}
use Rattle.meaning.specs.Requests.{flat}
use Rattle.meaning.specs.Enter.{with_segment}
use Rattle.walks.specs.Lists.{All}
use Rattle.walks.proofs.Linked.{Inside}
use Rattle.walks.proofs.Words.{segment-length, with_length, with_own, with_other}
use Rattle.walks.proofs.Slots.{slots_of, length-slots}
use Rattle.walks.proofs.Flat.{Wide}
use Rattle.walks.proofs.Times.{times_none, times-rest, times-own}
use Rattle.repaired.specs.Tool.{marked, emptied, next_first, no_more, mend, files_among, with_slots, mended}

-- slots, and the words that they make
chunks-wide : (n w : ℕ) (l : List ℕ) → n * w ≤ length l → Wide w (chunks n w l)
unfolding chunks
chunks-wide zero w l h = tt
chunks-wide (suc n) w l h =
    let m = suc-mul n w in
    (length-take-le w l (omega arith), chunks-wide n w (drop w l) (let k = length-drop w l in omega arith))

length-flat : (w : ℕ) (es : List Entry) (t : List ℕ) → Wide w es → length (flat es t) ≡ length es * w + length t
unfolding flat
length-flat w [] t a = omega arith
length-flat w (e ∷ es) t a =
    let i = length-flat w es t a.1 in
    let j = length-append e (flat es t) in
    let k = a.0 in
    let m = suc-mul (length es) w in
    omega arith

chunks-flat : (w : ℕ) (es : List Entry) (t : List ℕ) → Wide w es → chunks (length es) w (flat es t) ≡ es
unfolding flat chunks
chunks-flat w [] t a = refl
chunks-flat w (e ∷ es) t a = rw (take_at e (flat es t) w a.0, drop_at e (flat es t) w a.0, chunks-flat w es t a.1)

drop-flat : (w : ℕ) (es : List Entry) (t : List ℕ) → Wide w es → drop (length es * w) (flat es t) ≡ t
unfolding flat
drop-flat w [] t a = let z : 0 * w ≡ 0 = omega arith in rw z
drop-flat w (e ∷ es) t a =
    let m : suc (length es) * w ≡ w + length es * w = omega arith in
    rw m (sym (drop-drop (length es * w) w (e ++ flat es t)) ∙ (rw (drop_at e (flat es t) w a.0)) ∙ drop-flat w es t a.1)

-- a segment with its slots made anew
pub record Anew (w b : ℕ) (es : List Entry) (g r : List ℕ) : Type 0 where
  pub whole : length r ≡ 512
  pub heads : (j : ℕ) → j < 4 → get_or r j 0 ≡ get_or g j 0
  pub start : get_or r 4 0 ≡ b
  pub slots : slots w r ≡ es
  pub behind : drop (5 + slot_count w * w) r ≡ drop (5 + slot_count w * w) g

anew : (w b : ℕ) (es : List Entry) (g : List ℕ) → length g ≡ 512 → Wide w es → length es ≡ slot_count w → Anew w b es g (with_slots w b es g)
unfolding with_slots slots
anew w b es g l a n =
    record {
      whole =
          let x = length-append (take 4 g) (b ∷ f) in
          let y = length-flat w es t a in
          let z = length-drop (5 + slot_count w * w) g in
          let u : length es * w ≡ slot_count w * w = rw n in
          omega (arith, four, fits);
      heads = λ j h. get_or-append (take 4 g) (b ∷ f) 0 j (omega (arith, four)) ∙ get_or-take 4 g j 0 h;
      start = get_or_at (take 4 g) b f 0 4 four;
      slots = rw five (ap (λ (k : ℕ). chunks k w f) (sym n) ∙ chunks-flat w es t a);
      behind =
          sym (drop-drop (slot_count w * w) 5 (take 4 g ++ b ∷ f))
          ∙ (rw five)
          ∙ ap (λ (k : ℕ). drop (k * w) f) (sym n)
          ∙ drop-flat w es t a;
    }
  where
    t : List ℕ
    t = drop (5 + slot_count w * w) g

    f : List ℕ
    f = flat es t

    fits : slot_count w * w ≤ 507
    fits = div-mul-le_self 507 w

    four : length (take 4 g) ≡ 4
    four = length-take-le 4 g (omega arith)

    five : drop 5 (take 4 g ++ b ∷ f) ≡ f
    five = sym (drop-drop 1 4 (take 4 g ++ b ∷ f)) ∙ (rw (drop_at (take 4 g) (b ∷ f) 4 four))

-- the tool makes as many slots as there were, of as many words
module _ (v w : ℕ) where
  abbrev AsMany : List Entry → List Entry → Type 0
  AsMany es ms = (length ms ≡ length es) × Wide w ms

  mend-many : (es : List Entry) (b : ℕ) (fs : List ℕ) → Wide w es → AsMany es (mend v b fs es)
  unfolding mend
  mend-many [] b fs a = (refl, tt)
  mend-many (e ∷ es) b fs a =
      let n = next_first v fs - b in
      go (is_end (kind e)) (is_unknown (kind e) || no_more es) (is_permanent (kind e)) n
      (mend v (b + blocks e) (drop 1 fs) es) (mend v (b + n) fs es)
      (mend-many es (b + blocks e) (drop 1 fs) a.1) (mend-many es (b + n) fs a.1)
    where
      go : (x y z : Bool) (n : ℕ) (file gap : List Entry) → AsMany es file → AsMany es gap
          → AsMany (e ∷ es) (cond x (e ∷ es) (cond y (marked e ∷ es) (cond z (e ∷ file) (emptied n e ∷ gap))))
      go true y z n l m i j = (refl, a)
      go false true z n l m i j = (refl, (length-set e 0 end_status ∙ a.0, a.1))
      go false false true n l m i j = (ap suc i.0, (a.0, i.1))
      go false false false n l m i j =
          (ap suc j.0, (length-set (set e 0 empty_status) 4 n ∙ length-set e 0 empty_status ∙ a.0, j.1))

pub slots-wide : (d : List ℕ) (w s : ℕ) → Inside (length d) s → Wide w (slots w (segment d s))
unfolding slots
slots-wide d w s a =
    let x = segment-length d s a.0 a.1 in
    let y = length-drop 5 (segment d s) in
    let z : slot_count w * w ≤ 507 = div-mul-le_self 507 w in
    chunks-wide (slot_count w) w (drop 5 (segment d s)) (omega arith)

module _ (v : ℕ) (d : List ℕ) where
  -- the tool's slots of segment s, from block b on; where the next segment begins, and the first blocks that are left for it
  abbrev pub mend_at : ℕ → List ℕ → ℕ → List Entry
  mend_at b fs s = mend v b fs (slots_of d s)

  abbrev pub next_start : ℕ → List ℕ → ℕ → ℕ
  next_start b fs s = min v (b + total (upto (mend_at b fs s)))

  abbrev pub firsts_left : ℕ → List ℕ → ℕ → List ℕ
  firsts_left b fs s = drop (files_among (upto (mend_at b fs s))) fs

  -- the segment with these slots
  abbrev segment_anew : ℕ → List ℕ → ℕ → List ℕ
  segment_anew b fs s = with_slots (slot_words d) b (mend_at b fs s) (segment d s)

  abbrev pub AnewAt : ℕ → List ℕ → ℕ → List ℕ → Type 0
  AnewAt b fs s g = Anew (slot_words d) b (mend_at b fs s) (segment d s) g

  anew-at : (b : ℕ) (fs : List ℕ) (s : ℕ) → Inside (length d) s → AnewAt b fs s (segment_anew b fs s)
  anew-at b fs s a =
      let m = mend-many v (slot_words d) (slots_of d s) b fs (slots-wide d (slot_words d) s a) in
      anew (slot_words d) b (mend_at b fs s) (segment d s) (segment-length d s a.0 a.1) m.1
      (m.0 ∙ length-slots (slot_words d) (segment d s))

  -- in the directory t the segments ss are those of d, each made anew, from block b on
  abbrev pub AnewAlong : List ℕ → ℕ → List ℕ → List ℕ → Type 0
  AnewAlong t b fs [] = Unit {0}
  AnewAlong t b fs (s ∷ ss) = AnewAt b fs s (segment t s) × AnewAlong t (next_start b fs s) (firsts_left b fs s) ss

  -- the directory u is t with the segments ss made anew
  pub record Wrote (b : ℕ) (fs t u ss : List ℕ) : Type 0 where
    pub size : length u ≡ length d
    pub others : (z : ℕ) → 1 ≤ z → times z ss ≡ 0 → segment u z ≡ segment t z
    pub each : AnewAlong u b fs ss

  pub wrote : (ss : List ℕ) (b : ℕ) (fs t : List ℕ) → length t ≡ length d → All (Inside (length d)) ss → ((k : ℕ) → times k ss ≤ 1)
      → Wrote b fs t (mended v b fs d t ss) ss
  unfolding mended
  wrote [] b fs t l a f = record { size = l; others = λ z h e. refl; each = tt }
  wrote (s ∷ ss) b fs t l a f =
      let g = segment_anew b fs s in
      let an = anew-at b fs s a.0 in
      let low = a.0.0 in
      let high : 512 * s ≤ length t = rw l a.0.1 in
      let i =
      wrote ss (next_start b fs s) (firsts_left b fs s) (with_segment t s g) (with_length t s g low high an.whole ∙ l) a.1
      (λ k. times-rest k s ss (f k)) in
      record {
        size = i.size;
        others =
            λ z h e.
            let m = times_none z s ss e in
            i.others z h m.1 ∙ with_other t s g low high an.whole z h (λ r. m.0 (sym r));
        each = (rw (i.others s low (times-own s ss (f s)) ∙ with_own t s g low high an.whole) an, i.each);
      }
