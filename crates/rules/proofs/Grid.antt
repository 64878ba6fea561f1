-- Slots by their places. Slot k of segment s is the w words at 512 (s - 1) + 5 + k w, so the slots of a segment are read off a
-- list of places, its grid. Two places of slots, of whatever segments, are equal or at least w words apart.
use Prim.Native.Nat.{ℕ, zero, suc, ◌+◌, ◌*◌, ◌-◌, ◌≤◌, ◌<◌}
use mathlib.Core.Path.{◌≡◌, refl, sym, ap₂, ◌∙◌}
use mathlib.Core.Logic.{◌⊎◌, inl, inr}
use mathlib.Core.List.{List, [], ◌∷◌, map}
use native.Mathlib.Nat.{add_assoc, suc-mul, mul-le-mul_right, div-mul-le_self}
use native.Mathlib.Omega.{arith}
use native.Mathlib.Decide.{dec_lt}
use lib.ListN.{length, get_or, take, drop, length-take, length-drop}
use lib.Seq.{drop-drop}
use Rattle.meaning.specs.Words.{Entry, segment, slot_count, chunks, slots}
use Rattle.walks.specs.Lists.{All}
use Rattle.walks.proofs.Words.{base, word, slot-there}

-- the slot of w words at p, and its words
unfoldable pub entry_at : List ℕ → ℕ → ℕ → Entry
entry_at d w p = take w (drop p d)

pub word_at_lem : (d : List ℕ) (w p k : ℕ) → k < w → get_or (entry_at d w p) k 0 ≡ get_or d (p + k) 0
unfolding entry_at
word_at_lem d w p k h = word d p w k h

pub length_at : (d : List ℕ) (w p : ℕ) → p + w ≤ length d → length (entry_at d w p) ≡ w
unfolding entry_at
length_at d w p h = simp (length-take, length-drop) (omega arith)

-- n places from p on, and the places of segment s
unfoldable pub grid : ℕ → ℕ → ℕ → List ℕ
grid zero w p = []
grid (suc n) w p = p ∷ grid n w (p + w)

abbrev pub grid_of : ℕ → ℕ → List ℕ
grid_of w s = grid (slot_count w) w (512 * (s - 1) + 5)

chunks-grid : (n w : ℕ) (d : List ℕ) (s j : ℕ) → j + n * w ≤ 512
    → chunks n w (drop j (segment d s)) ≡ map (entry_at d w) (grid n w (base s + j))
unfolding chunks grid entry_at
chunks-grid zero w d s j h = refl
chunks-grid (suc n) w d s j h =
    let l = suc-mul n w in
    let i = chunks-grid n w d s (j + w) (omega arith) in
    ap₂ (λ (e : Entry) (es : List Entry). e ∷ es) (slot-there d s w j (omega arith)) (rw drop-drop (i ∙ rw (← add_assoc)))

pub slots-grid : (w : ℕ) (d : List ℕ) (s : ℕ) → slots w (segment d s) ≡ map (entry_at d w) (grid_of w s)
unfolding slots
slots-grid w d s = let l = div-mul-le_self 507 w in chunks-grid (slot_count w) w d s 5 (omega arith)

-- a place where a slot stands; the segment is counted from 0 here
pub record OnGrid (w p : ℕ) : Type 0 where
  pub seg : ℕ
  pub slot : ℕ
  pub fits : suc slot * w ≤ 507
  pub place : p ≡ 512 * seg + 5 + slot * w

pub tri : (a b : ℕ) → (a < b) ⊎ ((a ≡ b) ⊎ (b < a))
tri a b =
    elim (dec_lt a b) [
      | yes h ↦ inl h
      | no h ↦ elim (dec_lt b a) [ yes g ↦ inr (inr g) | no g ↦ inr (inl (omega arith)) ]
    ]

abbrev pub SlotsApart : ℕ → ℕ → ℕ → Type 0
SlotsApart w p q = (p + w ≤ q) ⊎ (q + w ≤ p)

pub far : (w p q : ℕ) → OnGrid w p → OnGrid w q → (p ≡ q) ⊎ SlotsApart w p q
far w p q x y = segs (tri x.seg y.seg)
  where
    same : x.seg ≡ y.seg → (x.slot < y.slot) ⊎ ((x.slot ≡ y.slot) ⊎ (y.slot < x.slot)) → (p ≡ q) ⊎ SlotsApart w p q
    same e (inl h) =
        let l : suc x.slot * w ≤ y.slot * w = mul-le-mul_right w h in
        inr (inl (omega (arith, x.place, y.place)))
    same e (inr (inl h)) = inl (x.place ∙ (rw (e, h)) ∙ sym y.place)
    same e (inr (inr h)) =
        let l : suc y.slot * w ≤ x.slot * w = mul-le-mul_right w h in
        inr (inr (omega (arith, x.place, y.place)))

    segs : (x.seg < y.seg) ⊎ ((x.seg ≡ y.seg) ⊎ (y.seg < x.seg)) → (p ≡ q) ⊎ SlotsApart w p q
    segs (inl h) = inr (inl (omega (arith, x.fits, x.place, y.place)))
    segs (inr (inl h)) = same h (tri x.slot y.slot)
    segs (inr (inr h)) = inr (inr (omega (arith, y.fits, x.place, y.place)))

-- the grid's own places, which stand within the segment
pub record Placed (w s p : ℕ) : Type 0 where
  pub on : OnGrid w p
  pub within : p + w ≤ 512 * s + 512

placed-from : (n w s k : ℕ) → (k + n) * w ≤ 507 → All (Placed w s) (grid n w (512 * s + 5 + k * w))
unfolding grid
placed-from zero w s k h = tt
placed-from (suc n) w s k h =
    let e : 512 * s + 5 + k * w + w ≡ 512 * s + 5 + suc k * w = omega arith in (
      record { on = record { seg = s; slot = k; fits = omega arith; place = refl }; within = omega arith },
      rw e (placed-from n w s (suc k) (omega arith)),
    )

pub grid-placed : (w s : ℕ) → All (Placed w (s - 1)) (grid_of w s)
grid-placed w s =
    let l = div-mul-le_self 507 w in
    let e : 512 * (s - 1) + 5 + 0 * w ≡ 512 * (s - 1) + 5 = omega arith in
    rw e at (placed-from (slot_count w) w (s - 1) 0 (omega arith))

-- a place after a slot is not the first of a segment
pub not_first : (w p s : ℕ) → 0 < w → OnGrid w p → p + w ≡ 512 * s + 5 → ⊥
not_first w p s l o e = go (tri o.seg s)
  where
    go : (o.seg < s) ⊎ ((o.seg ≡ s) ⊎ (s < o.seg)) → ⊥
    go (inl h) = omega (arith, o.fits, o.place)
    go (inr (inl h)) = omega (arith, o.fits, o.place)
    go (inr (inr h)) = omega (arith, o.fits, o.place)
