-- A segment made anew, as words. Entries with the new one among them are, in words, the slots before the area, the gap, the new
-- entry, and the area with the slots after it, of which one word is changed. A segment is its header, these words, the marker and
-- zeros: what three writes into zeros give. Assumes nothing.
use Prim.Native.Nat.{ℕ, suc, ◌+◌, ◌*◌, ◌-◌, ◌≤◌, ◌<◌}
use mathlib.Core.Path.{◌≡◌, refl, sym, ap, ◌∙◌}
use mathlib.Core.Bool.{Bool, true, false, cond}
use mathlib.Core.List.{List, [], ◌∷◌, ◌++◌, append_assoc, append-nil}
use native.Mathlib.Omega.{arith}
use native.Mathlib.Nat.{suc-mul, add-mul}
use lib.ListN.{length, get_or, take, drop, set, replicate, length-append, length-drop, length-set, length-replicate}
use lib.Seq.{take-add, take_all, take-take, drop-drop, length-take-le, set-append_left, get_or-take, get_or-drop}
use lib.Dec.{eqb}
use borrow.Author.Tests.{eq-eqb, ne_eqb}
use Rattle.meaning.specs.declared.Name.{Name}
use Rattle.meaning.specs.Kinds.{empty_status, end_status}
use Rattle.meaning.specs.Words.{Entry, blocks, chunks}
use Rattle.meaning.specs.Requests.{entry_of, empty_entry, flat, render}
use Rattle.meaning.specs.Enter.{inserted}
use Rattle.segment.specs.Written.{Written}
use Rattle.render.specs.Anew.{gap_words, inserted_words, rendered_words}
use Rattle.segment.proofs.Writes.{one_written, both_written, set-written, written-anew}
use Rattle.walks.proofs.Words.{take_zeros, drop-take}
use Rattle.walks.proofs.Slots.{take_chunks, drop-chunks, at-chunks}
use Rattle.walks.proofs.Flat.{flat-split, flat_append, flat-chunks}

-- an entry of w words is the first w of a longer one
pub entry-take : (w s : ℕ) (m : Name) (n x d : ℕ) → 7 ≤ w → w ≤ 23 → take w (entry_of 23 s m n x d) ≡ entry_of w s m n x d
unfolding entry_of
entry-take w s m n x d h k =
    let e : w ≡ suc (suc (suc (suc (suc (suc (suc (w - 7))))))) = omega arith in
    ap (λ (i : ℕ). take i (entry_of 23 s m n x d)) e
    ∙ ap {B = List ℕ} (λ l. s ∷ m.first ∷ m.second ∷ m.extension ∷ n ∷ x ∷ d ∷ l) (take_zeros (w - 7) 16 (omega arith))

-- the name of an empty entry that is made
abbrev pub blank : Name
blank = record { first = 0; second = 0; extension = 0 }

-- the gap
pub gap-none : (w cost : ℕ) → (cost ≡ 2 → ⊥) → gap_words w cost ≡ []
unfolding gap_words
gap-none w cost h = rw (ne_eqb cost 2 h)

pub gap-some : (w cost : ℕ) → cost ≡ 2 → gap_words w cost ≡ empty_entry w 0
unfolding gap_words
gap-some w cost h = rw (eq-eqb cost 2 h)

-- as code makes it
pub gap_array_lem : (w : ℕ) → w ≤ 23 → length (take w (set {A = ℕ} (replicate 23 0) 0 empty_status)) ≡ w
gap_array_lem w h = length-take-le w (set (replicate 23 0) 0 empty_status) (omega arith)

pub gap-due : (w cost : ℕ) → cost ≡ 2 → 7 ≤ w → w ≤ 23 → take w (set (replicate 23 0) 0 empty_status) ≡ gap_words w cost
unfolding entry_of
gap-due w cost e h k = entry-take w empty_status blank 0 0 0 h k ∙ sym (gap-some w cost e)

gap-flat : (x : Bool) (e : Entry) → flat (cond x (e ∷ []) []) [] ≡ cond x e []
unfolding flat
gap-flat true e = append-nil e
gap-flat false e = refl

-- the words of the entries after an insertion
ins_flat : (xs g rest : List Entry) (new area : Entry)
    → flat (xs ++ g ++ new ∷ area ∷ rest) [] ≡ flat xs [] ++ flat g [] ++ new ++ (area ++ flat rest [])
unfolding flat
ins_flat xs g rest new area =
    flat_append (xs ++ g) (new ∷ area ∷ rest) []
    ∙ flat_append xs g (new ++ (area ++ flat rest []))
    ∙ flat-split xs (flat g (new ++ (area ++ flat rest [])))
    ∙ ap {B = List ℕ} (λ l. flat xs [] ++ l) (flat-split g (new ++ (area ++ flat rest [])))
    ∙ simp append_assoc

module _ (m k w : ℕ) (l : List ℕ) (low : k < m) (wide : 7 ≤ w) (fit : m * w ≤ length l) where
  below : k * w + w + (m - suc k) * w ≡ m * w
  below =
      let e : suc k + (m - suc k) ≡ m = omega arith in
      rw (← suc-mul k w, ← add-mul (suc k) (m - suc k) w, e)

  -- the area and the slots after it, with the area's length changed
  area-rest : (y : ℕ) → set (take w (drop (k * w) l)) 4 y ++ take ((m - suc k) * w) (drop (suc k * w) l)
      ≡ set (drop (k * w) (take (m * w) l)) 4 y
  area-rest y =
      let b = below in
      let e : m * w - k * w ≡ w + (m - suc k) * w = omega arith in
      let n : length (take w (drop (k * w) l)) ≡ w = length-take-le w (drop (k * w) l) (rw (length-drop (k * w) l) (omega arith)) in
      rw (drop-take (k * w) (m * w) l, e, take-add w ((m - suc k) * w) (drop (k * w) l), drop-drop w (k * w) l)
      (sym (set-append_left (take w (drop (k * w) l)) _ 4 y (omega arith)) ∙ rw (suc-mul k w))

  pub inserted-words : (cost : ℕ) (new : Entry) → length new ≡ w
      → flat (inserted w new (blocks new) cost k (chunks m w l)) [] ≡ inserted_words (k * w) cost new (take (m * w) l)
  unfolding inserted inserted_words gap_words
  inserted-words cost new n =
      let b = below in
      let gap : Entry = empty_entry w 0 in
      let y : ℕ = get_or l (k * w + 4) 0 - blocks new in
      ins_flat (take k (chunks m w l)) (cond (eqb cost 2) (gap ∷ []) []) (drop (suc k) (chunks m w l)) new
      (set (get_or (chunks m w l) k []) 4 (blocks (get_or (chunks m w l) k []) - blocks new))
      ∙ rw (
        gap-flat (eqb cost 2) gap,
        take_chunks m k w l (omega arith),
        drop-chunks m (suc k) w l low,
        at-chunks m k w l low,
        get_or-take w (drop (k * w) l) 4 0 (omega arith),
        get_or-drop (k * w) l 4 0,
        flat-chunks k w l,
        flat-chunks (m - suc k) w (drop (suc k * w) l),
        area-rest y,
        n,
        take-take (k * w) (m * w) l (omega arith),
        get_or-take (m * w) l (k * w + 4) 0 (omega arith),
      )

pub inserted-length : (p cost : ℕ) (new l : List ℕ) → p ≤ length l
    → length (inserted_words p cost new l) ≡ length l + length new + length (gap_words (length new) cost)
unfolding inserted_words
inserted-length p cost new l h =
    simp (length-append, length-take-le p l h, length-set, length-drop) (omega arith)

-- the words from p on, as code takes them
pub rest-is : (p : ℕ) (l : List ℕ) → take (length l - p) (drop p l) ≡ drop p l
rest-is p l = take_all (length l - p) (drop p l) (omega (arith, length-drop p l))

-- the four writes of an insertion, and the area's length changed
pub inserted-written : {b m₁ m₂ m₃ m₄ : List ℕ} {q y₁ y₂ y₃ z : ℕ} (p cost : ℕ) (new l : List ℕ)
    → q ≤ length b
    → 7 ≤ length new
    → p + length new ≤ length l
    → Written b q (take p l) m₁ y₁
    → Written m₁ y₁ (gap_words (length new) cost) m₂ y₂
    → Written m₂ y₂ new m₃ y₃
    → Written m₃ y₃ (take (length l - p) (drop p l)) m₄ z
    → z ≤ length b
    → Written b q (inserted_words p cost new l) (set m₄ (y₃ + 4) (get_or l (p + 4) 0 - blocks new)) z
unfolding inserted_words
inserted-written {b} {m₁} {m₂} {m₃} {m₄} {q} {y₁} {y₂} {y₃} {z} p cost new l h wide slot u₁ u₂ u₃ u₄ room =
    let x : ℕ = get_or l (p + 4) 0 - blocks new in
    let g : List ℕ = gap_words (length new) cost in
    let v₂ = both_written b (take p l) m₁ g m₂ q y₁ y₂ h u₁ u₂ in
    let v₃ = both_written b (take p l ++ g) m₂ new m₃ q y₂ y₃ h v₂ u₃ in
    let e : take (length l - p) (drop p l) ≡ drop p l = rest-is p l in
    let u₅ = set-written m₃ (drop p l) m₄ y₃ z 4 x (omega (arith, u₄.next, v₃.long)) (rw (length-drop p l) (omega arith)) (rw e at u₄) in
    both_written b (take p l ++ g ++ new) m₃ (set (drop p l) 4 x) (set m₄ (y₃ + 4) x) q y₃ z h v₃ u₅

-- a segment: its header, words and the marker, written into m zeros
pub segment-written : (m : ℕ) {h l o₁ o₂ : List ℕ} {y z : ℕ} → z < m
    → Written (replicate m 0) 0 h o₁ y
    → Written o₁ y l o₂ z
    → set o₂ z end_status ≡ take m (h ++ (l ++ end_status ∷ replicate m 0))
segment-written m {h} {l} {o₁} {o₂} {y} {z} k u v =
    let zs : List ℕ = replicate m 0 in
    let t = both_written zs h o₁ l o₂ 0 y z (omega arith) u v in
    let n : z < length o₂ = omega (arith, t.long, length-replicate {A = ℕ} m 0) in
    let w = both_written zs (h ++ l) o₂ (end_status ∷ []) (set o₂ z end_status) 0 z (z + 1) (omega arith) t (one_written o₂ z end_status n) in
    written-anew m (h ++ l ++ (end_status ∷ [])) (set o₂ z end_status) (z + 1) (omega arith) w
    ∙ ap (λ (r : List ℕ). take m r) (simp append_assoc)

pub rendered : (header : List ℕ) (es : List Entry) → render header es ≡ rendered_words header (flat es [])
unfolding render rendered_words
rendered header es = by_words (end_status ∷ replicate 512 0)
  where
    by_words : (z : List ℕ) → take 512 (header ++ flat es z) ≡ take 512 (header ++ (flat es [] ++ z))
    by_words z = rw (flat-split es z)
