-- A segment written anew. Header, packed entries, what is left over and the marker are written into zeros one after the other, which is the
-- rendered segment; there is room, since every entry that comes out has w words and there are fewer than a segment has slots.
use Prim.Native.Nat.{ℕ, ◌+◌, ◌*◌, ◌≤◌, ◌<◌}
use mathlib.Core.Path.{◌≡◌, refl, sym, ap, ◌∙◌}
use mathlib.Core.Bool.{Bool, true, false, cond}
use mathlib.Core.List.{List, [], ◌∷◌, ◌++◌}
use native.Mathlib.Nat.{mul-le-mul_right, div-mul-le_self, add-mul}
use native.Mathlib.Omega.{arith}
use lib.ListN.{length, take, set, replicate, length-append, length-set, length-replicate}
use lib.Seq.{length-take-le}
use lib.Dec.{eqb}
use Rattle.meaning.specs.Kinds.{end_status}
use Rattle.meaning.specs.Words.{Entry, first_of, slot_count, slots, upto}
use Rattle.meaning.specs.Requests.{flat, render}
use Rattle.walks.proofs.Flat.{Proper, entries_proper, flat-length, flat_both}
use Rattle.segment.specs.Written.{Written}
use Rattle.segment.proofs.Writes.{both_written, set-written}
use Rattle.render.specs.Anew.{rendered_words}
use Rattle.render.proofs.Anew.{segment-written, rendered}
use Rattle.squeezed.specs.Squeeze.{new_place, left_over, packed_entries}
use Rattle.squeezed.proofs.Steps.{over}
use Rattle.squeezed.proofs.Walk.{walk}
use Rattle.squeezed.proofs.Along.{free-bounds}
use Rattle.tally.specs.Walks.{next_free}
use Rattle.packing.specs.Packs.{left_words, packed_words}
use Rattle.packing.specs.Anew.{last_block, new_entries, Packable, PackedTo}

-- what comes out has w words, and is no marker
packed_proper : (w : ℕ) → 7 ≤ w → (es t : List Entry) (b p : ℕ) → p ≤ b → Proper w es → Proper w t → Proper w (packed_entries w b p es ++ t)
packed_proper w enough es t b p h a c =
    walk w t (λ b p es out. Proper w es → Proper w out) (λ b p a. c) (λ b p e es out f i a. i a.2)
    (λ b p e es out f l i a.
    let rest : Proper w (e ∷ out) = (a.0, a.1, i a.2) in
    over (λ x. Proper w (x ++ e ∷ out)) w p (new_place b p e) enough l.0 (λ y. rest) (λ g y. (y.wide, rw y.kind refl, rest)))
    es b p h a

pub end-bounds : (left q v : ℕ) → q ≤ v → (q ≤ last_block left q v) × (last_block left q v ≤ v)
end-bounds left q v h = go (eqb left 1)
  where
    go : (x : Bool) → (q ≤ cond x v q) × (cond x v q ≤ v)
    go true = (h, omega arith)
    go false = (omega arith, h)

module _ {v w left p : ℕ} {g : List ℕ} (ready : Packable v w left p g) where
  abbrev es : List Entry
  es = upto (slots w g)

  -- the next free block does not pass the volume's end
  pub free-small : next_free w p g ≤ v
  free-small = let b = free-bounds es (first_of g) p ready.walk.low in omega (arith, ready.high)

  pub last-bounds : (next_free w p g ≤ last_block left (next_free w p g) v) × (last_block left (next_free w p g) v ≤ v)
  last-bounds = end-bounds left (next_free w p g) v free-small

  abbrev last : List Entry
  last = left_over w (next_free w p g) (last_block left (next_free w p g) v)

  last_proper : Proper w last
  last_proper =
      over (λ x. Proper w x) w (next_free w p g) (last_block left (next_free w p g) v) ready.walk.wide last-bounds.0 (λ e. tt)
      (λ h x. (x.wide, rw x.kind refl, tt))

  proper : Proper w (packed_entries w (first_of g) p es ++ last)
  proper =
      packed_proper w ready.walk.wide es last (first_of g) p ready.walk.low (entries_proper w g ready.walk.whole) last_proper

  -- the words of both, and the marker behind them, lie in the segment
  words_both : flat (packed_entries w (first_of g) p es ++ last) [] ≡ packed_words w (first_of g) p es ++ flat last []
  words_both = flat_both (packed_entries w (first_of g) p es) last []

  words-room : 5 + length (packed_words w (first_of g) p es) + length (flat last []) < 512
  unfolding new_entries
  words-room =
      let n = length (packed_entries w (first_of g) p es ++ last) in
      let a = flat-length w (packed_entries w (first_of g) p es ++ last) proper in
      let b = length-append (packed_words w (first_of g) p es) (flat last []) in
      let c = ap length words_both in
      let m : (n + 1) * w ≤ slot_count w * w = mul-le-mul_right w (omega (arith, ready.fits)) in
      let k : (n + 1) * w ≡ n * w + 1 * w = add-mul n 1 w in
      omega (arith, div-mul-le_self 507 w, ready.walk.wide)

  header-end : {o : List ℕ} {y : ℕ} → Written (replicate 512 0) 0 (take 5 g) o y → y ≡ 5
  header-end {o} {y} u =
      let five : length (take 5 g) ≡ 5 = length-take-le 5 g (omega (arith, ready.walk.whole)) in
      omega (arith, u.next)

  pub entries-room : {o : List ℕ} {y : ℕ} → Written (replicate 512 0) 0 (take 5 g) o y
      → y + length (packed_words w (first_of g) p es) ≤ length (set o 4 p)
  entries-room {o} {y} u =
      rw (length-set o 4 p) (omega (arith, words-room, header-end u, u.long, length-replicate {A = ℕ} 512 0))

  -- where code comes to, after the entries: the next free block f, and the block q up to which what is left over stands last
  module _ {f q : ℕ} (is_free : f ≡ next_free w p g) (is-end : q ≡ last_block left f v) where
    left_is : left_words w f q ≡ flat last []
    left_is = rw (is-end, is_free) refl

    pub left-ready : (f ≤ q) × (q ≤ 65535)
    left-ready = let b = last-bounds in rw (is-end, is_free) (b.0, omega (arith, ready.small))

    pub left-room : {o₁ o₂ : List ℕ} {y₁ y₂ : ℕ} → Written (replicate 512 0) 0 (take 5 g) o₁ y₁
        → Written (set o₁ 4 p) y₁ (packed_words w (first_of g) p es) o₂ y₂ → y₂ + length (left_words w f q) < 512
    left-room {o₁} {o₂} {y₁} {y₂} u₁ u₂ = rw left_is (omega (arith, words-room, header-end u₁, u₂.next))

    -- header, entries, what is left over, marker; and all of it copied back
    pub segment-made : {o₁ o₂ o₃ x : List ℕ} {y₁ y₂ y₃ : ℕ}
        → Written (replicate 512 0) 0 (take 5 g) o₁ y₁
        → Written (set o₁ 4 p) y₁ (packed_words w (first_of g) p es) o₂ y₂
        → Written o₂ y₂ (left_words w f q) o₃ y₃
        → x ≡ set o₃ y₃ end_status
        → PackedTo v w left p g x f
    unfolding new_entries rendered_words
    segment-made {o₁} {o₂} {o₃} {x} {y₁} {y₂} {y₃} u₁ u₂ u₃ u₄ =
        let zs : List ℕ = replicate 512 0 in
        let h : List ℕ = set (take 5 g) 4 p in
        let five : length (take 5 g) ≡ 5 = length-take-le 5 g (omega (arith, ready.walk.whole)) in
        let v₁ = set-written zs (take 5 g) o₁ 0 y₁ 4 p (omega arith) (omega arith) u₁ in
        let v₃ =
        both_written (set o₁ 4 p) (packed_words w (first_of g) p es) o₂ (flat last []) o₃ y₁ y₂ y₃
        (omega (arith, v₁.next, v₁.long, length-set (take 5 g) 4 p, length-replicate {A = ℕ} 512 0)) u₂ (rw left_is at u₃) in
        let k : y₃ < 512 = omega (arith, left-room u₁ u₂, u₃.next) in
        let made : set o₃ y₃ end_status ≡ render h (packed_entries w (first_of g) p es ++ last) =
        segment-written 512 k v₁ (rw (← words_both) at v₃) ∙ sym (rendered h (packed_entries w (first_of g) p es ++ last)) in
        record { words = u₄ ∙ made; free = is_free }
