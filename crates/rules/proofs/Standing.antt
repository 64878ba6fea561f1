-- Every row of a sound directory is where it says: the rows of a segment count its entries, so that the entries before a row's are those
-- that it has passed. A segment number and a slot are small, so that they fit words.
use Prim.Native.Nat.{ℕ, ◌+◌, ◌*◌, ◌-◌, ◌≤◌}
use native.Mathlib.Nat.{add-zero}
use native.Mathlib.Omega.{arith}
use mathlib.Core.Path.{◌≡◌, refl, sym, ap, ap₂, ◌∙◌}
use mathlib.Core.List.{List, [], ◌∷◌, ◌++◌, append_assoc}
use lib.ListN.{length, get_or, take, length-append}
use lib.Seq.{take-append_seam, get_or-append_seam}
use Rattle.meaning.specs.Words.{segment, first_of, slot_words, Entry, blocks, entries, total, chain, Row, rows_in, segment_rows, rows_of}
use Rattle.meaning.specs.Words.{rows}
use Rattle.walks.specs.Lists.{All}
use Rattle.walks.proofs.Alls.{all_append}
use Rattle.walks.proofs.Filled.{total-append}
use Rattle.walks.proofs.Linked.{Used, chain-used}
use Rattle.walks.proofs.Slots.{most-slots, entries-count}
use Rattle.rules.specs.Standing.{StandsAt}
use Rattle.rules.proofs.Rule5.{rule1-holds, rule2-holds}
use Rattle.rules.proofs.Soundness.{Sound}

-- an entry after others of its segment
pub stands_after : (d : List ℕ) (s : ℕ) → Used d s → (xs : List Entry) (e : Entry) (ys : List Entry) → entries d s ≡ xs ++ e ∷ ys
    → StandsAt d s (length xs + 1) (first_of (segment d s) + total xs) e
stands_after d s u xs e ys q =
    let k : length xs + 1 - 1 ≡ length xs = omega arith in
    let l = length-append xs (e ∷ ys) in
    let b = first_of (segment d s) in
    record {
      used = u;
      slot = (omega arith, rw q (omega arith));
      entry = ap₂ (λ (l : List Entry) (i : ℕ). get_or l i []) q k ∙ get_or-append_seam xs e ys [];
      first = ap₂ (λ (l : List Entry) (i : ℕ). b + total (take i l)) q k ∙ ap (λ (l : List Entry). b + total l) (take-append_seam xs (e ∷ ys));
    }

module _ (d : List ℕ) where
  abbrev pub RowStands : Row → Type 0
  RowStands r = StandsAt d r.seg r.slot r.first r.entry

  stand_in : (s : ℕ) → Used d s → (w a : ℕ) (xs es : List Entry) → entries d s ≡ xs ++ es
      → All RowStands (rows_in w s (length xs + 1) a (first_of (segment d s) + total xs) es)
  unfolding rows_in total
  stand_in s u w a xs [] q = tt
  stand_in s u w a xs (e ∷ es) q =
      let ys : List Entry = xs ++ e ∷ [] in
      let l : length ys + 1 ≡ length xs + 1 + 1 = ap (λ (n : ℕ). n + 1) (length-append xs (e ∷ [])) in
      let t : first_of (segment d s) + total ys ≡ first_of (segment d s) + total xs + blocks e = let i = total-append xs (e ∷ []) in omega arith in (
        stands_after d s u xs e es q,
        rw (← l, ← t) (stand_in s u w (a + w) ys es (q ∙ sym (append_assoc xs (e ∷ []) es))),
      )

  stand_of : (ss : List ℕ) → All (Used d) ss → All RowStands (rows_of d ss)
  unfolding rows_of segment_rows total
  stand_of [] u = tt
  stand_of (s ∷ ss) u =
      all_append RowStands (segment_rows d s) (rows_of d ss)
      (rw add-zero at (stand_in s u.0 (slot_words d) (512 * (s - 1) + 5) [] (entries d s) refl))
      (stand_of ss u.1)

pub rows-stand : (v : ℕ) (d : List ℕ) → Sound v d → All (RowStands d) (rows d)
unfolding rows
rows-stand v d s = stand_of d (chain d) (chain-used d s.links)

-- a segment is one of 31, and a slot one of 72
pub stands_small : (v : ℕ) (d : List ℕ) → Sound v d → (s k b : ℕ) (e : Entry) → StandsAt d s k b e → (s ≤ 31) × (k ≤ 72)
unfolding entries
stands_small v d sd s k b e x =
    let l = (rule1-holds v d sd.size).few in
    let h = (rule2-holds d sd.header).within in
    let c = entries-count (slot_words d) (segment d s) in
    let m = most-slots (slot_words d) (omega arith) in
    (omega (arith, x.used.1), omega (arith, x.slot.1))
