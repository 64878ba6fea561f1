-- A change of a directory that keeps its shape: it touches slots only, each as Touch allows. The chain, the headers and rules 1
-- to 5 stay as they were; and the rows are the rows before, each with its entry read anew and its first block fallen.
use Prim.Native.Nat.{ℕ, zero, suc, ◌+◌, ◌*◌, ◌-◌, ◌<◌}
use mathlib.Core.Path.{◌≡◌, refl, sym, ap, ap₂, ◌∙◌}
use mathlib.Core.Bool.{false}
use mathlib.Core.List.{List, [], ◌∷◌, ◌++◌, map, map-append}
use native.Mathlib.Nat.{add-zero, zero-add}
use native.Mathlib.Omega.{arith}
use lib.ListN.{length, get_or}
use Rattle.meaning.specs.Words.{first_data, segment, link_of, first_of, highest, slot_words, slot_count, Entry}
use Rattle.meaning.specs.Words.{entries, total, chain_from, chain, Row, segment_rows, rows_of, rows}
use Rattle.meaning.specs.Sound.{bad1, bad2, filled}
use Rattle.walks.specs.Links.{linked}
use Rattle.walks.proofs.Words.{header}
use Rattle.meaning.specs.declared.Key.{Key}
use Rattle.walks.specs.Lists.{All}
use Rattle.walks.proofs.Alls.{all_map}
use Rattle.rules.proofs.Grid.{entry_at, grid_of, slots-grid, OnGrid, Placed, grid-placed}
use Rattle.rules.proofs.Soundness.{Readable}
use Rattle.walks.proofs.Slots.{slots_of}
use Rattle.rules.proofs.Touch.{At, shifted, slots_kept, total_kept, rows-kept}

-- C: the keys that are named; δ: by how much the first block of the slot at a place falls, that of a segment's first slot by 0
pub record Move (C : Key → Type 0) (δ : ℕ → ℕ) (d d' : List ℕ) : Type 0 where
  pub size : length d' ≡ length d
  pub heads : (s j : ℕ) → j < 5 → get_or d' (512 * s + j) 0 ≡ get_or d (512 * s + j) 0
  pub start : (s : ℕ) → δ (512 * s + 5) ≡ 0
  pub at : (p : ℕ) → OnGrid (slot_words d) p → At C δ (slot_words d) (entry_at d (slot_words d)) (entry_at d' (slot_words d)) p

module _ (C : Key → Type 0) (δ : ℕ → ℕ) (d d' : List ℕ) (m : Move C δ d d') where
  abbrev w : ℕ
  w = slot_words d

  abbrev f : ℕ → Entry
  f p = entry_at d (slot_words d) p

  abbrev f' : ℕ → Entry
  f' p = entry_at d' (slot_words d) p

  -- headers
  head-same : (s j : ℕ) → j < 5 → get_or (segment d' s) j 0 ≡ get_or (segment d s) j 0
  head-same s j h = header d' s j (omega arith) ∙ m.heads (s - 1) j h ∙ sym (header d s j (omega arith))

  word0 : get_or d' 0 0 ≡ get_or d 0 0
  word0 = m.heads 0 0 (omega arith)

  word2 : get_or d' 2 0 ≡ get_or d 2 0
  word2 = m.heads 0 2 (omega arith)

  word3 : get_or d' 3 0 ≡ get_or d 3 0
  word3 = m.heads 0 3 (omega arith)

  pub width_same : slot_words d' ≡ slot_words d
  width_same = rw word3

  pub bad1-same : (v : ℕ) → bad1 v d' ≡ bad1 v d
  unfolding bad1
  bad1-same v = rw m.size

  pub bad2-same : bad2 d' ≡ bad2 d
  unfolding bad2
  bad2-same = rw (word0, word2, word3, m.size)

  -- the chain
  chain-from : (n s : ℕ) → chain_from n d' s ≡ chain_from n d s
  unfolding chain_from
  chain-from zero s = refl
  chain-from (suc n) s = rw (head-same s 1 (omega arith)) (ap {B = List ℕ} (λ l. s ∷ l) (chain-from n _))

  pub chain_same : chain d' ≡ chain d
  unfolding chain
  chain_same = rw word2 (chain-from (highest d) 1)

  linked-from : (n s : ℕ) → linked n d' s ≡ linked n d s
  unfolding linked
  linked-from zero s = refl
  linked-from (suc n) s =
      rw (
        head-same s 0 (omega arith),
        head-same s 1 (omega arith),
        head-same s 3 (omega arith),
        word0,
        word2,
        word3,
        linked-from n (link_of (segment d s)),
      )

  pub linked-same : linked (highest d') d' 1 ≡ linked (highest d) d 1
  linked-same = rw word2 (linked-from (highest d) 1)

  -- the slots of a segment
  slots-before : (s : ℕ) → slots_of d s ≡ map f (grid_of w s)
  slots-before s = slots-grid w d s

  slots-after : (s : ℕ) → slots_of d' s ≡ map f' (grid_of w s)
  slots-after s = rw width_same (slots-grid w d' s)

  touches : (s : ℕ) → All (At C δ w f f') (grid_of w s)
  touches s = all_map (Placed w (s - 1)) (At C δ w f f') (λ p x. m.at p x.on) (grid_of w s) (grid-placed w s)

  pub readable-kept : (ss : List ℕ) → All (Readable d) ss → All (Readable d') ss
  readable-kept [] a = tt
  readable-kept (s ∷ ss) a = (
    rw (slots-after s)
        (slots_kept C δ w f f' (grid_of w s) false false (λ t. t) (touches s) (rw (slots-before s) at a.0)),
    readable-kept ss a.1,
  )

  total-same : (s : ℕ) → Readable d s → total (entries d' s) ≡ total (entries d s)
  unfolding entries
  total-same s h =
      rw (slots-before s, slots-after s)
      (total_kept C δ w f f' _ _ false (touches s) (rw (slots-before s) at h) ∙ (rw (m.start (s - 1)) (zero-add _)))

  filled-from : (v b : ℕ) (ss : List ℕ) → All (Readable d) ss → filled v d' b ss ≡ filled v d b ss
  unfolding filled
  filled-from v b [] a = refl
  filled-from v b (s ∷ ss) a =
      rw (head-same s 4 (omega arith), total-same s a.0, filled-from v (b + total (entries d s)) ss a.1)

  pub filled-same : (v : ℕ) → All (Readable d) (chain d)
      → filled v d' (first_data d') (chain d') ≡ filled v d (first_data d) (chain d)
  filled-same v a = rw (m.size, chain_same) (filled-from v (first_data d) (chain d) a)

  -- the rows
  segment-moved : (s : ℕ) → segment_rows d' s ≡ map (shifted δ f') (segment_rows d s)
  unfolding segment_rows entries
  segment-moved s =
      rw (head-same s 4 (omega arith), slots-before s, slots-after s, width_same)
      (rows-kept C δ w f f' s (slot_count w) 1 (512 * (s - 1) + 5) (first_of (segment d s)) (first_of (segment d s))
      (rw (m.start (s - 1)) (sym (add-zero _)))
      (touches s))

  moved-from : (ss : List ℕ) → rows_of d' ss ≡ map (shifted δ f') (rows_of d ss)
  unfolding rows_of
  moved-from [] = refl
  moved-from (s ∷ ss) =
      ap₂ (λ (x y : List Row). x ++ y) (segment-moved s) (moved-from ss)
      ∙ sym (map-append (shifted δ f') (segment_rows d s) (rows_of d ss))

  pub rows-moved : rows d' ≡ map (shifted δ f') (rows d)
  unfolding rows
  rows-moved = rw chain_same (moved-from (chain d))
