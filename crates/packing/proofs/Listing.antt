-- The list of moves along the chain. What is written so far, with the words of the moves ahead, is the words of all moves; a segment's moves are
-- followed by those of the segments after it.
use Prim.Native.Nat.{ℕ, ◌+◌, ◌≤◌}
use mathlib.Core.Path.{◌≡◌, refl, sym, ap, ◌∙◌}
use mathlib.Core.List.{List, [], ◌∷◌, ◌++◌, append-nil, append_assoc}
use native.Mathlib.Nat.{zero-add}
use native.Mathlib.Omega.{arith}
use lib.ListN.{length, drop, length-append}
use Rattle.meaning.specs.Words.{first_data, slot_words, total, chain}
use Rattle.laws.proofs.Way.{entries_in, spread, all-spread}
use Rattle.segment.specs.Written.{Written}
use Rattle.segment.proofs.Writes.{none_written, both_written}
use Rattle.squeezed.specs.Moves.{needed}
use Rattle.squeezed.specs.Squeeze.{free_up_to, places, moves, move_words}
use Rattle.squeezed.proofs.Along.{places-append}
use Rattle.packing.specs.Packs.{list_words}
use Rattle.packing.proofs.Outs.{moves-append}

-- the segments ss of the directory d are ahead, the first of which stands at block b, and p is the next free block
pub record Listing (d list₀ ss : List ℕ) (b p : ℕ) (list : List ℕ) (at : ℕ) : Type 0 where
  pub done : List ℕ
  pub written : Written list₀ 0 done list at
  pub words : done ++ list_words b p (spread (slot_words d) d ss) ≡ move_words (moves d)

pub lists : (d list : List ℕ) → Listing d list (chain d) (first_data d) (first_data d) list 0
unfolding moves
lists d list = record { done = []; written = none_written list 0; words = rw (all-spread d) refl }

-- one segment more
module _ {d list₀ : List ℕ} {s : ℕ} {ss : List ℕ} {b p : ℕ} {list : List ℕ} {at : ℕ} (i : Listing d list₀ (s ∷ ss) b p list at) where
  abbrev own : List ℕ
  own = list_words b p (entries_in (slot_words d) d s)

  abbrev rest : List ℕ
  rest = list_words (b + total (entries_in (slot_words d) d s)) (free_up_to b p (entries_in (slot_words d) d s)) (spread (slot_words d) d ss)

  words-split : i.done ++ (own ++ rest) ≡ move_words (moves d)
  words-split =
      let es = entries_in (slot_words d) d s in
      let fs = spread (slot_words d) d ss in
      ap (λ (l : List ℕ). i.done ++ l)
      (sym
      (ap (λ ms. move_words (needed ms)) (places-append es fs b p)
      ∙ moves-append (places b p es) (places (b + total es) (free_up_to b p es) fs)))
      ∙ i.words

  pub list-room : length (move_words (moves d)) ≤ length list₀ → at + length (list_words b p (entries_in (slot_words d) d s)) ≤ length list
  list-room room =
      let x = length-append i.done (own ++ rest) in
      let y = length-append own rest in
      let z = ap length words-split in
      omega (arith, i.written.next, i.written.long)

  pub lists_on : {after : List ℕ} {z : ℕ} → Written list at (list_words b p (entries_in (slot_words d) d s)) after z
      → Listing d list₀ ss (b + total (entries_in (slot_words d) d s)) (free_up_to b p (entries_in (slot_words d) d s)) after z
  lists_on {after} {z} u =
      record {
        done = i.done ++ own;
        written = both_written list₀ i.done list own after 0 at z (omega arith) i.written u;
        words = append_assoc i.done own rest ∙ words-split;
      }

-- the end
pub listed-all : {d list₀ : List ℕ} {b p : ℕ} {list : List ℕ} {at : ℕ} → Listing d list₀ [] b p list at
    → list ≡ move_words (moves d) ++ drop (length (move_words (moves d))) list₀
unfolding places needed move_words
listed-all {d} {list₀} {b} {p} {list} {at} i =
    let e : i.done ≡ move_words (moves d) = sym (append-nil i.done) ∙ i.words in
    i.written.words ∙ rw (zero-add (length i.done), e) refl
