-- A stream part by part. Where a part goes on, the answer and the memory are those of the stream behind it; where it does not, they are its own. A
-- part that goes on lies whole in the stream; and where the answer is a success, no part of it was refused.
use Prim.Native.Nat.{ℕ, zero, suc, ◌+◌, ◌-◌, ◌≤◌, ◌<◌}
use native.Mathlib.Numerals.{add-one}
use native.Mathlib.Omega.{arith}
use mathlib.Core.Path.{◌≡◌, refl, sym, ap, ◌∙◌}
use mathlib.Core.Bool.{Bool, true, false, cond, false≢true}
use mathlib.Core.List.{List, [], ◌∷◌}
use borrow.Author.Tests.{ne_eqb, eqb-true}
use lib.ListN.{length, get_or, take, drop, length-drop}
use lib.Seq.{take_all}
use lib.Dec.{eqb}
use Rattle.loads.specs.Blocks.{address_of, data_count, is_end_block, block_number, right_block, block_by, part_of}
use Rattle.loads.specs.Reading.{goes_on, rest_of, answer_of, stored_by, read_from, fill_from}
use Rattle.loads.specs.declared.Part.{Part}
use Rattle.loads.specs.declared.Part.TheVariants.{Gap, Block, End, Refused}
use Rattle.loads.proofs.Parts.{Right, right}

-- what a slice from a place to the end is
pub rest-is : (k : ℕ) (s : List ℕ) → take (length s - k) (drop k s) ≡ drop k s
rest-is k s = take_all (length s - k) (drop k s) (omega (arith, length-drop k s))

-- the bytes of the part before are passed
pub skip_read : (l k : ℕ) (s : List ℕ) → read_from l k s ≡ read_from l 0 (drop k s)
unfolding read_from
skip_read l zero s = refl
skip_read l (suc k) [] = refl
skip_read l (suc k) (b ∷ s) = skip_read l k s

pub skip_fill : (l k : ℕ) (s m : List ℕ) → fill_from l k s m ≡ fill_from l 0 (drop k s) m
unfolding fill_from
skip_fill l zero s m = refl
skip_fill l (suc k) [] m = refl
skip_fill l (suc k) (b ∷ s) m = skip_fill l k s m

pub reads_on : (l : ℕ) (s : List ℕ) → goes_on (part_of l s) ≡ true → read_from l 0 s ≡ read_from l 0 (drop (rest_of (part_of l s) + 1) s)
unfolding read_from part_of
reads_on l [] h = absurd (false≢true h)
reads_on l (b ∷ s) h = rw (h, add-one) (skip_read l _ s)

pub reads-last : (l : ℕ) (s : List ℕ) → goes_on (part_of l s) ≡ false → read_from l 0 s ≡ answer_of (part_of l s)
unfolding read_from part_of
reads-last l [] h = refl
reads-last l (b ∷ s) h = rw h

pub fills-on : (l : ℕ) (s m : List ℕ) → goes_on (part_of l s) ≡ true
    → fill_from l 0 s m ≡ fill_from l 0 (drop (rest_of (part_of l s) + 1) s) (stored_by (part_of l s) s m)
unfolding fill_from part_of
fills-on l [] m h = absurd (false≢true h)
fills-on l (b ∷ s) m h = rw (h, add-one) (skip_fill l _ s _)

pub fills-last : (l : ℕ) (s m : List ℕ) → goes_on (part_of l s) ≡ false → fill_from l 0 s m ≡ m
unfolding fill_from part_of
fills-last l [] m h = refl
fills-last l (b ∷ s) m h = rw h

-- a part that goes on is in the stream, all of it
passes-right : (l : ℕ) (s : List ℕ) (t : Bool) → Right l s
    → goes_on (cond t (End (address_of s)) (Block (address_of s) (data_count s))) ≡ true
    → rest_of (cond t (End (address_of s)) (Block (address_of s) (data_count s))) + 1 ≤ length s
unfolding data_count
passes-right l s true r h = absurd (false≢true h)
passes-right l s false r h = omega (arith, r.whole, r.counted)

passes_by : (l n : ℕ) (s : List ℕ) → block_number l s ≡ n → goes_on (block_by n s) ≡ true → rest_of (block_by n s) + 1 ≤ length s
unfolding block_by right_block
passes_by l n s e =
    (elim (eqb n 0) as (λ t. eqb n 0 ≡ t → goes_on (cond t (right_block s) (Refused n)) ≡ true
    → rest_of (cond t (right_block s) (Refused n)) + 1 ≤ length s) [
      | true ↦ λ f h. passes-right l s (is_end_block s) (right l s (e ∙ eqb-true n 0 f)) h
      | false ↦ λ f h. absurd (false≢true h)
    ])
    refl

passes : (l : ℕ) (s : List ℕ) → goes_on (part_of l s) ≡ true → rest_of (part_of l s) + 1 ≤ length s
unfolding part_of
passes l [] h = absurd (false≢true h)
passes l (b ∷ s) h =
    (elim (eqb b 0) as (λ t. goes_on (cond t Gap (block_by (block_number l (b ∷ s)) (b ∷ s))) ≡ true
    → rest_of (cond t Gap (block_by (block_number l (b ∷ s)) (b ∷ s))) + 1 ≤ length (b ∷ s)) [
      | true ↦ λ f. omega arith
      | false ↦ λ f. passes_by l (block_number l (b ∷ s)) (b ∷ s) refl f
    ])
    h

-- the same of the part that a stream begins with, as each walk meets it
pub passes_here : (l : ℕ) (s : List ℕ) (p : Part) → p ≡ part_of l s → goes_on p ≡ true → rest_of p + 1 ≤ length s
passes_here l s p e h =
    let r : rest_of p ≡ rest_of (part_of l s) = ap rest_of e in
    omega (arith, r, passes l s (ap goes_on (sym e) ∙ h))

-- and of a part at a place of the stream
pub passes_at : (l at : ℕ) (s : List ℕ) (p : Part) → at ≤ length s → p ≡ part_of l (drop at s) → goes_on p ≡ true
    → at + (rest_of p + 1) ≤ length s
passes_at l at s p h e g = omega (arith, passes_here l (drop at s) p e g, length-drop at s)

-- where the answer is a success the stream is not at its end, and what is no gap is a right block
pub accepted-long : (l : ℕ) (s : List ℕ) → (read_from l 0 s).number ≡ 0 → 0 < length s
unfolding read_from
accepted-long l [] e = absurd (omega arith)
accepted-long l (b ∷ s) e = omega arith

pub accepted-right : (l : ℕ) (s : List ℕ) → (read_from l 0 s).number ≡ 0 → (get_or s 0 0 ≡ 0 → ⊥) → block_number l s ≡ 0
unfolding read_from part_of block_by
accepted-right l [] e h = absurd (h refl)
accepted-right l (b ∷ s) e h =
    let n = block_number l (b ∷ s) in
    let f = rw (ne_eqb b 0 h) at e in
    (elim (eqb n 0) as (λ t. eqb n 0 ≡ t
    → (cond (goes_on (cond t (right_block (b ∷ s)) (Refused n))) (read_from l (rest_of (cond t (right_block (b ∷ s)) (Refused n))) s)
    (answer_of (cond t (right_block (b ∷ s)) (Refused n)))).number ≡ 0 → n ≡ 0) [
      | true ↦ λ g k. eqb-true n 0 g
      | false ↦ λ g k. k
    ])
    refl f
