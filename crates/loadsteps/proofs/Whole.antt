-- The run over the whole input is the reading of Req 10, part by part, with what Req 11 reports beside it. At each place where a block should start the
-- stream ends, or goes on with a zero, a right block or a refused one (Numbers, Sums); behind a zero or a right data block the reader is as at the
-- start, but for its counters, and what is left is shorter.
use Prim.Native.Nat.{ℕ, zero, suc, ◌+◌, ◌*◌, ◌-◌, ◌%◌, ◌≤◌}
use native.Mathlib.Nat.{add-zero}
use native.Mathlib.Omega.{arith}
use mathlib.Core.Path.{◌≡◌, refl, ◌∙◌}
use mathlib.Core.Logic.{⊎_elim}
use mathlib.Core.Bool.{true, false, cond}
use mathlib.Core.List.{List, [], ◌∷◌}
use borrow.Author.Tests.{ne_eqb}
use lib.ListN.{length, drop, length-drop}
use Rattle.bools.proofs.Bools.{either_side}
use Rattle.loads.specs.Memory.{puts}
use Rattle.loads.specs.Blocks.{address_of, data_count, data_of, byte_sum, whole_block, is_end_block, block_number, right_block, block_by, part_of}
use Rattle.loads.specs.Reading.{goes_on, rest_of}
use Rattle.loads.specs.declared.Part.{Part}
use Rattle.loads.specs.declared.Part.TheVariants.{Block, End, Refused}
use Rattle.loads.proofs.Bytes.{decide}
use Rattle.loads.proofs.Parts.{right, part_block}
use Rattle.loadsteps.specs.Step.{after_start}
use Rattle.loadsteps.specs.Whole.{held_of, final_of, report_from, stored_from}
use Rattle.loadsteps.specs.declared.Phase.TheVariants.{Start}
use Rattle.loadsteps.proofs.Runs.{at, goes_byte}
use Rattle.loadsteps.proofs.Says.{Says, says_goes, says_accepted, says_ends}
use Rattle.loadsteps.proofs.Numbers.{Comes, refused, stored, accepted, comes_first, comes_second, comes_one, comes_zero, comes_low}
use Rattle.loadsteps.proofs.Numbers.{comes_count, comes_high, comes_address, comes_outside}
use Rattle.loadsteps.proofs.Sums.{comes_end_cut, comes_end, comes_cut, comes_bad, comes_right}

-- what every block comes to, test by test
module _ (l t o : ℕ) (m : List ℕ) where
  comes_data : (c d a b : ℕ) (s : List ℕ) → 6 ≤ c + 256 * d → (c + 256 * d - 6 ≡ 0 → ⊥) → a + 256 * b + (c + 256 * d - 6) ≤ l
      → Comes l t o (1 ∷ 0 ∷ c ∷ d ∷ a ∷ b ∷ s) m
  comes_data c d a b s h z k =
      ⊎_elim
      (λ n.
      decide (byte_sum (whole_block (1 ∷ 0 ∷ c ∷ d ∷ a ∷ b ∷ s)) % 256) 0
      (λ e. comes_right l t o m c d a b h z k s n e)
      (λ e. comes_bad l t o m c d a b h z k s n e))
      (λ n. comes_cut l t o m c d a b h z k s n)
      (either_side (c + 256 * d - 6) (length s))

  comes_last : (c d a b : ℕ) (s : List ℕ) → 6 ≤ c + 256 * d → c + 256 * d - 6 ≡ 0 → Comes l t o (1 ∷ 0 ∷ c ∷ d ∷ a ∷ b ∷ s) m
  comes_last c d a b [] h z = comes_end_cut l t o m c d a b h z
  comes_last c d a b (x ∷ s) h z = comes_end l t o m c d a b h z x s

  comes_counted : (c d : ℕ) (s : List ℕ) → 6 ≤ c + 256 * d → Comes l t o (1 ∷ 0 ∷ c ∷ d ∷ s) m
  comes_counted c d [] h = comes_high l t o m c d h
  comes_counted c d (a ∷ []) h = comes_address l t o m c d a h
  comes_counted c d (a ∷ b ∷ s) h =
      decide (c + 256 * d - 6) 0
      (λ z. comes_last c d a b s h z)
      (λ z. ⊎_elim (comes_outside l t o m c d a b s h z) (comes_data c d a b s h z) (either_side l (a + 256 * b + (c + 256 * d - 6))))

  comes_begun : (s : List ℕ) → Comes l t o (1 ∷ 0 ∷ s) m
  comes_begun [] = comes_zero l t o m
  comes_begun (c ∷ []) = comes_low l t o m c
  comes_begun (c ∷ d ∷ s) = ⊎_elim (comes_count l t o m c d s) (comes_counted c d s) (either_side (c + 256 * d) 6)

  comes_by_one : (s : List ℕ) → Comes l t o (1 ∷ s) m
  comes_by_one [] = comes_one l t o m
  comes_by_one (b ∷ s) = decide b 0 (λ e. rw e (comes_begun s)) (comes_second l t o m b s)

  comes : (b : ℕ) (s : List ℕ) → (b ≡ 0 → ⊥) → Comes l t o (b ∷ s) m
  comes b s z = decide b 1 (λ e. rw e (comes_by_one s)) (comes_first l t o m b s z)

-- the part that the tests give
part-refused : (l b k : ℕ) (s : List ℕ) → (b ≡ 0 → ⊥) → block_number l (b ∷ s) ≡ k → (k ≡ 0 → ⊥) → part_of l (b ∷ s) ≡ Refused k
unfolding block_by
part-refused l b k s z e n = part_block l (b ∷ s) (omega arith) z ∙ rw (e, ne_eqb k 0 n)

part-stored : (l b : ℕ) (s : List ℕ) → (b ≡ 0 → ⊥) → block_number l (b ∷ s) ≡ 0 → is_end_block (b ∷ s) ≡ false
    → part_of l (b ∷ s) ≡ Block (address_of (b ∷ s)) (data_count (b ∷ s))
unfolding block_by right_block
part-stored l b s z e n = part_block l (b ∷ s) (omega arith) z ∙ rw (e, n)

part-accepted : (l b : ℕ) (s : List ℕ) → (b ≡ 0 → ⊥) → block_number l (b ∷ s) ≡ 0 → is_end_block (b ∷ s) ≡ true
    → part_of l (b ∷ s) ≡ End (address_of (b ∷ s))
unfolding block_by right_block
part-accepted l b s z e n = part_block l (b ∷ s) (omega arith) z ∙ rw (e, n)

-- the report at a part, and behind the bytes that are passed
report_by : (l t o b : ℕ) (s : List ℕ) (p : Part) → part_of l (b ∷ s) ≡ p
    → report_from l 0 t o (b ∷ s)
    ≡ cond (goes_on p) (report_from l (rest_of p) (t + length (held_of p (b ∷ s))) (o + 1) s)
    (final_of p (b ∷ s) (t + length (held_of p (b ∷ s))) o)
unfolding report_from
report_by l t o b s p e = rw e

stored_by_lem : (l b : ℕ) (s m : List ℕ) (p : Part) → part_of l (b ∷ s) ≡ p
    → stored_from l 0 (b ∷ s) m
    ≡ cond (goes_on p) (stored_from l (rest_of p) s (puts (address_of (b ∷ s)) (held_of p (b ∷ s)) m)) (puts (address_of (b ∷ s)) (held_of p (b ∷ s)) m)
unfolding stored_from
stored_by_lem l b s m p e = rw e

skip_report : (l k t o : ℕ) (s : List ℕ) → k ≤ length s → report_from l k t o s ≡ report_from l 0 t (o + k) (drop k s)
unfolding report_from
skip_report l zero t o s h = rw (add-zero o)
skip_report l (suc k) t o [] h = absurd (omega arith)
skip_report l (suc k) t o (b ∷ s) h =
    let e : o + 1 + k ≡ o + suc k = omega arith in
    skip_report l k t (o + 1) s (omega arith) ∙ rw e

skip_stored : (l k : ℕ) (s m : List ℕ) → stored_from l k s m ≡ stored_from l 0 (drop k s) m
unfolding stored_from
skip_stored l zero s m = refl
skip_stored l (suc k) [] m = refl
skip_stored l (suc k) (b ∷ s) m = skip_stored l k s m

-- what the reader says of a stream is what the report says
abbrev pub Told : ℕ → ℕ → ℕ → List ℕ → List ℕ → Type 0
Told l t o s m = Says l (at Start 0 t o) s m (report_from l 0 t o s) (stored_from l 0 s m)

told_none : (l t o : ℕ) (m : List ℕ) → Told l t o [] m
unfolding report_from stored_from
told_none l t o m = says_ends l Start 0 t o m refl

told_gap : (l t o : ℕ) (s m : List ℕ) → Told l t (o + 1) s m → Told l t o (0 ∷ s) m
unfolding report_from stored_from part_of puts after_start
told_gap l t o s m h =
    rw (add-zero t) (says_goes (goes_byte l Start Start 0 t o 0 s m refl refl refl) h)

-- where a right block ends
right-within : (l b : ℕ) (s : List ℕ) → block_number l (b ∷ s) ≡ 0 → data_count (b ∷ s) + 6 ≤ length s
unfolding data_count
right-within l b s e = let r = right l (b ∷ s) e in omega (arith, r.whole, r.counted)

told_block : (l t o b : ℕ) (s m : List ℕ) → (b ≡ 0 → ⊥)
    → ((t' o' : ℕ) (m' : List ℕ) → Told l t' o' (drop (data_count (b ∷ s) + 6) s) m')
    → Comes l t o (b ∷ s) m → Told l t o (b ∷ s) m
unfolding puts
told_block l t o b s m z f (refused k e n h) =
    let p = part-refused l b k s z e n in
    rw (report_by l t o b s (Refused k) p, stored_by_lem l b s m (Refused k) p) h
told_block l t o b s m z f (accepted sum t' o' bs e n g) =
    let p = part-accepted l b s z e n in
    rw (report_by l t o b s (End (address_of (b ∷ s))) p, stored_by_lem l b s m (End (address_of (b ∷ s))) p)
    (says_goes g (says_accepted l (address_of (b ∷ s)) sum t' o' bs m))
told_block l t o b s m z f (stored e n g) =
    let a = address_of (b ∷ s) in
    let k = data_count (b ∷ s) in
    let ds = data_of (b ∷ s) in
    let p = part-stored l b s z e n in
    let i : o + 1 + (k + 6) ≡ o + (k + 7) = omega arith in
    let j : k + 7 ≡ suc (k + 6) = omega arith in
    let d : drop (k + 7) (b ∷ s) ≡ drop (k + 6) s = rw j in
    rw (
      report_by l t o b s (Block a k) p,
      stored_by_lem l b s m (Block a k) p,
      skip_report l (k + 6) (t + length ds) (o + 1) s (right-within l b s e),
      skip_stored l (k + 6) s (puts a ds m),
      i,
    )
    (says_goes (rw d at g) (f (t + length ds) (o + (k + 7)) (puts a ds m)))

-- one part, where all shorter streams are told
told_next : (l n : ℕ) → ((s : List ℕ) → length s ≤ n → (t o : ℕ) (m : List ℕ) → Told l t o s m)
    → (s : List ℕ) → length s ≤ suc n → (t o : ℕ) (m : List ℕ) → Told l t o s m
told_next l n f [] h t o m = told_none l t o m
told_next l n f (b ∷ s) h t o m =
    decide b 0
    (λ e. rw e (told_gap l t o s m (f s (omega arith) t (o + 1) m)))
    (λ z.
    let k = data_count (b ∷ s) + 6 in
    told_block l t o b s m z (f (drop k s) (omega (arith, length-drop k s))) (comes l t o m b s z))

told_to : (l n : ℕ) (s : List ℕ) → length s ≤ n → (t o : ℕ) (m : List ℕ) → Told l t o s m
told_to l zero [] h t o m = told_none l t o m
told_to l zero (b ∷ s) h t o m = absurd (omega arith)
told_to l (suc n) s h t o m = told_next l n (told_to l n) s h t o m

pub told : (l t o : ℕ) (s m : List ℕ) → Told l t o s m
told l t o s m = told_to l (length s) s (omega arith) t o m
