-- What a stream says is final. Each test of a block reads bytes that it has first asked for: so where its answer is not that the input ends, the bytes
-- behind the stream play no part in it. The same then holds of the block, of the part, and part by part of the answer and of the memory.
use Prim.Native.Nat.{ℕ, zero, suc, ◌+◌, ◌-◌, ◌≤◌}
use native.Mathlib.Omega.{arith}
use mathlib.Core.Path.{◌≡◌, refl, ◌∙◌}
use mathlib.Core.Logic.{⊎_elim}
use mathlib.Core.Bool.{Bool, true, false, cond}
use mathlib.Core.List.{List, [], ◌∷◌, ◌++◌}
use borrow.Author.Tests.{lt-ltb, le-ltb, eq-eqb, ne_eqb}
use lib.ListN.{length, get_or, drop, length-append, length-drop, get_or-append}
use lib.Seq.{take-append-le, drop-append-le}
use lib.Dec.{eqb}
use Rattle.bools.proofs.Bools.{either_side}
use Rattle.loads.specs.Blocks.{pair_at, count_of, address_of, data_count, data_of, whole_block, is_short, is_end_block, is_outside, first_refusal}
use Rattle.loads.specs.Blocks.{start_number, count_number, address_number, sum_number, block_number, right_block, block_by, part_of}
use Rattle.loads.specs.Reading.{goes_on, rest_of, answer_of, stored_by, read_from, fill_from}
use Rattle.loads.specs.declared.Loaded.{Loaded}
use Rattle.loads.specs.declared.Part.{Part}
use Rattle.loads.specs.declared.Part.TheVariants.{Gap, Block, End, Refused}
use Rattle.loads.proofs.Bytes.{decide}
use Rattle.loads.proofs.Parts.{first_zero, first_not, right, counted}

-- more bytes behind a stream leave those that it has
pair_ahead : (s rest : List ℕ) (k : ℕ) → k + 2 ≤ length s → pair_at (s ++ rest) k ≡ pair_at s k
unfolding pair_at
pair_ahead s rest k h = rw (get_or-append s rest 0 k (omega arith), get_or-append s rest 0 (k + 1) (omega arith))

count-ahead : (s rest : List ℕ) → 4 ≤ length s → count_of (s ++ rest) ≡ count_of s
unfolding count_of
count-ahead s rest h = pair_ahead s rest 2 h

address_ahead : (s rest : List ℕ) → 6 ≤ length s → address_of (s ++ rest) ≡ address_of s
unfolding address_of
address_ahead s rest h = pair_ahead s rest 4 h

data_ahead : (s rest : List ℕ) → 6 ≤ count_of s → count_of s + 1 ≤ length s → data_of (s ++ rest) ≡ data_of s
unfolding data_of data_count
data_ahead s rest h k =
    rw (
      count-ahead s rest (omega arith),
      drop-append-le 6 s rest (omega arith),
      take-append-le (count_of s - 6) (drop 6 s) rest (omega (arith, length-drop 6 s)),
    )

-- a test of a block, after it was asked whether its bytes are there
decides : (n x y : ℕ) (s rest : List ℕ) → (n ≤ length s → y ≡ x) → (cond (is_short n s) 30 x ≡ 30 → ⊥)
    → cond (is_short n (s ++ rest)) 30 y ≡ cond (is_short n s) 30 x
unfolding is_short
decides n x y s rest same h =
    ⊎_elim
    (λ k. absurd (h (rw (lt-ltb (length s) n k))))
    (λ k. rw (le-ltb (length s) n k, le-ltb (length (s ++ rest)) n (omega (arith, length-append s rest))) (same k))
    (either_side (length s) n)

-- a test in one arm of another, which reads bytes that are there
under : (t : Bool) (x y z : ℕ) → ((x ≡ 30 → ⊥) → y ≡ x) → (cond t x z ≡ 30 → ⊥) → cond t y z ≡ cond t x z
under true x y z f h = f h
under false x y z f h = refl

-- two tests in order: the second counts where the first has passed
first_decides : (a a' b b' : ℕ) → (first_refusal a b ≡ 30 → ⊥) → ((a ≡ 30 → ⊥) → a' ≡ a) → (a ≡ 0 → (b ≡ 30 → ⊥) → b' ≡ b)
    → first_refusal a' b' ≡ first_refusal a b
first_decides a a' b b' h f g =
    decide a 0
    (λ e.
    let k : a' ≡ a = f (λ j. omega arith) in
    rw (first_zero a' b' (k ∙ e), first_zero a b e) (g e (λ j. h (first_zero a b e ∙ j))))
    (λ e.
    let k : a' ≡ a = f (λ j. h (first_not a b e ∙ j)) in
    rw (k, first_not a b' e, first_not a b e))

-- so each test of a block, and all of them
start-ahead : (s rest : List ℕ) → 1 ≤ length s → (start_number s ≡ 30 → ⊥) → start_number (s ++ rest) ≡ start_number s
unfolding start_number
start-ahead s rest h n =
    rw (get_or-append s rest 0 0 h)
    (under (eqb (get_or s 0 0) 1) _ _ 27 (decides 2 _ _ s rest (λ k. rw (get_or-append s rest 0 1 k))) n)

count-number-ahead : (s rest : List ℕ) → (count_number s ≡ 30 → ⊥) → count_number (s ++ rest) ≡ count_number s
unfolding count_number
count-number-ahead s rest n = decides 4 _ _ s rest (λ k. rw (count-ahead s rest k)) n

outside-ahead : (l : ℕ) (s rest : List ℕ) → 6 ≤ length s → is_outside l (s ++ rest) ≡ is_outside l s
unfolding is_outside is_end_block data_count
outside-ahead l s rest h = rw (count-ahead s rest (omega arith), address_ahead s rest h)

address_number-ahead : (l : ℕ) (s rest : List ℕ) → (address_number l s ≡ 30 → ⊥) → address_number l (s ++ rest) ≡ address_number l s
unfolding address_number
address_number-ahead l s rest n = decides 6 _ _ s rest (λ k. rw (outside-ahead l s rest k)) n

sum-ahead : (s rest : List ℕ) → 4 ≤ length s → (sum_number s ≡ 30 → ⊥) → sum_number (s ++ rest) ≡ sum_number s
unfolding sum_number whole_block
sum-ahead s rest h n =
    rw (count-ahead s rest h) (decides (count_of s + 1) _ _ s rest (λ k. rw (take-append-le (count_of s + 1) s rest k)) n)

number-ahead : (l : ℕ) (s rest : List ℕ) → 1 ≤ length s → (block_number l s ≡ 30 → ⊥) → block_number l (s ++ rest) ≡ block_number l s
unfolding block_number
number-ahead l s rest h n =
    first_decides _ _ _ _ n (start-ahead s rest h) (λ e j.
    first_decides _ _ _ _ j (count-number-ahead s rest) (λ f k.
    first_decides _ _ _ _ k (address_number-ahead l s rest) (λ g. sum-ahead s rest (counted s f).0)))

-- a stream with bytes behind it goes on with the same part, and the same is stored of it
abbrev Same : Part → List ℕ → List ℕ → Type 0
Same p s z = (m : List ℕ) → stored_by p z m ≡ stored_by p s m

same_by : (p : Part) (s z : List ℕ) → data_of z ≡ data_of s → Same p s z
same_by Gap s z e m = refl
same_by (Block a n) s z e m = rw e
same_by (End t) s z e m = refl
same_by (Refused k) s z e m = refl

block-ahead : (l n : ℕ) (s rest : List ℕ) → block_number l s ≡ n → (block_by n (s ++ rest) ≡ block_by n s) × Same (block_by n s) s (s ++ rest)
unfolding block_by right_block is_end_block data_count
block-ahead l n s rest e =
    decide n 0
    (λ f.
    let r = right l s (e ∙ f) in
    let k = r.counted in
    let j = r.whole in (
      rw (eq-eqb n 0 f, count-ahead s rest (omega arith), address_ahead s rest (omega arith)),
      same_by (block_by n s) s (s ++ rest) (data_ahead s rest k j),
    ))
    (λ f. rw (ne_eqb n 0 f) (refl, λ m. refl))

refused_end : (s : List ℕ) → block_by 30 s ≡ Refused 30
unfolding block_by
refused_end s = refl

part-ahead : (l : ℕ) (s rest : List ℕ) → (part_of l s ≡ Refused 30 → ⊥)
    → (part_of l (s ++ rest) ≡ part_of l s) × Same (part_of l s) s (s ++ rest)
unfolding part_of
part-ahead l [] rest h = absurd (h refl)
part-ahead l (b ∷ s) rest h =
    decide b 0
    (λ e. rw (eq-eqb b 0 e) (refl, λ m. refl))
    (λ e.
    let n = block_number l (b ∷ s) in
    let d : n ≡ 30 → ⊥ = λ j. h (rw (ne_eqb b 0 e, j) (refused_end (b ∷ s))) in
    rw (ne_eqb b 0 e, number-ahead l (b ∷ s) rest (omega arith) d) (block-ahead l n (b ∷ s) rest refl))

-- a part that goes on has the answer and the memory of what stands behind it
turn : (t : Bool) (x y z : Loaded) (u v : List ℕ → List ℕ) → ((x.number ≡ 30 → ⊥) → (y ≡ x) × ((m : List ℕ) → v m ≡ u m))
    → ((cond t x z).number ≡ 30 → ⊥) → (cond t y z ≡ cond t x z) × ((m : List ℕ) → cond t (v m) m ≡ cond t (u m) m)
turn true x y z u v f h = f h
turn false x y z u v f h = (refl, λ m. refl)

-- where the answer is not that the input ends, bytes behind the stream change neither the answer nor the memory
pub ahead : (l k : ℕ) (s rest : List ℕ) → ((read_from l k s).number ≡ 30 → ⊥)
    → (read_from l k (s ++ rest) ≡ read_from l k s) × ((m : List ℕ) → fill_from l k (s ++ rest) m ≡ fill_from l k s m)
unfolding read_from fill_from
ahead l k [] rest h = absurd (h refl)
ahead l (suc k) (b ∷ s) rest h = ahead l k s rest h
ahead l zero (b ∷ s) rest h =
    let part = part_of l (b ∷ s) in
    let p = part-ahead l (b ∷ s) rest (λ e. h (rw e)) in
    rw p.0
    (turn (goes_on part) (read_from l (rest_of part) s) (read_from l (rest_of part) (s ++ rest)) (answer_of part)
    (λ m. fill_from l (rest_of part) s (stored_by part (b ∷ s) m))
    (λ m. fill_from l (rest_of part) (s ++ rest) (stored_by part (b ∷ s ++ rest) m))
    (λ j. let q = ahead l (rest_of part) s rest j in (q.0, λ m. rw (p.1 m) (q.1 (stored_by part (b ∷ s) m))))
    h)
