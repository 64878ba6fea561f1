-- What a stream goes on with. A block's number is 0 exactly where each of its tests passes, which `Right` says as plain facts: so a right block
-- lies whole in the stream, and its data in the memory. The laws `part-..` say what each first byte gives.
use Prim.Native.Nat.{ℕ, ◌+◌, ◌-◌, ◌%◌, ◌≤◌, ◌<◌}
use native.Mathlib.Omega.{arith}
use mathlib.Core.Path.{◌≡◌, refl, sym, ◌∙◌}
use mathlib.Core.Bool.{Bool, true, false, cond, true≢false}
use mathlib.Core.List.{List, [], ◌∷◌}
use borrow.Author.Tests.{lt-ltb, le-ltb, eq-eqb, ne_eqb, eqb-true, ltb-false}
use lib.ListN.{length, get_or, take}
use lib.Dec.{eqb, ltb}
use Rattle.loads.specs.Blocks.{count_of, address_of, data_count, byte_sum, whole_block, is_short, start_number, count_number, is_end_block, is_outside}
use Rattle.loads.specs.Blocks.{address_number, sum_number, first_refusal, block_number, block_by, part_of}
use Rattle.loads.specs.declared.Part.TheVariants.{Gap, Refused}

-- a test before a number that is no refusal
fails : (t : Bool) (n x : ℕ) → (n ≡ 0 → ⊥) → cond t n x ≡ 0 → (t ≡ false) × (x ≡ 0)
fails true n x h e = absurd (h e)
fails false n x h e = (refl, e)

holds : (t : Bool) (n x : ℕ) → (n ≡ 0 → ⊥) → cond t x n ≡ 0 → (t ≡ true) × (x ≡ 0)
holds true n x h e = (refl, e)
holds false n x h e = absurd (h e)

-- of two numbers, both are 0
both_zero : (a b : ℕ) → first_refusal a b ≡ 0 → (a ≡ 0) × (b ≡ 0)
unfolding first_refusal
both_zero a b e =
    (elim (eqb a 0) as (λ t. eqb a 0 ≡ t → cond t b a ≡ 0 → (a ≡ 0) × (b ≡ 0)) [
      | true ↦ λ f g. (eqb-true a 0 f, g)
      | false ↦ λ f g. absurd (true≢false (sym (eq-eqb a 0 g) ∙ f))
    ])
    refl e

-- the first or, where it is 0, the second
pub first_zero : (a b : ℕ) → a ≡ 0 → first_refusal a b ≡ b
unfolding first_refusal
first_zero a b e = rw (eq-eqb a 0 e)

pub first_not : (a b : ℕ) → (a ≡ 0 → ⊥) → first_refusal a b ≡ a
unfolding first_refusal
first_not a b h = rw (ne_eqb a 0 h)

-- enough bytes are there
enough : (n : ℕ) (s : List ℕ) → is_short n s ≡ false → n ≤ length s
unfolding is_short
enough n s e = ltb-false (length s) n e

-- a whole block that no test refuses
pub record Right (l : ℕ) (s : List ℕ) : Type 0 where
  pub one : get_or s 0 0 ≡ 1
  pub zero : get_or s 1 0 ≡ 0
  pub counted : 6 ≤ count_of s
  pub inside : is_end_block s ≡ false → address_of s + data_count s ≤ l
  pub whole : count_of s + 1 ≤ length s
  pub sum : byte_sum (whole_block s) % 256 ≡ 0

inside_by : (l : ℕ) (s : List ℕ) → is_outside l s ≡ false → is_end_block s ≡ false → address_of s + data_count s ≤ l
unfolding is_outside
inside_by l s h e = ltb-false l (address_of s + data_count s) (rw e at h)

pub right : (l : ℕ) (s : List ℕ) → block_number l s ≡ 0 → Right l s
unfolding block_number start_number count_number address_number sum_number
right l s e =
    let start = both_zero _ _ e in
    let count = both_zero _ _ start.1 in
    let address = both_zero _ _ count.1 in
    let one = holds (eqb (get_or s 0 0) 1) 27 _ (λ f. omega arith) start.0 in
    let two = fails (is_short 2 s) 30 _ (λ f. omega arith) one.1 in
    let zero = holds (eqb (get_or s 1 0) 0) 27 _ (λ f. omega arith) two.1 in
    let four = fails (is_short 4 s) 30 _ (λ f. omega arith) count.0 in
    let six = fails (is_short 6 s) 30 _ (λ f. omega arith) address.0 in
    let last = fails (is_short (count_of s + 1) s) 30 _ (λ f. omega arith) address.1 in
    record {
      one = eqb-true (get_or s 0 0) 1 one.0;
      zero = eqb-true (get_or s 1 0) 0 zero.0;
      counted = ltb-false (count_of s) 6 (fails (ltb (count_of s) 6) 28 _ (λ f. omega arith) four.1).0;
      inside = inside_by l s (fails (is_outside l s) 29 _ (λ f. omega arith) six.1).0;
      whole = enough (count_of s + 1) s last.0;
      sum = eqb-true _ 0 (holds (eqb (byte_sum (whole_block s) % 256) 0) 31 _ (λ f. omega arith) last.1).0;
    }

-- what a count that is not refused tells
pub counted : (s : List ℕ) → count_number s ≡ 0 → (4 ≤ length s) × (6 ≤ count_of s)
unfolding count_number
counted s e =
    let four = fails (is_short 4 s) 30 _ (λ f. omega arith) e in
    (enough 4 s four.0, ltb-false (count_of s) 6 (fails (ltb (count_of s) 6) 28 0 (λ f. omega arith) four.1).0)

-- and the other way: nothing refuses it
pub is-long : (n : ℕ) (s : List ℕ) → n ≤ length s → is_short n s ≡ false
unfolding is_short
is-long n s h = le-ltb (length s) n h

not-outside : (l : ℕ) (s : List ℕ) → (is_end_block s ≡ false → address_of s + data_count s ≤ l) → is_outside l s ≡ false
unfolding is_outside
not-outside l s h =
    (elim (is_end_block s) as (λ t. is_end_block s ≡ t → cond t false (ltb l (address_of s + data_count s)) ≡ false) [
      | true ↦ λ e. refl
      | false ↦ λ e. le-ltb l (address_of s + data_count s) (h e)
    ])
    refl

pub number-right : (l : ℕ) (s : List ℕ) → Right l s → block_number l s ≡ 0
unfolding block_number start_number count_number address_number sum_number first_refusal
number-right l s r =
    let n = r.whole in
    let k = r.counted in
    rw (
      r.one,
      r.zero,
      r.sum,
      is-long 2 s (omega arith),
      is-long 4 s (omega arith),
      is-long 6 s (omega arith),
      is-long (count_of s + 1) s n,
      le-ltb (count_of s) 6 k,
      not-outside l s r.inside,
    )

-- the sum of a block, as code counts its bytes
pub sum_bad : (s : List ℕ) (n k : ℕ) → n ≡ count_of s → n + 1 ≤ length s → k ≡ byte_sum (take (n + 1 - 0) s) % 256 → (k ≡ 0 → ⊥) → 31 ≡ sum_number s
unfolding sum_number is_short whole_block
sum_bad s n k e h f g =
    let z : n + 1 - 0 ≡ count_of s + 1 = omega arith in
    let t : k ≡ byte_sum (take (count_of s + 1) s) % 256 = rw (← z) f in
    rw (le-ltb (length s) (count_of s + 1) (omega arith), ne_eqb _ 0 (rw t at g))

pub sum_short : (s : List ℕ) → length s < count_of s + 1 → sum_number s ≡ 30
unfolding sum_number is_short
sum_short s h = rw (lt-ltb (length s) (count_of s + 1) h)

pub sum_good : (s : List ℕ) (n k : ℕ) → n ≡ count_of s → n + 1 ≤ length s → k ≡ byte_sum (take (n + 1 - 0) s) % 256 → k ≡ 0 → 0 ≡ sum_number s
unfolding sum_number is_short whole_block
sum_good s n k e h f g =
    let z : n + 1 - 0 ≡ count_of s + 1 = omega arith in
    let t : k ≡ byte_sum (take (count_of s + 1) s) % 256 = rw (← z) f in
    rw (le-ltb (length s) (count_of s + 1) (omega arith), eq-eqb _ 0 (rw t at g))

-- what a first byte gives
pub part_none : (l : ℕ) (s : List ℕ) → length s < 1 → part_of l s ≡ Refused 30
unfolding part_of
part_none l [] h = refl
part_none l (b ∷ s) h = absurd (omega arith)

pub part_gap : (l : ℕ) (s : List ℕ) → 0 < length s → get_or s 0 0 ≡ 0 → part_of l s ≡ Gap
unfolding part_of
part_gap l [] h e = absurd (omega arith)
part_gap l (b ∷ s) h e = rw (eq-eqb b 0 e)

pub part_block : (l : ℕ) (s : List ℕ) → 0 < length s → (get_or s 0 0 ≡ 0 → ⊥) → part_of l s ≡ block_by (block_number l s) s
unfolding part_of
part_block l [] h e = absurd (omega arith)
part_block l (b ∷ s) h e = rw (ne_eqb b 0 e)
