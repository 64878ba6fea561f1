-- Behind the header: the data that are there are stored in a row. Are they too few, the input has ended; else the next byte is the checksum, and with
-- it the reader's sum is that of the whole block. So the reader refuses by 30 or 31, or goes on, where Req 10's last test does.
use Prim.Native.Nat.{ℕ, suc, ◌+◌, ◌*◌, ◌-◌, ◌%◌, ◌≤◌, ◌<◌}
use native.Mathlib.Nat.{add-zero}
use native.Mathlib.Omega.{arith}
use mathlib.Core.Path.{◌≡◌, refl, ◌∙◌}
use mathlib.Core.Bool.{false}
use mathlib.Core.List.{List, [], ◌∷◌, ◌++◌, append-nil}
use borrow.Author.Tests.{lt-ltb, le-ltb, eq-eqb, ne_eqb}
use lib.ListN.{length, get_or, take, drop, take-append-drop}
use lib.Seq.{take_all, take-suc, length-take-le, drop-cons}
use Rattle.loads.specs.Memory.{puts}
use Rattle.loads.specs.Blocks.{pair_at, count_of, address_of, data_count, data_of, byte_sum, whole_block, is_short, is_end_block, is_outside, sum_number, block_number}
use Rattle.loads.proofs.Bytes.{decide}
use Rattle.loads.proofs.Parts.{is-long}
use Rattle.loads.proofs.Trips.{total_both}
use Rattle.loadsteps.specs.Step.{after_header, after_sum, after_data}
use Rattle.loadsteps.specs.declared.Phase.TheVariants.{Start, Data, EndSum, Accepted, Refused}
use Rattle.loadsteps.proofs.Runs.{at, Goes, goes_both, goes_byte, goes_run}
use Rattle.loadsteps.proofs.Headers.{goes_header}
use Rattle.loadsteps.proofs.Heads.{short, bad_sum}
use Rattle.loadsteps.proofs.Numbers.{Comes, refused, stored, accepted, by_address, cut}

-- the last test
sum-short : (s : List ℕ) → length s < count_of s + 1 → sum_number s ≡ 30
unfolding sum_number is_short
sum-short s h = rw (lt-ltb (length s) (count_of s + 1) h)

sum_bad : (s : List ℕ) → count_of s + 1 ≤ length s → (byte_sum (whole_block s) % 256 ≡ 0 → ⊥) → sum_number s ≡ 31
unfolding sum_number
sum_bad s h n = rw (is-long (count_of s + 1) s h, ne_eqb (byte_sum (whole_block s) % 256) 0 n)

sum_good : (s : List ℕ) → count_of s + 1 ≤ length s → byte_sum (whole_block s) % 256 ≡ 0 → sum_number s ≡ 0
unfolding sum_number
sum_good s h e = rw (is-long (count_of s + 1) s h, eq-eqb (byte_sum (whole_block s) % 256) 0 e)

-- the sum of a block whose header says n data bytes, behind which x stands
whole_sum : (c d a b n : ℕ) (s : List ℕ) → n < length s → c + 256 * d ≡ n + 6
    → byte_sum (whole_block (1 ∷ 0 ∷ c ∷ d ∷ a ∷ b ∷ s)) ≡ 1 + c + d + a + b + byte_sum (take n s) + get_or s n 0
unfolding whole_block count_of pair_at byte_sum
whole_sum c d a b n s h e =
    let k : c + 256 * d + 1 ≡ suc (suc (suc (suc (suc (suc (suc n)))))) = omega arith in
    let f = total_both (take n s) (get_or s n 0 ∷ []) in
    rw (k, take-suc s n 0 h) (omega arith)

-- only the sum modulo 256 counts
at_zero : (s t o : ℕ) → s % 256 ≡ 0 → at Start s t o ≡ at Start 0 t o
unfolding at
at_zero s t o e = rw e

module _ (l t o : ℕ) (m : List ℕ) (c d a b : ℕ) (counted : 6 ≤ c + 256 * d) where
  -- the end block
  module _ (none : c + 256 * d - 6 ≡ 0) where
    end-outside : (s : List ℕ) → is_outside l (1 ∷ 0 ∷ c ∷ d ∷ a ∷ b ∷ s) ≡ false
    unfolding is_outside is_end_block count_of pair_at
    end-outside s = rw (eq-eqb (c + 256 * d) 6 (omega arith))

    end-number : (s : List ℕ) → block_number l (1 ∷ 0 ∷ c ∷ d ∷ a ∷ b ∷ s) ≡ sum_number (1 ∷ 0 ∷ c ∷ d ∷ a ∷ b ∷ s)
    end-number s = by_address l c d a b s counted (end-outside s)

    goes_end : (s : List ℕ)
        → Goes l (at Start 0 t o) (1 ∷ 0 ∷ c ∷ d ∷ a ∷ b ∷ s) m (at (EndSum (a + 256 * b)) (1 + c + d + a + b) t (o + 6)) s m
    unfolding after_header
    goes_end s =
        let e : o + 5 + 1 ≡ o + 6 = omega arith in
        rw (← e) (goes_header l 0 t o m c d a b s (EndSum (a + 256 * b)) counted (rw (eq-eqb (c + 256 * d - 6) 0 none)))

    pub comes_end_cut : Comes l t o (1 ∷ 0 ∷ c ∷ d ∷ a ∷ b ∷ []) m
    unfolding count_of pair_at
    comes_end_cut =
        let s : List ℕ = 1 ∷ 0 ∷ c ∷ d ∷ a ∷ b ∷ [] in
        cut l t o s m (EndSum (a + 256 * b)) (1 + c + d + a + b) (end-number [] ∙ sum-short s (omega arith)) (omega arith) refl (goes_end [])

    end-sum : (x : ℕ) (s : List ℕ) → byte_sum (whole_block (1 ∷ 0 ∷ c ∷ d ∷ a ∷ b ∷ x ∷ s)) ≡ 1 + c + d + a + b + x
    unfolding byte_sum
    end-sum x s = whole_sum c d a b 0 (x ∷ s) (omega arith) (omega arith) ∙ omega arith

    pub comes_end : (x : ℕ) (s : List ℕ) → Comes l t o (1 ∷ 0 ∷ c ∷ d ∷ a ∷ b ∷ x ∷ s) m
    unfolding after_sum count_of pair_at address_of is_end_block data_of data_count puts
    comes_end x s =
        let w : List ℕ = 1 ∷ 0 ∷ c ∷ d ∷ a ∷ b ∷ x ∷ s in
        let sum = 1 + c + d + a + b in
        let six : c + 256 * d ≡ 6 = omega arith in
        let e = end-sum x s in
        decide ((sum + x) % 256) 0
        (λ z.
        accepted (sum + x) t (o + 6 + 1) s
        (end-number (x ∷ s) ∙ sum_good w (omega arith) (rw e z))
        (eq-eqb (c + 256 * d) 6 six)
        (goes_both (goes_end (x ∷ s))
        (goes_byte l (EndSum (a + 256 * b)) (Accepted (a + 256 * b)) sum t (o + 6) x s m refl refl (rw (eq-eqb ((sum + x) % 256) 0 z)))))
        (λ n.
        let k : o + (c + 256 * d) ≡ o + 6 + 0 = omega arith in
        refused 31
        (end-number (x ∷ s) ∙ sum_bad w (omega arith) (rw e n))
        (λ f. omega arith)
        (bad_sum l t o w [] s m (sum + x) (rw none)
        (rw (k, add-zero t)
        (goes_both (goes_end (x ∷ s))
        (goes_byte l (EndSum (a + 256 * b)) (Refused 31) sum t (o + 6) x s m refl refl (rw (ne_eqb ((sum + x) % 256) 0 n)))))))

  -- a data block: its data that are there
  module _ (some : c + 256 * d - 6 ≡ 0 → ⊥) (inside : a + 256 * b + (c + 256 * d - 6) ≤ l) where
    data_number : (s : List ℕ) → block_number l (1 ∷ 0 ∷ c ∷ d ∷ a ∷ b ∷ s) ≡ sum_number (1 ∷ 0 ∷ c ∷ d ∷ a ∷ b ∷ s)
    unfolding is_outside is_end_block data_count address_of count_of pair_at
    data_number s =
        let n : c + 256 * d ≡ 6 → ⊥ = λ e. some (omega arith) in
        by_address l c d a b s counted (rw (ne_eqb (c + 256 * d) 6 n) (le-ltb l (a + 256 * b + (c + 256 * d - 6)) inside))

    goes_in : (s : List ℕ)
        → Goes l (at Start 0 t o) (1 ∷ 0 ∷ c ∷ d ∷ a ∷ b ∷ s) m
        (at (Data (a + 256 * b) (c + 256 * d - 6)) (1 + c + d + a + b) t (o + 6)) s m
    unfolding after_header
    goes_in s =
        let n = c + 256 * d - 6 in
        let e : o + 5 + 1 ≡ o + 6 = omega arith in
        rw (← e)
        (goes_header l 0 t o m c d a b s (Data (a + 256 * b) n) counted
        (rw (ne_eqb n 0 some, le-ltb l (a + 256 * b + n) inside)))

    goes_over : (ds bs : List ℕ) → length ds ≤ c + 256 * d - 6
        → Goes l (at Start 0 t o) (1 ∷ 0 ∷ c ∷ d ∷ a ∷ b ∷ (ds ++ bs)) m
        (at (Data (a + 256 * b + length ds) (c + 256 * d - 6 - length ds)) (1 + c + d + a + b + byte_sum ds) (t + length ds) (o + (6 + length ds))) bs
        (puts (a + 256 * b) ds m)
    goes_over ds bs h =
        let n = c + 256 * d - 6 in
        let e : o + 6 + length ds ≡ o + (6 + length ds) = omega arith in
        rw (← e)
        (goes_both (goes_in (ds ++ bs)) (goes_run l (a + 256 * b) n (1 + c + d + a + b) t (o + 6) ds bs m h (omega arith)))

    pub comes_cut : (s : List ℕ) → length s ≤ c + 256 * d - 6 → Comes l t o (1 ∷ 0 ∷ c ∷ d ∷ a ∷ b ∷ s) m
    unfolding data_of data_count address_of count_of pair_at
    comes_cut s h =
        let w : List ℕ = 1 ∷ 0 ∷ c ∷ d ∷ a ∷ b ∷ s in
        let n = c + 256 * d - 6 in
        let g = goes_over s [] h in
        let e : o + (6 + length s) ≡ o + length w = omega arith in
        refused 30 (data_number s ∙ sum-short w (omega arith)) (λ f. omega arith)
        (short l t o w s m (Data (a + 256 * b + length s) (n - length s)) (1 + c + d + a + b + byte_sum s) refl (take_all n s h)
        (rw (← e) (rw (append-nil s) at g)))

    -- all its data, and then the byte x
    goes_past : (s : List ℕ) → c + 256 * d - 6 < length s
        → Goes l (at Start 0 t o) (1 ∷ 0 ∷ c ∷ d ∷ a ∷ b ∷ s) m
        (at (Data (a + 256 * b + length (take (c + 256 * d - 6) s)) 0) (1 + c + d + a + b + byte_sum (take (c + 256 * d - 6) s))
        (t + length (take (c + 256 * d - 6) s)) (o + (c + 256 * d)))
        (get_or s (c + 256 * d - 6) 0 ∷ drop (suc (c + 256 * d - 6)) s) (puts (a + 256 * b) (take (c + 256 * d - 6) s) m)
    goes_past s h =
        let n = c + 256 * d - 6 in
        let k = length-take-le n s (omega arith) in
        let g = goes_over (take n s) (drop n s) (omega arith) in
        let z : n - length (take n s) ≡ 0 = omega arith in
        let e : o + (6 + length (take n s)) ≡ o + (c + 256 * d) = omega arith in
        rw (take-append-drop n s, drop-cons s n 0 h, z, e) at g

    past-sum : (s : List ℕ) → c + 256 * d - 6 < length s
        → byte_sum (whole_block (1 ∷ 0 ∷ c ∷ d ∷ a ∷ b ∷ s))
        ≡ 1 + c + d + a + b + byte_sum (take (c + 256 * d - 6) s) + get_or s (c + 256 * d - 6) 0
    past-sum s h = whole_sum c d a b (c + 256 * d - 6) s h (omega arith)

    pub comes_bad : (s : List ℕ) → c + 256 * d - 6 < length s → (byte_sum (whole_block (1 ∷ 0 ∷ c ∷ d ∷ a ∷ b ∷ s)) % 256 ≡ 0 → ⊥)
        → Comes l t o (1 ∷ 0 ∷ c ∷ d ∷ a ∷ b ∷ s) m
    unfolding after_data after_sum data_of data_count address_of count_of pair_at
    comes_bad s h f =
        let w : List ℕ = 1 ∷ 0 ∷ c ∷ d ∷ a ∷ b ∷ s in
        let n = c + 256 * d - 6 in
        let ds = take n s in
        let x = get_or s n 0 in
        let sum = 1 + c + d + a + b + byte_sum ds in
        let u = rw (past-sum s h) at f in
        let z = add-zero (o + (c + 256 * d)) in
        refused 31 (data_number s ∙ sum_bad w (omega arith) f) (λ k. omega arith)
        (bad_sum l t o w ds (drop (suc n) s) m (sum + x) refl
        (rw (← z)
        (goes_both (goes_past s h)
        (goes_byte l (Data (a + 256 * b + length ds) 0) (Refused 31) sum (t + length ds) (o + (c + 256 * d)) x (drop (suc n) s) (puts (a + 256 * b) ds m) refl
        refl (rw (ne_eqb ((sum + x) % 256) 0 u))))))

    pub comes_right : (s : List ℕ) → c + 256 * d - 6 < length s → byte_sum (whole_block (1 ∷ 0 ∷ c ∷ d ∷ a ∷ b ∷ s)) % 256 ≡ 0
        → Comes l t o (1 ∷ 0 ∷ c ∷ d ∷ a ∷ b ∷ s) m
    unfolding after_data after_sum data_of data_count address_of count_of pair_at is_end_block
    comes_right s h f =
        let w : List ℕ = 1 ∷ 0 ∷ c ∷ d ∷ a ∷ b ∷ s in
        let n = c + 256 * d - 6 in
        let ds = take n s in
        let x = get_or s n 0 in
        let sum = 1 + c + d + a + b + byte_sum ds in
        let u = rw (past-sum s h) at f in
        let j : o + (c + 256 * d) + 1 ≡ o + (n + 7) = omega arith in
        let k : n + 7 ≡ suc (suc (suc (suc (suc (suc (suc n)))))) = omega arith in
        let g =
        goes_both (goes_past s h)
        (goes_byte l (Data (a + 256 * b + length ds) 0) Start sum (t + length ds) (o + (c + 256 * d)) x (drop (suc n) s) (puts (a + 256 * b) ds m) refl refl
        (rw (eq-eqb ((sum + x) % 256) 0 u))) in
        let e : drop (n + 7) w ≡ drop (suc n) s = rw k in
        stored (data_number s ∙ sum_good w (omega arith) f) (ne_eqb (c + 256 * d) 6 (λ i. some (omega arith)))
        (rw e (rw (at_zero (sum + x) (t + length ds) (o + (c + 256 * d) + 1) u, j) at g))
