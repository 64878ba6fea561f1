-- Numbers in decimal. A number below 10 is its one digit, and another is the number without its last digit and then that digit.
-- The meaning bounds the digits that are left to write; for a number of not more digits than the bound, the bound does not show.
-- Assumes nothing.
use Prim.Native.Nat.{ℕ, zero, suc, ◌+◌, ◌*◌, ◌-◌, ◌/◌, ◌%◌, ◌^◌, ◌≤◌, ◌<◌, zero-le}
use mathlib.Core.Path.{◌≡◌}
use mathlib.Core.Bool.{Bool, true, false, cond}
use mathlib.Core.List.{List, [], ◌∷◌, ◌++◌}
use native.Mathlib.Omega.{arith}
use native.Mathlib.Nat.{pow-suc, sub-zero, zero-sub, suc-sub-suc, le_of_suc-le-suc, not-suc-le-zero}
use lib.ListN.{length, take, drop, set, replicate, length-append, length-replicate}
use lib.Seq.{take_at, drop-append-le}
use borrow.Author.Tests.{lt-ltb, le-ltb}
use lib.Dec.{ltb}
use Rattle.meaning.specs.Listing.{digits_of, decimal, six_wide}
use Rattle.lines.specs.Wrote.{Wrote, WroteAtMost}
use Rattle.lines.proofs.Writes.{one, both}

-- a number of f digits, written with room for more
digits_same : (f g n : ℕ) → f ≤ g → n < 10 ^ suc f → digits_of (suc f) n ≡ digits_of (suc g) n
unfolding digits_of
digits_same zero g n h l =
    let small : n < 10 = l in
    rw (lt-ltb n 10 small)
digits_same (suc f) zero n h l = absurd (not-suc-le-zero h)
digits_same (suc f) (suc g) n h l =
    let p : 10 ^ suc (suc f) ≡ 10 ^ suc f * 10 = pow-suc 10 (suc f) in
    let r : n / 10 < 10 ^ suc f = omega arith in
    rw (digits_same f g (n / 10) (le_of_suc-le-suc h) r)

cond_short : (t : Bool) (r : List ℕ) (d f : ℕ) → length r ≤ f → length (cond t [] r ++ (d ∷ [])) ≤ suc f
cond_short true r d f h = omega arith
cond_short false r d f h = simp length-append (omega arith)

digits_most : (f n : ℕ) → length (digits_of f n) ≤ f
unfolding digits_of
digits_most zero n = zero-le
digits_most (suc f) n = cond_short (ltb n 10) (digits_of f (n / 10)) (48 + n % 10) f (digits_most f (n / 10))

one_digit : (n : ℕ) → n < 10 → decimal n ≡ (48 + n % 10) ∷ []
unfolding decimal digits_of
one_digit n h = rw (lt-ltb n 10 h)

digit_more : (n : ℕ) → 10 ≤ n → n ≤ 65535 → decimal n ≡ decimal (n / 10) ++ ((48 + n % 10) ∷ [])
unfolding decimal digits_of
digit_more n h l = rw (le-ltb n 10 h, digits_same 8 9 (n / 10) (omega arith) (omega arith))

-- the numbers of a volume have five digits, its years four
pub five_digits : (n : ℕ) → n ≤ 65535 → length (decimal n) ≤ 5
unfolding decimal
five_digits n h = rw (← digits_same 4 9 n (omega arith) (omega arith)) (digits_most 5 n)

pub four_digits : (n : ℕ) → n ≤ 9999 → length (decimal n) ≤ 4
unfolding decimal
four_digits n h = rw (← digits_same 3 9 n (omega arith) (omega arith)) (digits_most 4 n)

-- the digits as they are written
pub last_digit : (b : List ℕ) (p n : ℕ) → n < 10 → p + 5 ≤ length b
    → WroteAtMost 5 b p (decimal n) (set b p (48 + n % 10)) (p + 1)
last_digit b p n h r = record { wrote = rw (one_digit n h) (one b p (48 + n % 10) (omega arith)); short = omega arith }

pub next_digit : {b m : List ℕ} {p y : ℕ} (n : ℕ) → 10 ≤ n → n ≤ 65535 → p + 5 ≤ length b
    → WroteAtMost 5 b p (decimal (n / 10)) m y → WroteAtMost 5 b p (decimal n) (set m y (48 + n % 10)) (y + 1)
next_digit {b} {m} {p} {y} n h l r w =
    let f = four_digits (n / 10) (omega arith) in
    let u = w.wrote in
    record {
      wrote = rw (digit_more n h l) (both u (one m y (48 + n % 10) (omega arith)));
      short = omega arith;
    }

-- a number six wide: what stands before its end in six spaces and the number
drop_spaces : (k n x : ℕ) → drop {A = ℕ} k (replicate n x) ≡ replicate (n - k) x
drop_spaces zero n x = rw (sub-zero n)
drop_spaces (suc k) zero x = rw (zero-sub (suc k))
drop_spaces (suc k) (suc n) x = rw (suc-sub-suc n k) (drop_spaces k n x)

pub six-before : (t : List ℕ) (n e : ℕ) → n ≤ 65535 → Wrote (replicate 11 32) 6 (decimal n) t e
    → take (e - (e - 6)) (drop (e - 6) t) ≡ six_wide n
unfolding six_wide
six-before t n e h u =
    let d = five_digits n h in
    let k = length (decimal n) in
    let s : List ℕ = replicate 6 32 in
    let x : List ℕ = drop (6 + k) (replicate 11 32) in
    let i : e - 6 ≡ k = omega arith in
    let j : e - (e - 6) ≡ 6 = omega arith in
    let f : drop k (s ++ decimal n ++ x) ≡ replicate (6 - k) 32 ++ decimal n ++ x =
    rw (
      drop-append-le k (s ++ decimal n) x (simp length-append (omega arith)),
      drop-append-le k s (decimal n) (omega arith),
      drop_spaces k 6 32,
    ) in
    let m : length (replicate (6 - k) 32 ++ decimal n) ≡ 6 = simp (length-append, length-replicate) (omega arith) in
    rw (j, i, u.is, f) (take_at (replicate (6 - k) 32 ++ decimal n) x 6 m)

pub six-long : (n : ℕ) → n ≤ 65535 → length (six_wide n) ≡ 6
unfolding six_wide
six-long n h = let d = five_digits n h in simp (length-append, length-replicate) (omega arith)
