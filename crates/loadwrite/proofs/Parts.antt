-- The parts of a block as writes. The data is written byte by byte, each turn of the loop adding the next byte at the end; header and data, one
-- after the other, are the body; what then stands between the block's start and its end is this body, so that the checksum is that of the body.
-- Assumes nothing.
use Prim.Native.Nat.{ℕ, zero, suc, ◌+◌, ◌*◌, ◌-◌, ◌/◌, ◌%◌, ◌≤◌}
use native.Mathlib.Numerals.{add-one}
use native.Mathlib.Omega.{arith}
use mathlib.Core.Path.{◌≡◌, refl}
use mathlib.Core.List.{List, [], ◌∷◌, ◌++◌, append_assoc}
use lib.ListN.{length, get_or, take, drop}
use borrow.Author.Tests.{eq-eqb, ne_eqb}
use lib.Seq.{length-take-le, drop_at, take_at}
use Rattle.lines.specs.Wrote.{Wrote}
use Rattle.lines.proofs.Writes.{none, both}
use Rattle.loads.specs.Memory.{byte_at, bytes_at}
use Rattle.loads.specs.Writing.{checksum, body, block}
use Rattle.loads.proofs.Bytes.{length-bytes}
use Rattle.loads.proofs.Trips.{bytes_both}

-- the data: before the first turn no byte of it is written, a turn writes the next one, and after the last all are written
bytes-last : (m : List ℕ) (a i : ℕ) → bytes_at m a (suc i) ≡ bytes_at m a i ++ byte_at m (a + i) ∷ []
unfolding bytes_at
bytes-last m a i = rw (add-one i) at (bytes_both m a i 1)

pub no_data : (m b : List ℕ) (a q : ℕ) → q ≤ length b → Wrote b q (bytes_at m a 0) b q
unfolding bytes_at
no_data m b a q h = none b q h

-- a last byte behind an even number of them
pub data_more : {b o o' : List ℕ} {q p z x : ℕ} (m : List ℕ) (a i n : ℕ) → Wrote b q (bytes_at m a (2 * i)) o p → n ≡ 2 * i + 1
    → x ≡ byte_at m (a + n - 1) → Wrote o p (x ∷ []) o' z → Wrote b q (bytes_at m a n) o' z
data_more m a i n u k e v =
    let j : a + n - 1 ≡ a + 2 * i = omega arith in
    rw (k, add-one (2 * i), bytes-last m a (2 * i), ← j, ← e) (both u v)

-- a word has the bytes of an even address and the next
pair_is : (m : List ℕ) (a : ℕ) → a % 2 ≡ 0 → (byte_at m a ≡ get_or m (a / 2) 0 % 256) × (byte_at m (a + 1) ≡ get_or m (a / 2) 0 / 256)
unfolding byte_at
pair_is m a e =
    let n : (a + 1) / 2 ≡ a / 2 = omega arith in
    (rw (eq-eqb (a % 2) 0 e), rw (ne_eqb ((a + 1) % 2) 0 (λ f. omega arith), n))

pub data_two : {b o o' : List ℕ} {q p z : ℕ} (m : List ℕ) (a i w : ℕ) → Wrote b q (bytes_at m a (2 * i)) o p → a % 2 ≡ 0
    → w ≡ get_or m (a / 2 + i) 0 → Wrote o p (w % 256 ∷ w / 256 ∷ []) o' z → Wrote b q (bytes_at m a (2 * (i + 1))) o' z
data_two {b} {o} {o'} {q} {p} {z} m a i w u e k v =
    let n : 2 * (i + 1) ≡ suc (suc (2 * i)) = omega arith in
    let f : a + suc (2 * i) ≡ a + 2 * i + 1 = omega arith in
    let g : (a + 2 * i) / 2 ≡ a / 2 + i = omega arith in
    let h = pair_is m (a + 2 * i) (omega arith) in
    rw (
      n,
      bytes-last m a (suc (2 * i)),
      bytes-last m a (2 * i),
      f,
      h.0,
      h.1,
      g,
      ← k,
      append_assoc (bytes_at m a (2 * i)) (w % 256 ∷ []) (w / 256 ∷ []),
    )
    (both u v)

-- none, and a first byte by itself
pub data_none : (m b : List ℕ) (a n q : ℕ) → q ≤ length b → n ≡ 0 → Wrote b q (bytes_at m a n) b q
data_none m b a n q h e = rw e (no_data m b a q h)

pub data_first : {b o o' : List ℕ} {q p z x : ℕ} (m : List ℕ) (a n : ℕ) → (n ≡ 0 → ⊥) → x ≡ byte_at m a → Wrote b q (x ∷ []) o p
    → Wrote o p (bytes_at m (a + 1) (n - 1)) o' z → Wrote b q (bytes_at m a n) o' z
unfolding bytes_at
data_first m a zero h e u v = absurd (h refl)
data_first {o = o} {o' = o'} {p = p} {z = z} m a (suc n) h e u v =
    let k : suc n - 1 ≡ n = omega arith in
    let w : Wrote o p (bytes_at m (a + 1) n) o' z = rw (← k) v in
    rw (← e) (both u w)

-- what was written stands there
stands : {b o l : List ℕ} {q e : ℕ} → Wrote b q l o e → take (e - q) (drop q o) ≡ l
stands {b} {o} {l} {q} {e} u =
    let j : e - q ≡ length l = omega (arith, u.ends) in
    let d : drop q o ≡ l ++ drop (q + length l) b =
    rw (u.is, append_assoc (take q b) l (drop (q + length l) b))
    (drop_at (take q b) (l ++ drop (q + length l) b) q (length-take-le q b (omega (arith, u.ends, u.inside)))) in
    rw (d, j) (take_at l (drop (q + length l) b) (length l) refl)

-- the header and the data are the body
abbrev header : ℕ → ℕ → List ℕ
header n a = 1 ∷ 0 ∷ (6 + n) % 256 ∷ (6 + n) / 256 ∷ a % 256 ∷ a / 256 ∷ []

body-parts : (a n : ℕ) (ds : List ℕ) → length ds ≡ n → header n a ++ ds ≡ body a ds
unfolding body
body-parts a n ds e = rw e

pub a_body : {b o o' : List ℕ} {q y z : ℕ} (m : List ℕ) (a n : ℕ) → Wrote b q (header n a) o y → Wrote o y (bytes_at m a n) o' z
    → Wrote b q (body a (bytes_at m a n)) o' z
a_body m a n u v = rw (← body-parts a n (bytes_at m a n) (length-bytes m a n)) (both u v)

pub end_body : {b o : List ℕ} {q y : ℕ} (t : ℕ) → Wrote b q (header 0 t) o y → Wrote b q (body t []) o y
unfolding body
end_body t u = u

-- the body and its checksum are the block
pub a_block : {b o o' : List ℕ} {q e z x : ℕ} (a : ℕ) (ds : List ℕ) → Wrote b q (body a ds) o e
    → x ≡ checksum (take (e - q) (drop q o)) → Wrote o e (x ∷ []) o' z → Wrote b q (block a ds) o' z
unfolding block
a_block {b} {o} {o'} {q} {e} {z} {x} a ds u c v =
    let w : Wrote o e (checksum (body a ds) ∷ []) o' z = rw (← stands u, ← c) v in
    both u w
