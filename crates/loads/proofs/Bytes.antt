-- The memory byte by byte. A byte put at an address is found there, and every other address keeps its byte: another word is not touched, and of
-- the same word the other half stays. Bytes that are stored one after the other are, at each turn, those that are left.
use Prim.Native.Nat.{ℕ, zero, suc, ◌+◌, ◌*◌, ◌-◌, ◌/◌, ◌%◌, ◌≤◌, ◌<◌}
use native.Mathlib.Nat.{add-zero, min-le_left}
use native.Mathlib.Numerals.{add-one}
use native.Mathlib.Omega.{arith}
use mathlib.Core.Path.{◌≡◌, refl, sym, ap, ◌∙◌}
use mathlib.Core.Logic.{◌⊎◌, inl, inr, ⊎_elim}
use mathlib.Core.Bool.{true, false, cond}
use mathlib.Core.List.{List, [], ◌∷◌}
use borrow.Author.Tests.{eq-eqb, ne_eqb, eqb-true, eqb-false}
use lib.ListN.{length, get_or, set, take, drop, length-set, drop_of_length-le}
use Rattle.std.proofs.lemmas.List.{get_or-take, get_or-drop}
use lib.Seq.{get_or-set_same, get_or-set_other, set_out, take-length, drop-cons}
use lib.Dec.{eqb}
use Rattle.bools.proofs.Bools.{either_side}
use Rattle.std.specs.List.{fold}
use Rattle.std.specs.Simd.{first_chunks}
use Rattle.loads.specs.Memory.{limit, byte_at, with_byte, put_byte, puts, bytes_at}
use Rattle.loads.specs.Blocks.{byte_sum}
use Rattle.loads.specs.Laws.{Words}

-- by a test
pub decide : {A : Type 0} (m n : ℕ) → (m ≡ n → A) → ((m ≡ n → ⊥) → A) → A
decide {A} m n f g =
    (elim (eqb m n) as (λ t. eqb m n ≡ t → A) [
      | true ↦ λ e. f (eqb-true m n e)
      | false ↦ λ e. g (eqb-false m n e)
    ])
    refl

-- the half of the word w that address a names
half : ℕ → ℕ → ℕ
half w a = cond (eqb (a % 2) 0) (w % 256) (w / 256)

half_same : (w a b : ℕ) → b < 256 → half (with_byte w a b) a ≡ b
unfolding half with_byte
half_same w a b h =
    decide (a % 2) 0 (λ e. rw (eq-eqb (a % 2) 0 e) (omega arith)) (λ e. rw (ne_eqb (a % 2) 0 e) (omega arith))

half_other : (w a b x : ℕ) → b < 256 → (x % 2 ≡ a % 2 → ⊥) → half (with_byte w a b) x ≡ half w x
unfolding half with_byte
half_other w a b x h n =
    decide (a % 2) 0
    (λ e. rw (eq-eqb (a % 2) 0 e, ne_eqb (x % 2) 0 (λ f. n (f ∙ sym e))) (omega arith))
    (λ e. rw (ne_eqb (a % 2) 0 e, eq-eqb (x % 2) 0 (omega arith)) (omega arith))

by_half : (m : List ℕ) (a : ℕ) → byte_at m a ≡ half (get_or m (a / 2) 0) a
unfolding byte_at half
by_half m a = refl

put-here : (m : List ℕ) (a b : ℕ) → b < 256 → a < 2 * length m → byte_at (put_byte a b m) a ≡ b
unfolding put_byte
put-here m a b h k =
    rw (by_half, get_or-set_same m (a / 2) (with_byte (get_or m (a / 2) 0) a b) 0 (omega arith)) (half_same (get_or m (a / 2) 0) a b h)

put_other : (m : List ℕ) (a b x : ℕ) → b < 256 → (x ≡ a → ⊥) → byte_at (put_byte a b m) x ≡ byte_at m x
unfolding put_byte
put_other m a b x h n =
    ⊎_elim
    (λ k.
    decide (x / 2) (a / 2)
    (λ e.
    rw (
      by_half (set m (a / 2) (with_byte (get_or m (a / 2) 0) a b)) x,
      by_half m x,
      e,
      get_or-set_same m (a / 2) (with_byte (get_or m (a / 2) 0) a b) 0 k,
    )
    (half_other (get_or m (a / 2) 0) a b x h (λ f. n (omega arith))))
    (λ e.
    rw (
      by_half (set m (a / 2) (with_byte (get_or m (a / 2) 0) a b)) x,
      by_half m x,
      get_or-set_other m (a / 2) (x / 2) (with_byte (get_or m (a / 2) 0) a b) 0 e,
    )))
    (λ k. rw (set_out m (a / 2) (with_byte (get_or m (a / 2) 0) a b) k))
    (either_side (a / 2) (length m))

pub length-put : (m : List ℕ) (a b : ℕ) → length (put_byte a b m) ≡ length m
unfolding put_byte
length-put m a b = length-set m (a / 2) (with_byte (get_or m (a / 2) 0) a b)

pub length-puts : (a : ℕ) (ds m : List ℕ) → length (puts a ds m) ≡ length m
unfolding puts
length-puts a [] m = refl
length-puts a (b ∷ ds) m = length-puts (a + 1) ds (put_byte a b m) ∙ length-put m a b

-- the bytes of a memory of 16-bit words
byte_small : (m : List ℕ) (a : ℕ) → Words m → byte_at m a < 256
unfolding byte_at
byte_small m a h =
    let k = h (a / 2) in
    decide (a % 2) 0 (λ e. rw (eq-eqb (a % 2) 0 e) (omega arith)) (λ e. rw (ne_eqb (a % 2) 0 e) (omega arith))

pub puts-outside : (m : List ℕ) → Words m → (a n : ℕ) (w : List ℕ) (x : ℕ) → (x < a) ⊎ (a + n ≤ x)
    → byte_at (puts a (bytes_at m a n) w) x ≡ byte_at w x
unfolding puts bytes_at
puts-outside m s a zero w x h = refl
puts-outside m s a (suc n) w x h =
    let o : (x < a + 1) ⊎ (a + 1 + n ≤ x) = ⊎_elim (λ k. inl (omega arith)) (λ k. inr (omega arith)) h in
    let d : x ≡ a → ⊥ = λ e. ⊎_elim (λ (k : x < a). omega arith) (λ (k : a + suc n ≤ x). omega arith) h in
    puts-outside m s (a + 1) n (put_byte a (byte_at m a) w) x o ∙ put_other w a (byte_at m a) x (byte_small m a s) d

pub puts-inside : (m : List ℕ) → Words m → (a n : ℕ) (w : List ℕ) (x : ℕ) → a + n ≤ 2 * length w → a ≤ x → x < a + n
    → byte_at (puts a (bytes_at m a n) w) x ≡ byte_at m x
unfolding puts bytes_at
puts-inside m s a zero w x r h k = absurd (omega arith)
puts-inside m s a (suc n) w x r h k =
    let e = length-put w a (byte_at m a) in
    decide x a
    (λ f.
    puts-outside m s (a + 1) n (put_byte a (byte_at m a) w) x (inl (omega arith))
    ∙ rw f (put-here w a (byte_at m a) (byte_small m a s) (omega arith)))
    (λ f. puts-inside m s (a + 1) n (put_byte a (byte_at m a) w) x (omega arith) (omega arith) (omega arith))

pub limit-within : (w : List ℕ) → limit w ≤ 2 * length w
unfolding limit
limit-within w = min-le_left (2 * length w) 65536

pub length-bytes : (m : List ℕ) (a n : ℕ) → length (bytes_at m a n) ≡ n
unfolding bytes_at
length-bytes m a zero = refl
length-bytes m a (suc n) = let e = length-bytes m (a + 1) n in omega arith

-- a turn of a loop stores the first byte that is left; at the end none is
put_next : (a i : ℕ) (ds m o : List ℕ) → i < length ds → puts (a + i) (drop i ds) m ≡ o
    → puts (a + (i + 1)) (drop (i + 1) ds) (put_byte (a + i) (get_or ds i 0) m) ≡ o
unfolding puts
put_next a i ds m o h e =
    let n : a + (i + 1) ≡ a + i + 1 = omega arith in
    rw (n, add-one i) (rw (drop-cons ds i 0 h) at e)

put_last : (a i : ℕ) (ds m o : List ℕ) → length ds ≤ i → puts (a + i) (drop i ds) m ≡ o → m ≡ o
unfolding puts
put_last a i ds m o h e = rw (drop_of_length-le ds h) at e

-- two bytes put into the halves of one word
set_twice : (l : List ℕ) (i x y : ℕ) → set (set l i x) i y ≡ set l i y
set_twice [] i x y = refl
set_twice (z ∷ l) zero x y = refl
set_twice (z ∷ l) (suc i) x y = ap {B = List ℕ} (λ r. z ∷ r) (set_twice l i x y)

pub put_two : (m : List ℕ) (a b c : ℕ) → b < 256 → a % 2 ≡ 0 → a + 2 ≤ 2 * length m
    → set m (a / 2) (b + 256 * c) ≡ put_byte (a + 1) c (put_byte a b m)
unfolding put_byte with_byte
put_two m a b c h e k =
    let w = get_or m (a / 2) 0 / 256 * 256 + b in
    let n : (a + 1) / 2 ≡ a / 2 = omega arith in
    let v : w % 256 ≡ b = omega arith in
    rw (eq-eqb (a % 2) 0 e, ne_eqb ((a + 1) % 2) 0 (λ f. omega arith), n, get_or-set_same m (a / 2) w 0 (omega arith), v)
    (sym (set_twice m (a / 2) w (b + 256 * c)))

-- bytes that are put two at a turn, i turns of them: what is left gives what all do
pub record Filling (a : ℕ) (ds m₀ m : List ℕ) (i : ℕ) : Type 0 where
  pub long : length m ≡ length m₀
  pub left : puts (a + 2 * i) (drop (2 * i) ds) m ≡ puts a ds m₀

fill_pair : {a i : ℕ} {ds m₀ m : List ℕ} (m' : List ℕ) → Filling a ds m₀ m i → 2 * i + 1 < length ds
    → m' ≡ put_byte (a + 2 * i + 1) (get_or ds (2 * i + 1) 0) (put_byte (a + 2 * i) (get_or ds (2 * i) 0) m) → Filling a ds m₀ m' (i + 1)
fill_pair {a} {i} {ds} {m₀} {m} m' c h e =
    let one = put_next a (2 * i) ds m (puts a ds m₀) (omega arith) c.left in
    let two = put_next a (2 * i + 1) ds (put_byte (a + 2 * i) (get_or ds (2 * i) 0) m) (puts a ds m₀) h one in
    let n : a + 2 * i + 1 ≡ a + (2 * i + 1) = omega arith in
    let k : 2 * (i + 1) ≡ 2 * i + 1 + 1 = omega arith in
    record {
      long = rw (e, length-put, length-put) c.long;
      left = rw (e, n, k) two;
    }

pub fill_byte : {a i : ℕ} {ds m₀ m : List ℕ} (m' : List ℕ) → Filling a ds m₀ m i → 2 * i < length ds → length ds ≤ 2 * i + 1
    → m' ≡ put_byte (a + 2 * i) (get_or ds (2 * i) 0) m → (m' ≡ puts a ds m₀) × (length m' ≡ length m₀)
fill_byte {a} {i} {ds} {m₀} {m} m' c h k e =
    let one = put_next a (2 * i) ds m (puts a ds m₀) h c.left in (
      e ∙ put_last a (2 * i + 1) ds (put_byte (a + 2 * i) (get_or ds (2 * i) 0) m) (puts a ds m₀) k one,
      rw (e, length-put) c.long,
    )

pub fill_ends : {a i : ℕ} {ds m₀ m : List ℕ} → Filling a ds m₀ m i → length ds ≤ 2 * i → m ≡ puts a ds m₀
fill_ends {a} {i} {ds} {m₀} {m} c h = put_last a (2 * i) ds m (puts a ds m₀) h c.left

-- the bytes of a pair
pair_get : (k i j : ℕ) (ds : List ℕ) → i < k → j < 2 → get_or (get_or (first_chunks 2 k ds) i []) j 0 ≡ get_or ds (2 * i + j) 0
pair_get zero i j ds h e = absurd (omega arith)
pair_get (suc k) zero j ds h e = let n : 2 * 0 + j ≡ j = omega arith in rw n (get_or-take 2 ds j 0 e)
pair_get (suc k) (suc i) j ds h e =
    let n : 2 * suc i + j ≡ 2 + (2 * i + j) = omega arith in
    pair_get k i j (drop 2 ds) (omega arith) e ∙ rw n (get_or-drop 2 ds (2 * i + j) 0)

-- a turn puts a pair into one word
pub fill_word : {a i : ℕ} {ds m₀ m : List ℕ} (w : ℕ) (p : List ℕ) → Filling a ds m₀ m i → a % 2 ≡ 0 → i < length ds / 2 → a + length ds ≤ 2 * length m₀
    → get_or ds (2 * i) 0 < 256 → p ≡ get_or (first_chunks 2 (length ds / 2) ds) i [] → w ≡ get_or p 0 0 + get_or p 1 0 * 256
    → Filling a ds m₀ (set m (a / 2 + i) w) (i + 1)
fill_word {a} {i} {ds} {m₀} {m} w p c even h room small f e =
    let low = pair_get (length ds / 2) i 0 ds h (omega arith) in
    let high = pair_get (length ds / 2) i 1 ds h (omega arith) in
    let is : w ≡ get_or ds (2 * i) 0 + 256 * get_or ds (2 * i + 1) 0 = e ∙ rw (f, low, high, add-zero (2 * i)) (omega arith) in
    let place : a / 2 + i ≡ (a + 2 * i) / 2 = omega arith in
    let two = put_two m (a + 2 * i) (get_or ds (2 * i) 0) (get_or ds (2 * i + 1) 0) small (omega arith) (omega (arith, c.long)) in
    fill_pair (set m (a / 2 + i) w) c (omega arith) (rw (is, place) two)

-- nothing to put, and a first byte by itself
pub puts_none : (a : ℕ) (ds m : List ℕ) → length ds < 1 → m ≡ puts a ds m
unfolding puts
puts_none a [] m h = refl
puts_none a (d ∷ ds) m h = absurd (omega arith)

pub puts_first : (a : ℕ) (ds m : List ℕ) → 0 < length ds
    → puts (a + 1) (take (length ds - 1) (drop 1 ds)) (put_byte a (get_or ds 0 0) m) ≡ puts a ds m
unfolding puts
puts_first a [] m h = absurd (omega arith)
puts_first a (d ∷ ds) m h =
    let e : length (d ∷ ds) - 1 ≡ length ds = omega arith in
    rw (e, take-length ds)

-- the sum of bytes modulo 256, reduced at each byte
pub sum_folds : (bs : List ℕ) (n : ℕ) → n < 256 → fold (λ (k b : ℕ). (k + b) % 256) n bs ≡ (n + byte_sum bs) % 256
unfolding byte_sum
sum_folds [] n h = omega arith
sum_folds (b ∷ bs) n h =
    let e = sum_folds bs ((n + b) % 256) (omega arith) in
    e ∙ omega arith
