-- The first entries of a segment. The loop that sums their lengths keeps one equation: the sum so far and that of the slots ahead are
-- the sum of all. A split keeps half of the entries, or one more: the last of the first slots tells which. Assumes nothing.
use Prim.Native.Nat.{ℕ, zero, suc, ◌+◌, ◌*◌, ◌-◌, ◌/◌, ◌≤◌, ◌<◌}
use mathlib.Core.Path.{◌≡◌, refl, sym, ap, ◌∙◌}
use mathlib.Core.Bool.{Bool, true, false, cond}
use mathlib.Core.List.{List}
use native.Mathlib.Omega.{arith}
use native.Mathlib.Nat.{zero-mul, suc-mul, add_comm}
use mathlib.Core.List.{◌++◌}
use lib.ListN.{length, get_or, take, drop, length-append, length-drop}
use lib.Seq.{take-take, take-append_seam, drop-append_seam, get_or-take, get_or-drop, length-take-le}
use Rattle.meaning.specs.Kinds.{kind_of, is_tentative}
use Rattle.meaning.specs.Words.{blocks, chunks, slots, upto, total}
use Rattle.meaning.specs.Enter.{ends_tentative, kept}
use Rattle.walks.proofs.Words.{drop-take}
use Rattle.walks.proofs.Slots.{mul_less, more_words, chunks_step, first-slots}
use Rattle.segment.specs.Count.{Counted}
use Rattle.render.specs.Halves.{KeptOf}

-- slots are taken from their words alone
chunks-take : (n w : ℕ) (l : List ℕ) → chunks n w (take (n * w) l) ≡ chunks n w l
unfolding chunks
chunks-take zero w l = refl
chunks-take (suc n) w l =
    let e : take w (take (w + n * w) l) ≡ take w l = take-take w (w + n * w) l (omega arith) in
    let m : w + n * w - w ≡ n * w = omega arith in
    let f : drop w (take (w + n * w) l) ≡ take (n * w) (drop w l) = drop-take w (w + n * w) l ∙ rw m in
    rw (← more_words n w, e, f, chunks-take n w (drop w l))

few-slots : (n w : ℕ) → 1 ≤ w → n ≤ n * w
few-slots zero w h = omega arith
few-slots (suc n) w h = omega (arith, suc-mul n w, few-slots n w h)

-- the sum's invariant: the words l of left slots are ahead, and the lengths of all count slots are sum and those ahead
pub record Summing (g : List ℕ) (w count : ℕ) (l : List ℕ) (sum : ℕ) : Type 0 where
  pub left : ℕ
  pub long : length l ≡ left * w
  pub few : count ≤ 512
  pub small : sum + 65535 * left ≤ 65535 * count
  pub same : sum + total (chunks left w l) ≡ total (chunks count w (drop 5 g))

pub summing : (g : List ℕ) (w count : ℕ) → length g ≡ 512 → 7 ≤ w → 5 + count * w ≤ 512
    → Summing g w count (take (5 + count * w - 5) (drop 5 g)) 0
summing g w count n h k =
    let e : 5 + count * w - 5 ≡ count * w = omega arith in
    let long : length (take (count * w) (drop 5 g)) ≡ count * w = length-take-le (count * w) (drop 5 g) (omega (arith, length-drop 5 g, n, k)) in
    rw e
    (record {
      left = count;
      long = long;
      few = omega (arith, few-slots count w (omega arith));
      small = omega arith;
      same = rw (chunks-take count w (drop 5 g)) (omega arith);
    })

module _ {g : List ℕ} {w count : ℕ} {l : List ℕ} {sum : ℕ} (v : Summing g w count l sum) (wide : 7 ≤ w) where
  -- the words x of the first slot ahead, and m those behind it
  module _ (x m : List ℕ) (e : l ≡ x ++ m) (k : length x ≡ w) where
    whole : w ≤ v.left * w
    whole = omega (arith, v.long, ap length e, length-append x m, k)

    some : 0 < v.left
    some = go v.left whole
      where
        go : (n : ℕ) → w ≤ n * w → 0 < n
        go zero h = absurd (omega (arith, h, zero-mul w, wide))
        go (suc n) h = omega arith

    sums : total (chunks v.left w l) ≡ blocks x + total (chunks (v.left - 1) w m)
    unfolding total
    sums =
        let f : take w l ≡ x = rw (e, ← k) (take-append_seam x m) in
        let r : drop w l ≡ m = rw (e, ← k) (drop-append_seam x m) in
        rw (chunks_step v.left w l some, f, r)

    pub sum-fits : blocks x ≤ 65535 → sum + blocks x ≤ 33553920
    sum-fits b = omega (arith, v.small, v.few, some)

    pub sum-next : blocks x ≤ 65535 → Summing g w count m (sum + blocks x)
    sum-next b = record {
      left = v.left - 1;
      long = omega (arith, v.long, ap length e, length-append x m, k, mul_less v.left w some);
      few = v.few;
      small = omega (arith, v.small, some);
      same = omega (arith, v.same, sums);
    }

  -- no whole slot is left
  pub summed : length l < w → sum ≡ total (chunks count w (drop 5 g))
  unfolding chunks total
  summed h = go v.left refl
    where
      go : (n : ℕ) → n ≡ v.left → sum ≡ total (chunks count w (drop 5 g))
      go zero q = omega (arith, rw (← q) at v.same)
      go (suc n) q = absurd (omega (arith, v.long, h, rw (← q) at v.long, suc-mul n w))

-- the last of some slots
ends_last : (n w : ℕ) (l : List ℕ) → 0 < w → ends_tentative (chunks (suc n) w l) ≡ is_tentative (kind_of (get_or l (n * w) 0))
unfolding chunks ends_tentative
ends_last zero w l h = rw (get_or-take w l 0 0 h, zero-mul w)
ends_last (suc n) w l h =
    let e : w + n * w ≡ suc n * w = add_comm w (n * w) ∙ sym (suc-mul n w) in
    ends_last n w (drop w l) h ∙ rw (get_or-drop w l (n * w) 0, e)

-- the word that code reads
ends_word : (n w : ℕ) (g : List ℕ) → 0 < n → 0 < w
    → ends_tentative (chunks n w (drop 5 g)) ≡ is_tentative (kind_of (get_or g (5 + (n - 1) * w) 0))
ends_word zero w g h k = absurd (omega arith)
ends_word (suc n) w g h k =
    let e : suc n - 1 ≡ n = omega arith in
    ends_last n w (drop 5 g) k ∙ rw (get_or-drop 5 g (n * w) 0, e)

module _ {g : List ℕ} {m w : ℕ} (i : Counted m w g) (wide : 7 ≤ w) where
  -- the first half, as slots
  half_slots : take (length (upto (slots w g)) / 2) (upto (slots w g)) ≡ chunks (length (upto (slots w g)) / 2) w (drop 5 g)
  unfolding slots
  half_slots = first-slots (507 / w) (length (upto (slots w g)) / 2) w (drop 5 g) (omega arith)

  kept_by_lem : (x : Bool) → ends_tentative (chunks (m / 2) w (drop 5 g)) ≡ x → kept (upto (slots w g)) ≡ cond x (m / 2 + 1) (m / 2)
  unfolding kept
  kept_by_lem x e = rw (half_slots, ← i.is, e)

  pub kept-none : m / 2 ≡ 0 → KeptOf 0 (upto (slots w g))
  unfolding chunks ends_tentative
  kept-none z = record {
    is = sym (kept_by_lem false (rw z) ∙ z);
    low = omega (arith, i.is);
    high = omega arith;
    within = omega arith;
  }

  -- the last kept is tentative, and it is not
  pub kept-one : 0 < m / 2 → is_tentative (kind_of (get_or g (5 + (m / 2 - 1) * w) 0)) ≡ true → KeptOf (m / 2 + 1) (upto (slots w g))
  kept-one h e = record {
    is = sym (kept_by_lem true (ends_word (m / 2) w g h (omega arith) ∙ e));
    low = omega (arith, i.is);
    high = omega (arith, i.is);
    within = omega (arith, i.is);
  }

  pub kept_half : 0 < m / 2 → is_tentative (kind_of (get_or g (5 + (m / 2 - 1) * w) 0)) ≡ false → KeptOf (m / 2) (upto (slots w g))
  kept_half h e = record {
    is = sym (kept_by_lem false (ends_word (m / 2) w g h (omega arith) ∙ e));
    low = omega (arith, i.is);
    high = omega (arith, i.is);
    within = omega (arith, i.is);
  }
