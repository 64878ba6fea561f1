-- Writes into lent room, and how they add up. A write is its three parts: what stood before its place, its bytes, and what stood
-- after them. Of two writes, the second at the place where the first ended, the first two parts of the one are the first part of
-- the other, so that together they are one write of both texts. Assumes nothing.
use Prim.Native.Nat.{ℕ, suc, ◌+◌, ◌≤◌, ◌<◌}
use mathlib.Core.Path.{◌≡◌, refl, sym, ◌∙◌}
use mathlib.Core.List.{List, [], ◌∷◌, ◌++◌, append_assoc, append-nil}
use native.Mathlib.Omega.{arith}
use native.Mathlib.Nat.{add-zero}
use native.Mathlib.Numerals.{add-one}
use lib.ListN.{length, take, drop, set, length-append, length-set, take-append-drop}
use lib.Seq.{set_split}
use Rattle.walks.proofs.Words.{both_put}
use Rattle.lines.specs.Wrote.{Wrote}

-- nothing is written
pub none : (b : List ℕ) (p : ℕ) → p ≤ length b → Wrote b p [] b p
none b p h = record {
  is = sym (rw (add-zero, append-nil) (take-append-drop p b));
  ends = omega arith;
  inside = h;
  long = refl;
}

-- one byte
pub one : (b : List ℕ) (p x : ℕ) → p < length b → Wrote b p (x ∷ []) (set b p x) (p + 1)
one b p x h = record {
  is = set_split b p x h ∙ (rw add-one (sym (append_assoc (take p b) (x ∷ []) (drop (suc p) b))));
  ends = refl;
  inside = omega arith;
  long = length-set b p x;
}

-- two writes, one after the other
pub both : {b l m k a : List ℕ} {p y z : ℕ} → Wrote b p l m y → Wrote m y k a z → Wrote b p (l ++ k) a z
both {b} {l} {m} {k} {a} {p} {y} {z} u v = record {
  is = both_put b l m k a p (omega (arith, u.ends, u.inside)) u.is (v.is ∙ rw u.ends);
  ends = v.ends ∙ omega (arith, u.ends, length-append l k);
  inside = omega (arith, v.inside, u.long);
  long = v.long ∙ u.long;
}

-- the same where the second text is itself two, as the meaning brackets them
pub and_both : {b l m a : List ℕ} {p y z : ℕ} (j k : List ℕ)
    → Wrote b p l m y → Wrote m y (j ++ k) a z → Wrote b p (l ++ j ++ k) a z
and_both {l = l} j k u v = rw (append_assoc l j k) (both u v)

-- a text, and one byte after it
pub and_one : {b l m : List ℕ} {p y : ℕ} (x : ℕ) → Wrote b p l m y → y < length b → Wrote b p (l ++ (x ∷ [])) (set m y x) (y + 1)
and_one {m = m} {y = y} x u h = both u (one m y x (omega arith))

-- two bytes
pub two : (b : List ℕ) (p x y : ℕ) → p + 2 ≤ length b → Wrote b p (x ∷ y ∷ []) (set (set b p x) (p + 1) y) (p + 2)
two b p x y h =
    let e : p + 2 ≡ p + 1 + 1 = omega arith in
    let n : length (set b p x) ≡ length b = length-set b p x in
    rw e (both (one b p x (omega arith)) (one (set b p x) (p + 1) y (omega arith)))
