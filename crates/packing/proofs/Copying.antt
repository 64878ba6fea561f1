-- An entry copied in two parts, its first seven words and those behind them. The part of a slice that is lent for the first is put back as one write,
-- and the second write follows it.
use Prim.Native.Nat.{ℕ, ◌+◌, ◌-◌, ◌≤◌}
use native.Mathlib.Omega.{arith}
use mathlib.Core.Path.{◌≡◌, refl, sym, ap}
use mathlib.Core.List.{List, ◌++◌, append_assoc}
use lib.ListN.{length, take, drop, length-append}
use borrow.Rule.Slice.PartMut.{put_mid, post_of, mid_of, Post-is, same_len_mid}
use Rattle.std.proofs.lemmas.List.{take-append-drop}
use Rattle.segment.specs.Written.{Written}
use Rattle.segment.proofs.Writes.{both_written}

-- the words s, put back as the part p of seven words that code has cut, are one write
seven-put : (b s p : List ℕ) (q : ℕ) → q + 7 ≤ length b → length s ≡ 7 → p ≡ s → length p ≡ length (mid_of q (q + 7 - q) b)
    → Written b q s (put_mid q (q + 7 - q) b p) (q + 7)
seven-put b s p q room seven same fits =
    let after : post_of q (q + 7 - q) b ≡ drop (q + 7) b = Post-is q (q + 7) b (omega arith) in
    let words : put_mid q (q + 7 - q) b p ≡ take q b ++ s ++ drop (q + 7) b = rw (after, same) (sym (append_assoc (take q b) s (drop (q + 7) b))) in
    record { words = rw seven words; next = rw seven refl; long = same_len_mid q (q + 7 - q) b p fits }

-- the entry e, whose first words are s and the others t
pub entry-copied : (b e s t p a : List ℕ) (q z : ℕ) → q + length e ≤ length b → s ≡ take 7 e → t ≡ drop 7 e → length s ≡ 7 → p ≡ s
    → length p ≡ length (mid_of q (q + 7 - q) b) → Written (put_mid q (q + 7 - q) b p) (q + 7) t a z → Written b q e a z
entry-copied b e s t p a q z room front back seven same fits u =
    let both : s ++ t ≡ e = rw (front, back) (take-append-drop 7 e) in
    let long = length-append s t in
    let n = ap length both in
    rw (← both)
    (both_written b s (put_mid q (q + 7 - q) b p) t a q (q + 7) z (omega (arith, long, n, room))
    (seven-put b s p q (omega (arith, long, n, room, seven)) seven same fits) u)
