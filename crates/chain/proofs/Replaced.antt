-- A segment as a part of the slice. The words before and after the part stay, so the slice with the part written is the directory with the
-- segment replaced. Assumes nothing.
use Prim.Native.Nat.{ℕ, ◌+◌, ◌*◌, ◌-◌, ◌≤◌}
use native.Mathlib.Omega.{arith}
use mathlib.Core.Path.{◌≡◌, sym, ap, ◌∙◌}
use mathlib.Core.List.{List, append_assoc}
use lib.ListN.{take, drop}
use borrow.Rule.Slice.PartMut.{put_mid, post_of, Post-is}
use Rattle.meaning.specs.Enter.{with_segment}
use Rattle.walks.proofs.Words.{base}

-- the part of the slice that is segment s, as code cuts it
abbrev pub part_of : List ℕ → ℕ → List ℕ
part_of d s = take (base s + 512 - base s) (drop (base s) d)

-- the slice after a part of it was written
pub part-put : (d g : List ℕ) (s : ℕ) → 1 ≤ s
    → put_mid (base s) (base s + 512 - base s) d g ≡ with_segment d s g
unfolding with_segment
part-put d g s l =
    let k : base s + 512 ≡ 512 * s = omega arith in
    let z : post_of (base s) (base s + 512 - base s) d ≡ drop (512 * s) d =
    Post-is (base s) (base s + 512) d (omega arith) ∙ ap (λ (i : ℕ). drop i d) k in
    rw z (sym (append_assoc (take (base s) d) g (drop (512 * s) d)))
