-- A segment renewed: a copy of it is mended in its place. Assumes nothing.
use Prim.Native.Nat.{ℕ, ◌+◌, ◌*◌, ◌-◌, ◌≤◌}
use mathlib.Core.Path.{◌≡◌, ap, ◌∙◌}
use mathlib.Core.List.{List}
use lib.ListN.{length}
use borrow.Rule.Slice.PartMut.{put_mid}
use Rattle.meaning.specs.Words.{segment}
use Rattle.meaning.specs.Enter.{with_segment}
use Rattle.walks.proofs.Words.{base, with_length}
use Rattle.chain.proofs.Links.{part-is}
use Rattle.chain.proofs.Replaced.{part_of, part-put}
use Rattle.mending.specs.declared.LaidTo.{LaidTo}
use Rattle.mending.specs.Mending.{MendedSegment, RenewedIn}

pub renewed : (v w : ℕ) (x : LaidTo) (s : ℕ) (d t u h : List ℕ) (r : LaidTo) → 1 ≤ s → 512 * s ≤ length t → u ≡ part_of d s
    → MendedSegment v w x u h r → length h ≡ 512 → RenewedIn v w x s d t (put_mid (base s) (base s + 512 - base s) t h) r
renewed v w x s d t u h r low high e m whole =
    let n : MendedSegment v w x (segment d s) h r = rw (e ∙ part-is d s) at m in
    let a : put_mid (base s) (base s + 512 - base s) t h ≡ with_segment t s h = part-put t h s low in
    record {
      words = a ∙ ap (with_segment t s) n.words;
      block = n.block;
      firsts = n.firsts;
      long = ap length a ∙ with_length t s h low high whole;
    }
