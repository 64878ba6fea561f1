-- `fill`: what a turn puts behind the bytes before `done` is what the reader loses in it.
use Rattle.std.proofs.Common.{◌≡◌, ℕ, ◌+◌, ◌-◌, ◌≤◌, List, ◌++◌, arith, length, take, sym, ap, ◌∙◌, subst, le_refl, drop_at, length-take-le}
use Rattle.std.proofs.lemmas.Slice.{take-put_mid_below}
use Rattle.std.proofs.Math.Seq.{take-add, take-append-le}
use Rattle.std.specs.Io.KnownBytes.{Consumes}
use Rattle.std.proofs.KnownBytes.{Consumes-trans}
use borrow.Rule.Slice.PartMut.{put_mid, post_of}
use Rattle.streams.proofs.fill.Goals as goal

-- the first a + n of a list whose middle from a on was written anew: the a as they were, and n of the new middle
take_written : (a k n : ℕ) (xs ys : List ℕ) → a ≤ length xs → n ≤ length ys → take a xs ++ take n ys ≡ take (a + n) (put_mid a k xs ys)
take_written a k n xs ys within fits =
    let all = put_mid a k xs ys in
    let after = post_of a k xs in
    let front = take-put_mid_below a k xs ys a (le_refl a) within in
    let part = drop_at (take a xs) (ys ++ after) a (length-take-le a xs within) in
    let rest = ap (take n) part ∙ take-append-le n ys after fits in
    ap (λ l. l ++ take n ys) (sym front) ∙ ap (λ l. take a all ++ l) (sym rest) ∙ sym (take-add a n all)

pub loop-done-preserved : goal.loop-done-preserved
loop-done-preserved g c =
    let at = c.loop-done.done in
    let room = length c.loop-done.buf - at in
    let within = c.loop-done.invariant.in_bounds in
    let fits = c.in-Ok.ensures.bound.0 in
    let joined = take_written at room c.in-Ok.n c.loop-done.buf c.read.new.buf within fits in
    record {
      in_bounds = omega arith;
      bytes = subst (Consumes _ _) joined (Consumes-trans _ _ _ _ _ c.loop-done.invariant.bytes c.in-Ok.ensures.bytes.0);
    }
