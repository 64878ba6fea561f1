-- Segments written anew one after the other, no two the same. What is written later leaves a segment as it is, and before its turn it still has
-- its old header; so in the end each is what was made from its own header, and all others are as they were.
use Prim.Native.Nat.{ℕ, ◌≤◌}
use mathlib.Core.Path.{◌≡◌, refl, sym, ◌∙◌}
use mathlib.Core.Logic.{◌≢◌}
use mathlib.Core.List.{List, [], ◌∷◌, map}
use lib.ListN.{length, set}
use Rattle.meaning.specs.Words.{segment}
use Rattle.meaning.specs.Sound.{times}
use Rattle.meaning.specs.Requests.{render}
use Rattle.meaning.specs.Enter.{with_segment, header_of}
use Rattle.walks.specs.Lists.{All}
use Rattle.walks.proofs.Linked.{Inside}
use Rattle.walks.proofs.Alls.{all_map}
use Rattle.walks.proofs.Flat.{render-length}
use Rattle.walks.proofs.Times.{times_none, times-rest, times-own}
use Rattle.walks.proofs.Words.{with_length, with_own, with_other}
use Rattle.squeezed.specs.Squeeze.{Part, rewritten}

-- the words of a segment made anew
abbrev pub anew : List ℕ → Part → List ℕ
anew d x = render (set (header_of d x.seg) 4 x.first) x.entries

-- a part of a segment that lies in the directory
abbrev pub Within : List ℕ → Part → Type 0
Within d x = Inside (length d) x.seg

abbrev pub segs : List Part → List ℕ
segs xs = map (λ x. x.seg) xs

abbrev pub Own : List ℕ → List ℕ → Part → Type 0
Own D d x = segment D x.seg ≡ anew d x

pub record Rewrote (d : List ℕ) (xs : List Part) (D : List ℕ) : Type 0 where
  pub size : length D ≡ length d
  pub own : All (Own D d) xs
  pub others : (z : ℕ) → 1 ≤ z → times z (segs xs) ≡ 0 → segment D z ≡ segment d z

-- a part's words, where its segment is still as it was
anew-same : (d t : List ℕ) (y : Part) → segment t y.seg ≡ segment d y.seg → anew t y ≡ anew d y
unfolding header_of
anew-same d t y e = rw e

own-rest : (d t D : List ℕ) (s : ℕ) → ((z : ℕ) → 1 ≤ z → z ≢ s → segment t z ≡ segment d z)
    → (ys : List Part) → All (Within d) ys → times s (segs ys) ≡ 0 → All (Own D t) ys → All (Own D d) ys
own-rest d t D s same [] a n o = tt
own-rest d t D s same (y ∷ ys) a n o =
    let m = times_none s y.seg (segs ys) n in
    (o.0 ∙ anew-same d t y (same y.seg a.0.0 m.0), own-rest d t D s same ys a.1 m.1 o.1)

pub rewritten-is : (xs : List Part) (d : List ℕ) → All (Within d) xs → ((k : ℕ) → times k (segs xs) ≤ 1) → Rewrote d xs (rewritten d xs)
unfolding rewritten
rewritten-is [] d a f = record { size = refl; own = tt; others = λ z l h. refl }
rewritten-is (x ∷ xs) d a f =
    let s = x.seg in
    let low = a.0.0 in
    let high = a.0.1 in
    let g = anew d x in
    let n = render-length (set (header_of d s) 4 x.first) x.entries in
    let t = with_segment d s g in
    let same = with_length d s g low high n in
    let i =
    rewritten-is xs t (all_map (Within d) (Within t) (λ y u. (u.0, rw same u.1)) xs a.1)
    (λ k. times-rest k s (segs xs) (f k)) in
    let none = times-own s (segs xs) (f s) in
    record {
      size = i.size ∙ same;
      own = (
        i.others s low none ∙ with_own d s g low high n,
        own-rest d t (rewritten t xs) s (λ z l ne. with_other d s g low high n z l ne) xs a.1 none i.own,
      );
      others =
          λ z l h.
          let m = times_none z s (segs xs) h in
          i.others z l m.1 ∙ with_other d s g low high n z l (λ e. m.0 (sym e));
    }
