-- The new entry put into a segment in place. The words from the area on are moved up first; then the gap and the new entry are written
-- before them, the area's length is changed, and the marker and zeros follow. Together that is one write from the area's word on, of just
-- the words that the segment made anew has there; before it stands what stood there. Assumes nothing.
use Prim.Native.Nat.{ℕ, ◌+◌, ◌*◌, ◌-◌, ◌≤◌, ◌<◌}
use mathlib.Core.Path.{◌≡◌, sym, ap, ◌∙◌}
use mathlib.Core.List.{List, [], ◌∷◌, ◌++◌, append_assoc, append-nil}
use native.Mathlib.Decide.{ℕ_discrete}
use native.Mathlib.Omega.{arith}
use lib.ListN.{length, get_or, take, drop, set, replicate, drop_of_length-le, length-append, length-drop, length-set}
use lib.ListN.{length-replicate}
use lib.Seq.{take-add, take-take, drop-drop, get_or-take, get_or-drop, length-take-le}
use Rattle.meaning.specs.Kinds.{empty_status, end_status}
use Rattle.meaning.specs.Words.{Entry, blocks}
use Rattle.segment.specs.Written.{Written}
use Rattle.segment.proofs.Writes.{one_written, both_written, set-add, set-written}
use Rattle.walks.proofs.Words.{drop-take, cut_zeros}
use Rattle.segment.proofs.Moves.{prior_written}
use Rattle.render.specs.Anew.{gap_words, inserted_words, rendered_words, inserted_into, Insertable}
use Rattle.render.proofs.Anew.{blank, gap-none, gap-some}
use Rattle.walks.proofs.Flat.{entry_length}

-- the gap and the new entry take the slots that the area costs
gap_length : (w cost : ℕ) → 7 ≤ w → 1 ≤ cost → cost ≤ 2 → length (gap_words w cost) + w ≡ cost * w
gap_length w cost h k l = go (ℕ_discrete cost 2)
  where
    go : Dec (cost ≡ 2) → length (gap_words w cost) + w ≡ cost * w
    go (yes e) = rw (gap-some w cost e, entry_length w empty_status blank 0 0 0 h, e) (omega arith)
    go (no n) = let e : cost ≡ 1 = omega (arith, n) in rw (gap-none w cost n, e) (omega arith)

module _ {g : List ℕ} {stop p cost : ℕ} {new : Entry} (i : Insertable g stop p cost new) where
  -- how far the entries grow, those from the area on, and its length afterwards
  abbrev grown : ℕ
  grown = cost * length new

  abbrev rest : List ℕ
  rest = take (stop - p) (drop p g)

  abbrev left : ℕ
  left = get_or g (p + 4) 0 - blocks new

  abbrev added : List ℕ
  added = gap_words (length new) cost ++ new

  pub added-length : length (gap_words (length new) cost) + length new ≡ grown
  added-length = gap_length (length new) cost i.wide i.costs i.cheap

  added-all : length added ≡ grown
  added-all = length-append (gap_words (length new) cost) new ∙ added-length

  rest-length : length rest ≡ stop - p
  rest-length = length-take-le (stop - p) (drop p g) (rw (length-drop p g) (omega (arith, i.whole, i.room)))

  -- the segment made anew, up to the marker
  abbrev written : List ℕ
  written = added ++ set rest 4 left ++ (end_status ∷ [])

  written-length : length written ≡ grown + (stop - p) + 1
  written-length = simp (length-append, length-set, added-all, rest-length) (omega (arith, added-length, rest-length))

  anew-words : (z : List ℕ)
      → take 5 g ++ (inserted_words (p - 5) cost new (take (stop - 5) (drop 5 g)) ++ (end_status ∷ z)) ≡ take p g ++ written ++ z
  unfolding inserted_words
  anew-words z =
      let from = i.from in
      let slot = i.slot in
      let room = i.room in
      let whole = i.whole in
      let a : 5 + (p - 5) ≡ p = omega arith in
      let b : stop - 5 - (p - 5) ≡ stop - p = omega arith in
      let c : 5 + (p - 5 + 4) ≡ p + 4 = omega arith in
      let n = length-drop 5 g in
      let wide = i.wide in
      rw (
        take-take (p - 5) (stop - 5) (drop 5 g) (omega arith),
        drop-take (p - 5) (stop - 5) (drop 5 g),
        drop-drop (p - 5) 5 g,
        get_or-take (stop - 5) (drop 5 g) (p - 5 + 4) 0 (omega arith),
        get_or-drop 5 g (p - 5 + 4) 0,
        b,
        c,
        a,
        ap (λ (k : ℕ). take k g) (sym a) ∙ take-add 5 (p - 5) g,
      )
      (simp append_assoc)

  pub anew_is : inserted_into g stop p cost new ≡ take p g ++ written ++ replicate (512 - (stop + grown + 1)) 0
  unfolding inserted_into rendered_words
  anew_is =
      let front : length (take p g) ≡ p = length-take-le p g (omega (arith, i.slot, i.room, i.whole)) in
      let l : length (take p g ++ written) ≡ stop + grown + 1 =
      length-append (take p g) written ∙ omega (arith, front, written-length, i.slot) in
      ap (take 512) (anew-words (replicate 512 0))
      ∙ cut_zeros 512 (take p g ++ written) (omega (arith, i.room))
      ∙ rw l

  -- the writes
  module _ {a b c : List ℕ} {y z : ℕ} (u₁ : Written g (p + grown) rest a (stop + grown))
      (u₂ : Written a p (gap_words (length new) cost) b y) (u₃ : Written b y new c z) where
    both : Written a p added c z
    both = both_written a (gap_words (length new) cost) b new c p y z (omega (arith, u₁.long, i.slot, i.room, i.whole)) u₂ u₃

    next-is : z ≡ p + grown
    next-is = both.next ∙ omega (arith, added-all)

    -- the area's length, which is changed next, lies in the segment
    pub area-fits : z + 4 < 512
    area-fits = omega (arith, next-is, i.slot, i.room, i.wide)

    pub long-is : length c ≡ 512
    long-is = both.long ∙ u₁.long ∙ i.whole

    moved : Written g (p + length added) rest a (stop + grown)
    moved = rw added-all u₁

    all : Written g p (added ++ rest) c (stop + grown)
    all = prior_written g rest a added c p z (stop + grown) (omega (arith, added-all, i.slot, i.room, i.whole)) moved both

    changed : Written g p (added ++ set rest 4 left) (set c (z + 4) left) (stop + grown)
    changed =
        let f : z + 4 ≡ p + (length added + 4) = omega (arith, next-is, added-all) in
        let k : length added + 4 < length (added ++ rest) =
        omega (arith, length-append added rest, rest-length, i.slot, i.wide) in
        rw (f, ← set-add added rest 4 left)
        (set-written g (added ++ rest) c p (stop + grown) (length added + 4) left (omega (arith, i.slot, i.room, i.whole)) k all)

    ended : Written g p written (set (set c (z + 4) left) (stop + grown) end_status) (stop + grown + 1)
    ended =
        both_written g (added ++ set rest 4 left) (set c (z + 4) left) (end_status ∷ [])
        (set (set c (z + 4) left) (stop + grown) end_status) p (stop + grown) (stop + grown + 1)
        (omega (arith, i.slot, i.room, i.whole)) changed
        (one_written (set c (z + 4) left) (stop + grown) end_status (omega (arith, changed.long, i.whole, i.room)))

    pub area-size : length (set c (z + 4) left) ≡ 512
    area-size = changed.long ∙ i.whole

    pub size : length (set (set c (z + 4) left) (stop + grown) end_status) ≡ 512
    size = ended.long ∙ i.whole

    pub inserted-is : {d : List ℕ} {e : ℕ}
        → Written (set (set c (z + 4) left) (stop + grown) end_status) (stop + grown + 1)
        (replicate (length (set (set c (z + 4) left) (stop + grown) end_status) - (stop + grown + 1)) 0) d e
        → d ≡ inserted_into g stop p cost new
    inserted-is {d} {e} u₄ =
        let k : ℕ = 512 - (stop + grown + 1) in
        let u : Written (set (set c (z + 4) left) (stop + grown) end_status) (stop + grown + 1) (replicate k 0) d e = rw size at u₄ in
        let f =
        both_written g written (set (set c (z + 4) left) (stop + grown) end_status) (replicate k 0) d p (stop + grown + 1) e
        (omega (arith, i.slot, i.room, i.whole)) ended u in
        let n : length (written ++ replicate k 0) ≡ 512 - p =
        length-append written (replicate k 0)
        ∙ omega (arith, written-length, length-replicate {A = ℕ} k 0, i.room, i.slot) in
        let o : drop (p + length (written ++ replicate k 0)) g ≡ [] =
        drop_of_length-le g {i = p + length (written ++ replicate k 0)} (omega (arith, n, i.whole, i.slot, i.room)) in
        f.words
        ∙ rw o (append-nil (take p g ++ (written ++ replicate k 0)))
        ∙ sym (append_assoc (take p g) written (replicate k 0))
        ∙ sym anew_is
