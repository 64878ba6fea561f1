-- What the definition makes of a segment's first slot, by whether the marker stands or goes there. Where it does, the slot is the marker and all
-- slots after it stay; else an entry is laid there, and the slots after it are mended from its end on. Assumes nothing.
use Prim.Native.Nat.{ℕ, zero, suc, ◌+◌, ◌-◌, ◌≤◌, ◌<◌}
use mathlib.Core.Path.{◌≡◌, refl, sym, ap, ◌∙◌}
use mathlib.Core.Bool.{Bool, true, false, cond, ◌||◌, true≢false}
use mathlib.Core.List.{List, ◌∷◌}
use native.Mathlib.Omega.{arith}
use lib.ListN.{length, get_or, drop, set, length-set}
use lib.Seq.{get_or-set_same, get_or-set_other, set-get_or}
use lib.Dec.{eqb}
use borrow.Author.Tests.{eq-eqb, ne_eqb, eqb-true}
use Rattle.bools.proofs.Bools.{neither}
use Rattle.meaning.specs.declared.Kind.TheVariants.{Empty}
use Rattle.meaning.specs.Kinds.{empty_status, end_status, kind_of, is_permanent, is_end, is_unknown}
use Rattle.meaning.specs.Words.{Entry, kind, blocks, chunks}
use Rattle.segment.proofs.Status.{end_is, end-eqb}
use Rattle.repaired.specs.Tool.{marked, emptied, next_first, no_more, mend}
use Rattle.mending.specs.Mending.{laid_entry, dealt}

-- an entry made empty
emptied-kind : (n : ℕ) (e : Entry) → 7 ≤ length e → kind (emptied n e) ≡ Empty
unfolding kind_of
emptied-kind n e h =
    let s : get_or (emptied n e) 0 0 ≡ empty_status =
    get_or-set_other (set e 0 empty_status) 4 0 n 0 (λ z. omega arith) ∙ get_or-set_same e 0 empty_status 0 (omega arith) in
    rw s refl

emptied-blocks : (n : ℕ) (e : Entry) → 7 ≤ length e → blocks (emptied n e) ≡ n
emptied-blocks n e h = get_or-set_same (set e 0 empty_status) 4 n 0 (omega (arith, length-set e 0 empty_status))

-- the marker stands or goes into the slot e, after which the slots es come
abbrev pub stops : Entry → List Entry → Bool
stops e es = is_end (kind e) || (is_unknown (kind e) || no_more es)

-- the last of n slots
pub last-slot : (n w : ℕ) (l : List ℕ) → 0 < n → no_more (chunks (n - 1) w l) ≡ eqb n 1
unfolding chunks
last-slot zero w l h = absurd (omega arith)
last-slot (suc zero) w l h = refl
last-slot (suc (suc n)) w l h =
    let e : suc (suc n) - 1 ≡ suc n = omega arith in
    rw e (sym (ne_eqb (suc (suc n)) 1 (λ z. omega arith)))

-- the same by its index, of m slots
pub last-is : (i m : ℕ) → i < m → eqb (i + 1) m ≡ eqb (m - i) 1
last-is i m h = go (eqb (i + 1) m) refl
  where
    go : (b : Bool) → eqb (i + 1) m ≡ b → b ≡ eqb (m - i) 1
    go true e = let k = eqb-true (i + 1) m e in sym (eq-eqb (m - i) 1 (omega arith))
    go false e =
        sym (ne_eqb (m - i) 1 (λ z. true≢false (sym (eq-eqb (i + 1) m (omega arith)) ∙ e)))

-- the marker's slot
pub marked-end : (e : Entry) → 7 ≤ length e → is_end (kind (marked e)) ≡ true
marked-end e h = end_is (get_or (marked e) 0 0) (get_or-set_same e 0 end_status 0 (omega arith))

marked-already : (e : Entry) → is_end (kind e) ≡ true → e ≡ marked e
marked-already e h =
    let s : get_or e 0 0 ≡ end_status = eqb-true (get_or e 0 0) end_status (sym (end-eqb (get_or e 0 0)) ∙ h) in
    sym (set-get_or e 0 0) ∙ ap (λ (x : ℕ). set e 0 x) s

module _ (v b : ℕ) (fs : List ℕ) (e : Entry) (es : List Entry) where
  pub mend-stop : stops e es ≡ true → mend v b fs (e ∷ es) ≡ marked e ∷ es
  unfolding mend
  mend-stop h = go (is_end (kind e)) refl h
    where
      go : (t : Bool) → is_end (kind e) ≡ t → t || (is_unknown (kind e) || no_more es) ≡ true → mend v b fs (e ∷ es) ≡ marked e ∷ es
      go true i h = rw i (ap {B = List Entry} (λ x. x ∷ es) (marked-already e i))
      go false i h = rw (i, h) refl

  pub mend-on : 7 ≤ length e → stops e es ≡ false
      → mend v b fs (e ∷ es) ≡ laid_entry v b fs e ∷ mend v (b + blocks (laid_entry v b fs e)) (drop (dealt e) fs) es
  unfolding mend
  mend-on l h = let n = neither (is_end (kind e)) (is_unknown (kind e) || no_more es) h in rw (n.0, n.1) (go (is_permanent (kind e)))
    where
      go : (t : Bool)
          → cond t (e ∷ mend v (b + blocks e) (drop 1 fs) es)
          (emptied (next_first v fs - b) e ∷ mend v (b + (next_first v fs - b)) fs es)
          ≡ cond t e (emptied (next_first v fs - b) e)
          ∷ mend v (b + blocks (cond t e (emptied (next_first v fs - b) e))) (drop (cond t 1 0) fs) es
      go true = refl
      go false = rw (emptied-blocks (next_first v fs - b) e l) refl

-- an entry that is laid is no marker, and a file exactly where it was one
module _ (v b : ℕ) (fs : List ℕ) (e : Entry) (l : 7 ≤ length e) where
  pub laid-entry : is_end (kind e) ≡ false → is_end (kind (laid_entry v b fs e)) ≡ false
  laid-entry h = go (is_permanent (kind e))
    where
      go : (t : Bool) → is_end (kind (cond t e (emptied (next_first v fs - b) e))) ≡ false
      go true = h
      go false = rw (emptied-kind (next_first v fs - b) e l) refl

  pub laid-dealt : dealt (laid_entry v b fs e) ≡ dealt e
  laid-dealt = go (is_permanent (kind e)) refl
    where
      go : (t : Bool) → is_permanent (kind e) ≡ t → dealt (cond t e (emptied (next_first v fs - b) e)) ≡ cond t 1 0
      go true h = rw h refl
      go false h = rw (emptied-kind (next_first v fs - b) e l) refl
