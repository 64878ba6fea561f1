-- Packed moves, done in list order, leave all content intact. What a move has written lies below all that later ones write, and what later
-- ones read lies above all that it writes: so each move reads the volume as it was, and what it wrote stays.
use Prim.Native.Nat.{ℕ, ◌+◌, ◌≤◌, ◌<◌}
use mathlib.Core.Path.{◌≡◌, refl, sym, ◌∙◌}
use mathlib.Core.Bool.{Bool, true, false, cond}
use mathlib.Core.Logic.{◌⊎◌, ⊎_elim}
use mathlib.Core.List.{List, [], ◌∷◌}
use native.Mathlib.Omega.{arith}
use lib.ListN.{length, take, drop, length-take, length-drop}
use lib.Seq.{ext_get_or, get_or-take, get_or-drop}
use lib.Dec.{eqb}
use borrow.Author.Tests.{eqb-true}
use Rattle.bools.proofs.Bools.{either, either_side}
use Rattle.squeezed.specs.Moves.{Move, idle, needed, block, copied, applied}
use Rattle.walks.specs.Lists.{All}
use Rattle.squeezed.specs.Intact.{Packed, Beside, Intact, Kept}
use Rattle.squeezed.proofs.Copied.{copied-length, copied_below, copied_above, copied_at, copied_still}

module _ {A : Type 0} (blank : A) where
  abbrev after_one : Move → List A → List A
  after_one m vol = copied blank m.length m.source m.to vol

  pub applied-length : (ms : List Move) (vol : List A) → length (applied blank ms vol) ≡ length vol
  unfolding applied
  applied-length [] vol = refl
  applied-length (m ∷ ms) vol = applied-length ms (after_one m vol) ∙ copied-length blank m.length m.source m.to vol

  -- blocks that no move writes
  pub applied_beside : (ms : List Move) (vol : List A) (i : ℕ) → All (Beside i) ms → block blank (applied blank ms vol) i ≡ block blank vol i
  unfolding applied
  applied_beside [] vol i h = refl
  applied_beside (m ∷ ms) vol i h =
      applied_beside ms (after_one m vol) i h.1
      ∙ ⊎_elim (λ l. copied_below blank m.length m.source m.to vol i l)
      (λ l. ⊎_elim (λ k. absurd (h.0 l k)) (λ k. copied_above blank m.length m.source m.to vol i k) (either_side i (m.to + m.length)))
      (either_side i m.to)

  -- all that is below the first destination is beside packed moves
  pub below_packed : (size b f : ℕ) (ms : List Move) → Packed size b f ms → (i : ℕ) → i < b → All (Beside i) ms
  below_packed size b f [] p i h = tt
  below_packed size b f (m ∷ ms) p i h =
      let q = p.0 in
      ((λ l k. omega arith), below_packed size (m.to + m.length) (m.source + m.length) ms p.4 i (omega arith))

  abbrev Arrives : List A → List A → Move → Type 0
  Arrives vol after m = (i : ℕ) → i < m.length → block blank after (m.to + i) ≡ block blank vol (m.source + i)

  -- what each move of a list reads from block f on in a volume w is as in the volume vol
  arrived : (vol w after : List A) (size b f : ℕ) (ms : List Move) → Packed size b f ms → ((i : ℕ) → f ≤ i → block blank w i ≡ block blank vol i)
      → All (Arrives w after) ms → All (Arrives vol after) ms
  arrived vol w after size b f [] p same a = tt
  arrived vol w after size b f (m ∷ ms) p same a =
      let q = p.1 in (
        (λ i l. a.0 i l ∙ same (m.source + i) (omega arith)),
        arrived vol w after size (m.to + m.length) (m.source + m.length) ms p.4 (λ i l. same i (omega arith)) a.1,
      )

  pub applied_arrives : (ms : List Move) (vol : List A) (b f : ℕ) → Packed (length vol) b f ms → All (Arrives vol (applied blank ms vol)) ms
  unfolding applied
  applied_arrives [] vol b f p = tt
  applied_arrives (m ∷ ms) vol b f p =
      let w = after_one m vol in
      let e = copied-length blank m.length m.source m.to vol in
      let q = p.2 in (
        (λ i l.
            applied_beside ms w (m.to + i)
            (below_packed (length vol) (m.to + m.length) (m.source + m.length) ms p.4 (m.to + i) (omega arith))
            ∙ copied_at blank m.length m.source m.to vol p.2 p.3 i l),
        arrived vol w (applied blank ms w) (length vol) (m.to + m.length) (m.source + m.length) ms p.4
            (λ i l. copied_above blank m.length m.source m.to vol i (omega arith))
            (applied_arrives ms w (m.to + m.length) (m.source + m.length) (rw e p.4)),
      )

  -- a move that is not needed changes nothing
  idle_still : (m : Move) (vol : List A) → idle m ≡ true → after_one m vol ≡ vol
  unfolding idle copied
  idle_still m vol h =
      ⊎_elim (λ e. rw (eqb-true m.source m.to e) (copied_still blank m.length m.to vol)) (λ e. rw (eqb-true m.length 0 e))
      (either (eqb m.source m.to) (eqb m.length 0) h)

  pub needed-same : (ms : List Move) (vol : List A) → applied blank (needed ms) vol ≡ applied blank ms vol
  unfolding needed applied
  needed-same [] vol = refl
  needed-same (m ∷ ms) vol = go (idle m) refl (λ w. needed-same ms w)
    where
      go : (x : Bool) → idle m ≡ x → ((w : List A) → applied blank (needed ms) w ≡ applied blank ms w)
          → applied blank (cond x (needed ms) (m ∷ needed ms)) vol ≡ applied blank ms (after_one m vol)
      go true x i = rw (idle_still m vol x) (i vol)
      go false x i = i (after_one m vol)

  -- block by block, or as lists of blocks
  as_lists : (vol after : List A) (b f : ℕ) (ms : List Move) → length after ≡ length vol → Packed (length vol) b f ms
      → All (Arrives vol after) ms → All (Intact blank vol after) ms
  as_lists vol after b f [] e p a = tt
  as_lists vol after b f (m ∷ ms) e p a =
      let l = p.2 in
      let h = p.3 in
      let x : length (take m.length (drop m.to after)) ≡ m.length = simp (length-take, length-drop) (omega arith) in
      let y : length (take m.length (drop m.source vol)) ≡ m.length = simp (length-take, length-drop) (omega arith) in (
        ext_get_or blank _ _ (x ∙ sym y)
            (λ i k.
            get_or-take m.length (drop m.to after) i blank (omega arith)
            ∙ get_or-drop m.to after i blank
            ∙ a.0 i (omega arith)
            ∙ sym (get_or-take m.length (drop m.source vol) i blank (omega arith) ∙ get_or-drop m.source vol i blank)),
        as_lists vol after (m.to + m.length) (m.source + m.length) ms e p.4 a.1,
      )

  pub packed-kept : (ms : List Move) (vol : List A) (b f : ℕ) → Packed (length vol) b f ms → Kept blank ms vol
  packed-kept ms vol b f p = record {
    size = applied-length (needed ms) vol;
    content =
        rw (needed-same ms vol)
        (as_lists vol (applied blank ms vol) b f ms (applied-length ms vol) p (applied_arrives ms vol b f p));
    others = λ i h. applied_beside (needed ms) vol i h;
  }
