-- Packed entries, by the walk that packs them (`walk`, in squeezed): the moves are packed, the new entries fill the blocks up to the next free
-- one, and they are such as a segment can have if the old ones were.
use Prim.Native.Nat.{ℕ, ◌+◌, ◌≤◌}
use mathlib.Core.Path.{◌≡◌, refl}
use mathlib.Core.Logic.{⊎_elim}
use mathlib.Core.Bool.{Bool, false}
use mathlib.Core.List.{List, [], ◌∷◌, ◌++◌}
use native.Mathlib.Omega.{arith}
use Rattle.meaning.specs.declared.Key.{Key}
use Rattle.meaning.specs.Words.{Entry, blocks, total}
use Rattle.meaning.specs.Keys.{holds}
use Rattle.walks.proofs.Filled.{total-append}
use Rattle.walks.proofs.Flat.{Wide}
use Rattle.rules.proofs.Keys.{empty_holds, count}
use Rattle.rules.proofs.Fine.{Okay, free, used, Fine}
use Rattle.squeezed.specs.Moves.{Move}
use Rattle.squeezed.specs.Intact.{Packed}
use Rattle.squeezed.specs.Squeeze.{is_file, new_place, free_up_to, places, left_over, packed_entries}
use Rattle.squeezed.proofs.Steps.{sure, file-kind, place-bounds, free-past, places-past, free-over, places-over, over}
use Rattle.squeezed.proofs.Walk.{walk}

-- moves that begin at later sources begin at earlier ones too
sooner : (size b f g : ℕ) (ms : List Move) → f ≤ g → Packed size b g ms → Packed size b f ms
sooner size b f g [] l h = tt
sooner size b f g (m ∷ ms) l h = let x = h.1 in (h.0, omega arith, h.2, h.3, h.4)

-- the moves of a volume that has these blocks are packed
pub places-packed : (size : ℕ) (es : List Entry) (b p : ℕ) → p ≤ b → b + total es ≤ size → Packed size p b (places b p es)
unfolding total places
places-packed size [] b p h l = tt
places-packed size (e ∷ es) b p h l =
    ⊎_elim
    (λ f.
    let q = place-bounds b p e h in
    rw (places-over b p e es f)
    (q.0, omega arith, q.1, omega arith, places-packed size es (b + blocks e) (new_place b p e + blocks e) (omega arith) (omega arith)))
    (λ f.
    rw (places-past b p e es f)
    (sooner size p b (b + blocks e) (places (b + blocks e) p es) (omega arith) (places-packed size es (b + blocks e) p (omega arith) (omega arith))))
    (sure (is_file e))

-- what is left over takes just its blocks
pub over-total : (w p q : ℕ) → 7 ≤ w → p ≤ q → p + total (left_over w p q) ≡ q
unfolding total
over-total w p q l h = over (λ x. p + total x ≡ q) w p q l h (λ e. omega arith) (λ g x. let y = x.blocks in omega arith)

okay_file : (z : Bool) (e : Entry) → Okay z e → Okay false e
okay_file z e (free k) = free k
okay_file z e (used k p n) = used k refl n

module _ (w : ℕ) (enough : 7 ≤ w) (es t : List Entry) (b p : ℕ) (h : p ≤ b) where
  -- the new entries fill the blocks
  pub packed-total : p + total (packed_entries w b p es ++ t) ≡ free_up_to b p es + total t
  unfolding total free_up_to
  packed-total =
      walk w t (λ b p es out. p + total out ≡ free_up_to b p es + total t) (λ b p. refl)
      (λ b p e es out f i. rw (free-past b p e es f) i)
      (λ b p e es out f l i.
      let o = over-total w p (new_place b p e) enough l.0 in
      let a = total-append (left_over w p (new_place b p e)) (e ∷ out) in
      rw (free-over b p e es f) (omega arith))
      es b p h

  -- they are of w words
  pub packed-wide : Wide w es → Wide w t → Wide w (packed_entries w b p es ++ t)
  packed-wide a c =
      walk w t (λ b p es out. Wide w es → Wide w out) (λ b p a. c) (λ b p e es out f i a. i a.1)
      (λ b p e es out f l i a.
      let rest : Wide w (e ∷ out) = (a.0, i a.1) in
      over (λ x. Wide w (x ++ e ∷ out)) w p (new_place b p e) enough l.0 (λ y. rest) (λ g y. (y.wide, rest)))
      es b p h a

  -- rule 4 lets them stand
  pub packed-fine : (z : Bool) → Fine z es → Fine false t → Fine false (packed_entries w b p es ++ t)
  packed-fine z a c =
      walk w t (λ b p es out. (z : Bool) → Fine z es → Fine false out) (λ b p z a. c) (λ b p e es out f i z a. i _ a.1)
      (λ b p e es out f l i z a.
      let rest : Fine false (e ∷ out) = (okay_file z e a.0, rw (file-kind e f) (i _ a.1)) in
      over (λ x. Fine false (x ++ e ∷ out)) w p (new_place b p e) enough l.0 (λ y. rest) (λ g y. (free y.kind, rw y.kind rest)))
      es b p h z a

  -- no key comes more often
  pub packed-count : (k : Key) → count (holds k) (packed_entries w b p es ++ t) ≤ count (holds k) es + count (holds k) t
  unfolding count
  packed-count k =
      walk w t (λ b p es out. count (holds k) out ≤ count (holds k) es + count (holds k) t) (λ b p. omega arith)
      (λ b p e es out f i. omega arith)
      (λ b p e es out f l i.
      let same =
      over (λ x. count (holds k) (x ++ e ∷ out) ≡ count (holds k) (e ∷ out)) w p (new_place b p e) enough l.0 (λ y. refl)
      (λ g y. rw (empty_holds k g y.kind) (omega arith)) in
      omega arith)
      es b p h
