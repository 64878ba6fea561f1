-- A law of packed entries goes by the walk that packs them: at its end, past an entry that is no file, and over a file with what is left over
-- before it. All the way the next free block p is at most the block b where the next entry stands.
use Prim.Native.Nat.{ℕ, ◌+◌, ◌≤◌}
use mathlib.Core.Path.{◌≡◌}
use mathlib.Core.Logic.{⊎_elim}
use mathlib.Core.Bool.{true, false}
use mathlib.Core.List.{List, [], ◌∷◌, ◌++◌, append_assoc}
use native.Mathlib.Omega.{arith}
use Rattle.meaning.specs.Words.{Entry, blocks}
use Rattle.squeezed.specs.Squeeze.{is_file, new_place, left_over, packed_entries}
use Rattle.squeezed.proofs.Steps.{sure, place-bounds, packed-past, packed-over}

-- the walk, with t after the packed entries: P says of the entries ahead, from b and p on, what is made of them
module _ (w : ℕ) (t : List Entry) (P : ℕ → ℕ → List Entry → List Entry → Type 0)
    (ends : (b p : ℕ) → P b p [] t)
    (past : (b p : ℕ) (e : Entry) (es out : List Entry) → is_file e ≡ false → P (b + blocks e) p es out → P b p (e ∷ es) out)
    (file : (b p : ℕ) (e : Entry) (es out : List Entry) → is_file e ≡ true → (p ≤ new_place b p e) × (new_place b p e ≤ b)
    → P (b + blocks e) (new_place b p e + blocks e) es out → P b p (e ∷ es) (left_over w p (new_place b p e) ++ e ∷ out)) where
  pub walk : (es : List Entry) (b p : ℕ) → p ≤ b → P b p es (packed_entries w b p es ++ t)
  unfolding packed_entries
  walk [] b p h = ends b p
  walk (e ∷ es) b p h =
      ⊎_elim
      (λ f.
      let q = new_place b p e in
      let y = place-bounds b p e h in
      let rest = packed_entries w (b + blocks e) (q + blocks e) es in
      rw (packed-over b p e es f w, append_assoc (left_over w p q) (e ∷ rest) t)
      (file b p e es (rest ++ t) f y (walk es (b + blocks e) (q + blocks e) (omega arith))))
      (λ f.
      rw (packed-past b p e es f w)
      (past b p e es (packed_entries w (b + blocks e) p es ++ t) f (walk es (b + blocks e) p (omega arith))))
      (sure (is_file e))
