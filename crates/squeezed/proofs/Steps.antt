-- The walk of squeeze over entries, one step: past an entry that is no file, or over a file, with what is left over before it. And what is left
-- over: nothing, or one empty entry of just those blocks.
use Prim.Native.Nat.{ℕ, ◌+◌, ◌-◌, ◌≤◌, ◌<◌}
use mathlib.Core.Path.{◌≡◌, refl}
use mathlib.Core.Logic.{◌⊎◌, inl, inr}
use mathlib.Core.Bool.{Bool, true, false, cond}
use mathlib.Core.List.{List, [], ◌∷◌, ◌++◌}
use native.Mathlib.Omega.{arith}
use lib.ListN.{length, length-replicate}
use lib.Dec.{eqb}
use borrow.Author.Tests.{eqb-true, eqb-false}
use Rattle.meaning.specs.declared.Kind.TheVariants.{Empty, Permanent}
use Rattle.meaning.specs.Kinds.{kind_of}
use Rattle.meaning.specs.Words.{Entry, kind, blocks}
use Rattle.meaning.specs.Requests.{entry_of, empty_entry}
use Rattle.walks.proofs.Told.{permanent-kind}
use Rattle.squeezed.specs.Squeeze.{is_file, is_bad, new_place, free_after, free_up_to, places, left_over, packed_entries}

pub sure : (x : Bool) → (x ≡ true) ⊎ (x ≡ false)
sure true = inl refl
sure false = inr refl

-- a file is a permanent entry, an empty one is none
pub file-kind : (e : Entry) → is_file e ≡ true → kind e ≡ Permanent
unfolding is_file
file-kind e h = permanent-kind (kind e) h

pub empty-file : (e : Entry) → kind e ≡ Empty → is_file e ≡ false
unfolding is_file
empty-file e h = rw h

-- FILE.BAD stays
pub place-bad : (b p : ℕ) (e : Entry) → is_bad e ≡ true → new_place b p e ≡ b
unfolding new_place
place-bad b p e h = rw h

-- a file goes to the next free block or stays
pub place-bounds : (b p : ℕ) (e : Entry) → p ≤ b → (p ≤ new_place b p e) × (new_place b p e ≤ b)
unfolding new_place
place-bounds b p e h = go (is_bad e)
  where
    go : (x : Bool) → (p ≤ cond x b p) × (cond x b p ≤ b)
    go true = (h, omega arith)
    go false = (omega arith, h)

-- where it stands at the next free block, it stays
pub place_same : (p : ℕ) (e : Entry) → new_place p p e ≡ p
unfolding new_place
place_same p e = go (is_bad e)
  where
    go : (x : Bool) → cond x p p ≡ p
    go true = refl
    go false = refl

-- a step past an entry that is no file
module _ (b p : ℕ) (e : Entry) (es : List Entry) (h : is_file e ≡ false) where
  pub free-past : free_up_to b p (e ∷ es) ≡ free_up_to (b + blocks e) p es
  unfolding free_up_to free_after
  free-past = rw h

  pub places-past : places b p (e ∷ es) ≡ places (b + blocks e) p es
  unfolding places free_after
  places-past = rw h

  pub packed-past : (w : ℕ) → packed_entries w b p (e ∷ es) ≡ packed_entries w (b + blocks e) p es
  unfolding packed_entries free_after
  packed-past w = rw h

-- a step over a file
module _ (b p : ℕ) (e : Entry) (es : List Entry) (h : is_file e ≡ true) where
  pub free-over : free_up_to b p (e ∷ es) ≡ free_up_to (b + blocks e) (new_place b p e + blocks e) es
  unfolding free_up_to free_after
  free-over = rw h

  pub places-over : places b p (e ∷ es)
      ≡ record { source = b; to = new_place b p e; length = blocks e } ∷ places (b + blocks e) (new_place b p e + blocks e) es
  unfolding places free_after
  places-over = rw h

  pub packed-over : (w : ℕ) → packed_entries w b p (e ∷ es)
      ≡ left_over w p (new_place b p e) ++ e ∷ packed_entries w (b + blocks e) (new_place b p e + blocks e) es
  unfolding packed_entries free_after
  packed-over w = rw h

-- what is left over
pub record Gap (w n : ℕ) (g : Entry) : Type 0 where
  pub kind : kind g ≡ Empty
  pub blocks : blocks g ≡ n
  pub wide : length g ≡ w
  pub some : 0 < n
  pub is : g ≡ empty_entry w n

pub over : (P : List Entry → Type 0) (w p q : ℕ) → 7 ≤ w → p ≤ q
    → (p ≡ q → P []) → ((g : Entry) → Gap w (q - p) g → P (g ∷ [])) → P (left_over w p q)
unfolding left_over entry_of kind_of
over P w p q l o a b = go (eqb p q) refl
  where
    go : (x : Bool) → eqb p q ≡ x → P (cond x [] (empty_entry w (q - p) ∷ []))
    go true x = a (eqb-true p q x)
    go false x =
        let n = eqb-false p q x in
        b (empty_entry w (q - p))
        (record { kind = refl; blocks = refl; wide = omega (arith, length-replicate {A = ℕ} (w - 7) 0); some = omega arith; is = refl })
