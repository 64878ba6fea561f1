-- Packed entries met again, where they stand. What is left over is passed, and stands before FILE.BAD again just as long; every file stands at the
-- next free block or is FILE.BAD, so none needs a move and the same entries come out.
use Prim.Native.Nat.{ℕ, ◌+◌, ◌-◌, ◌≤◌}
use mathlib.Core.Path.{◌≡◌, refl, sym, ap, ◌∙◌}
use mathlib.Core.Bool.{Bool, true, false, cond}
use mathlib.Core.List.{List, [], ◌∷◌, ◌++◌, append_assoc}
use native.Mathlib.Omega.{arith}
use lib.ListN.{length}
use borrow.Author.Tests.{eq-eqb, ne_eqb}
use Rattle.meaning.specs.Words.{Entry, kind, blocks}
use Rattle.squeezed.specs.Moves.{Move, idle, needed}
use Rattle.squeezed.specs.Squeeze.{is_file, is_bad, new_place, free_up_to, places, left_over, packed_entries}
use Rattle.squeezed.proofs.Steps.{empty-file, place_same, free-past, places-past, packed-past, free-over, places-over, packed-over, Gap, over}
use Rattle.squeezed.proofs.Walk.{walk}

-- a file stays where it was placed
place-again : (b p : ℕ) (e : Entry) → new_place (new_place b p e) p e ≡ new_place b p e
unfolding new_place
place-again b p e = go (is_bad e)
  where
    go : (x : Bool) → cond x (cond x b p) p ≡ cond x b p
    go true = refl
    go false = refl

pub over_nothing : (w p : ℕ) → left_over w p p ≡ []
unfolding left_over
over_nothing w p = rw (eq-eqb p p refl)

over_something : (w p q : ℕ) (g : Entry) → Gap w (q - p) g → left_over w p q ≡ g ∷ []
unfolding left_over
over_something w p q g x = let s = x.some in rw (ne_eqb p q (λ e. omega arith), x.is)

-- a move to where the blocks stand is not needed
idle-there : (p n : ℕ) (ms : List Move) → needed (record { source = p; to = p; length = n } ∷ ms) ≡ needed ms
unfolding needed idle
idle-there p n ms = rw (eq-eqb p p refl)

module _ (w : ℕ) (enough : 7 ≤ w) where
  over-packed : (p c : ℕ) (e : Entry) (xs : List Entry) → p ≤ c → is_file e ≡ true → new_place c p e ≡ c
      → packed_entries w p p (left_over w p c ++ (e ∷ xs)) ≡ left_over w p c ++ (e ∷ packed_entries w (c + blocks e) (c + blocks e) xs)
  over-packed p c e xs h f stays =
      over (λ l. packed_entries w p p (l ++ (e ∷ xs)) ≡ l ++ (e ∷ packed_entries w (c + blocks e) (c + blocks e) xs)) w p c enough h
      (λ q. rw (packed-over p p e xs f w, place_same p e, over_nothing w p, q) refl)
      (λ g x.
      let n : p + blocks g ≡ c = let z = x.blocks in omega arith in
      rw (packed-past p p g (e ∷ xs) (empty-file g x.kind) w, n, packed-over c p e xs f w, stays, over_something w p c g x) refl)

  pub packed-again : (es t : List Entry) (b p : ℕ) → p ≤ b
      → packed_entries w p p (packed_entries w b p es ++ t) ≡ packed_entries w b p es ++ packed_entries w (free_up_to b p es) (free_up_to b p es) t
  unfolding packed_entries free_up_to
  packed-again es t b p h =
      walk w t (λ b p es out. packed_entries w p p out ≡ packed_entries w b p es ++ packed_entries w (free_up_to b p es) (free_up_to b p es) t) (λ b p. refl)
      (λ b p e es out f i. rw (packed-past b p e es f w, free-past b p e es f) i)
      (λ b p e es out f l i.
      let c = new_place b p e in
      rw (packed-over b p e es f w, free-over b p e es f)
      (over-packed p c e out l.0 f (place-again b p e)
      ∙ ap {B = List Entry} (λ x. left_over w p c ++ (e ∷ x)) i
      ∙ sym (append_assoc (left_over w p c) (e ∷ packed_entries w (b + blocks e) (c + blocks e) es) _)))
      es b p h

  -- what F tells of entries, where it passes those that are no files and the files that stay: past packed entries it tells of what follows
  module _ {X : Type 0} (F : ℕ → ℕ → List Entry → X)
      (past : (b p : ℕ) (e : Entry) (es : List Entry) → is_file e ≡ false → F b p (e ∷ es) ≡ F (b + blocks e) p es)
      (stay : (b p : ℕ) (e : Entry) (es : List Entry) → is_file e ≡ true → new_place b p e ≡ b → F b p (e ∷ es) ≡ F (b + blocks e) (b + blocks e) es)
    where
      told_again : (es t : List Entry) (b p : ℕ) → p ≤ b → F p p (packed_entries w b p es ++ t) ≡ F (free_up_to b p es) (free_up_to b p es) t
      unfolding free_up_to
      told_again es t b p h =
          walk w t (λ b p es out. F p p out ≡ F (free_up_to b p es) (free_up_to b p es) t) (λ b p. refl)
          (λ b p e es out f i. rw (free-past b p e es f) i)
          (λ b p e es out f l i.
          let c = new_place b p e in
          rw (free-over b p e es f)
          (over (λ x. F p p (x ++ e ∷ out) ≡ F (c + blocks e) (c + blocks e) out) w p c enough l.0
          (λ q. stay p p e out f (place_same p e) ∙ ap (λ (z : ℕ). F (z + blocks e) (z + blocks e) out) q)
          (λ g x.
          let n : p + blocks g ≡ c = let z = x.blocks in omega arith in
          past p p g (e ∷ out) (empty-file g x.kind) ∙ (rw n (stay c p e out f (place-again b p e))))
          ∙ i))
          es b p h

  pub free-again : (es t : List Entry) (b p : ℕ) → p ≤ b
      → free_up_to p p (packed_entries w b p es ++ t) ≡ free_up_to (free_up_to b p es) (free_up_to b p es) t
  free-again = told_again free_up_to free-past (λ b p e es f s. rw (free-over b p e es f, s))

  pub places-again : (es t : List Entry) (b p : ℕ) → p ≤ b
      → needed (places p p (packed_entries w b p es ++ t)) ≡ needed (places (free_up_to b p es) (free_up_to b p es) t)
  places-again =
      told_again (λ b p es. needed (places b p es)) (λ b p e es f. ap needed (places-past b p e es f))
      (λ b p e es f s. rw (places-over b p e es f, s) (idle-there b (blocks e) (places (b + blocks e) (b + blocks e) es)))
