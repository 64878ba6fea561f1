-- Each file's row before and after. In a segment the walk meets the old entries and the new ones side by side: past what is left over, the next
-- new entry is the next file, and its first block is where the walk places it. Segments follow each other along the chain.
use Prim.Native.Nat.{ℕ, ◌+◌, ◌*◌, ◌-◌, ◌≤◌}
use mathlib.Core.Path.{◌≡◌, refl}
use mathlib.Core.Bool.{Bool, true, false, cond}
use mathlib.Core.List.{List, [], ◌∷◌, ◌++◌}
use native.Mathlib.Omega.{arith}
use lib.ListN.{length}
use Rattle.meaning.specs.Words.{extra_bytes_of, slot_words, Entry, blocks, entries, total, Row, rows_in, segment_rows, rows_of}
use Rattle.walks.specs.Lists.{All}
use Rattle.walks.proofs.Alls.{all_left, all_right_lem}
use Rattle.laws.proofs.Way.{entries_in, spread}
use Rattle.squeezed.specs.Moves.{Move}
use Rattle.squeezed.specs.Squeeze.{is_file, is_bad, new_place, free_up_to, places, left_over, packed_entries}
use Rattle.squeezed.proofs.Steps.{empty-file, place-bad, free-past, places-past, free-over, places-over, over}
use Rattle.squeezed.proofs.Along.{places-append}
use Rattle.squeezelaws.specs.Laws.{files, Pairs}
use Rattle.squeezed.proofs.Walk.{walk}
use Rattle.squeezelaws.proofs.NewWay.{tail, tailed, Freshly}

-- a file that P holds of, as a move
pub record Moved (P : Move → Type 0) (r r' : Row) : Type 0 where
  pub seg : r'.seg ≡ r.seg
  pub words : r'.entry ≡ r.entry
  pub down : r'.first ≤ r.first
  pub fixed : is_bad r.entry ≡ true → r'.first ≡ r.first
  pub holds : P (record { source = r.first; to = r'.first; length = blocks r.entry })

-- rows of files
row-file : (r : Row) (rs : List Row) → is_file r.entry ≡ true → files (r ∷ rs) ≡ r ∷ files rs
unfolding files
row-file r rs h = rw h

row-past : (r : Row) (rs : List Row) → is_file r.entry ≡ false → files (r ∷ rs) ≡ files rs
unfolding files
row-past r rs h = rw h

files-append : (xs ys : List Row) → files (xs ++ ys) ≡ files xs ++ files ys
unfolding files
files-append [] ys = refl
files-append (x ∷ xs) ys = rw (files-append xs ys) (go (is_file x.entry))
  where
    go : (z : Bool) → cond z (x ∷ (files xs ++ files ys)) (files xs ++ files ys) ≡ cond z (x ∷ files xs) (files xs) ++ files ys
    go true = refl
    go false = refl

pairs_append : {A : Type 0} (R : A → A → Type 0) (xs ys us vs : List A) → Pairs R xs ys → Pairs R us vs → Pairs R (xs ++ us) (ys ++ vs)
pairs_append R [] [] us vs a b = b
pairs_append R [] (y ∷ ys) us vs a b = absurd a
pairs_append R (x ∷ xs) [] us vs a b = absurd a
pairs_append R (x ∷ xs) (y ∷ ys) us vs a b = (a.0, pairs_append R xs ys us vs a.1 b)

module _ (w : ℕ) (enough : 7 ≤ w) (s : ℕ) where
  -- past what is left over
  over-rows : (X : List Row → Type 0) (p q : ℕ) (es : List Entry) (k a : ℕ) → p ≤ q
      → ((k a : ℕ) → X (files (rows_in w s k a q es))) → X (files (rows_in w s k a p (left_over w p q ++ es)))
  unfolding rows_in
  over-rows X p q es k a h x =
      over (λ l. X (files (rows_in w s k a p (l ++ es)))) w p q enough h (λ e. rw e (x k a))
      (λ g y.
      let n : p + blocks g ≡ q = let z = y.blocks in omega arith in
      rw (row-past (record { seg = s; slot = k; at = a; first = p; entry = g }) (rows_in w s (k + 1) (a + w) (p + blocks g) es) (empty-file g y.kind), n)
      (x (k + 1) (a + w)))

  pair_in : (P : Move → Type 0) (es t : List Entry) (b p k a k' a' : ℕ) → p ≤ b
      → ((k a : ℕ) → files (rows_in w s k a (free_up_to b p es) t) ≡ []) → All P (places b p es)
      → Pairs (Moved P) (files (rows_in w s k a b es)) (files (rows_in w s k' a' p (packed_entries w b p es ++ t)))
  unfolding rows_in free_up_to places files
  pair_in P es t b p k a k' a' h n m =
      walk w t
      (λ b p es out. (k a k' a' : ℕ) → ((k a : ℕ) → files (rows_in w s k a (free_up_to b p es) t) ≡ []) → All P (places b p es)
      → Pairs (Moved P) (files (rows_in w s k a b es)) (files (rows_in w s k' a' p out)))
      (λ b p k a k' a' n m. rw (n k' a') tt)
      (λ b p e es out f i k a k' a' n m.
      rw (row-past (record { seg = s; slot = k; at = a; first = b; entry = e }) (rows_in w s (k + 1) (a + w) (b + blocks e) es) f)
      (i (k + 1) (a + w) k' a' (rw (free-past b p e es f) at n) (rw (places-past b p e es f) at m)))
      (λ b p e es out f l i k a k' a' n m.
      let q = new_place b p e in
      let u = rw (places-over b p e es f) at m in
      over-rows (Pairs (Moved P) (files (rows_in w s k a b (e ∷ es)))) p q (e ∷ out) k' a' l.0
      (λ k'' a''.
      rw (
        row-file (record { seg = s; slot = k; at = a; first = b; entry = e }) (rows_in w s (k + 1) (a + w) (b + blocks e) es) f,
        row-file (record { seg = s; slot = k''; at = a''; first = q; entry = e }) (rows_in w s (k'' + 1) (a'' + w) (q + blocks e) out) f,
      ) (
        record { seg = refl; words = refl; down = l.1; fixed = λ g. place-bad b p e g; holds = u.0 },
        i (k + 1) (a + w) (k'' + 1) (a'' + w) (rw (free-over b p e es f) at n) u.1,
      )))
      es b p h k a k' a' n m

-- along the chain
pub pair_chain : (v : ℕ) (d D : List ℕ) → extra_bytes_of D ≡ extra_bytes_of d → (P : Move → Type 0) (ss : List ℕ) (b p : ℕ) → Freshly v d D ss b p
    → All P (places b p (spread (slot_words d) d ss)) → Pairs (Moved P) (files (rows_of d ss)) (files (rows_of D ss))
unfolding rows_of segment_rows rows_in entries files
pair_chain v d D same P [] b p f m = tt
pair_chain v d D same P (x ∷ xs) b p f m =
    let w = slot_words d in
    let es = entries_in w d x in
    let q = free_up_to b p es in
    let t = tail v w xs q in
    let a = 512 * (x - 1) + 5 in
    let ms = rw (places-append es (spread w d xs) b p) at m in
    rw (
      files-append (segment_rows d x) (rows_of d xs),
      files-append (segment_rows D x) (rows_of D xs),
      f.0.first,
      same,
      f.3.stop.first,
      f.3.entries,
    )
    (pairs_append (Moved P) (files (rows_in w x 1 a b es)) (files (rows_in w x 1 a p (packed_entries w b p es ++ t))) (files (rows_of d xs))
    (files (rows_of D xs))
    (pair_in w (omega arith) x P es t b p 1 a 1 a f.1
    (λ k z. tailed (λ l. files (rows_in w x k z q l) ≡ []) v w xs q (omega arith) f.2 refl (λ g y. rw (empty-file g y.kind)))
    (all_left P (places b p es) (places (b + total es) q (spread w d xs)) ms))
    (pair_chain v d D same P xs (b + total es) q f.4 (all_right_lem P (places b p es) (places (b + total es) q (spread w d xs)) ms)))
