-- A segment written anew into zeroed words: the header, the entries, the marker, and the zeros that are left, which is the
-- rendered segment. Entries that are not untidy are changed by none of it, and the segment is as it was. Assumes nothing.
use Prim.Native.Nat.{ℕ, ◌≤◌, ◌<◌}
use native.Mathlib.Omega.{arith}
use mathlib.Core.Path.{◌≡◌, refl, sym, ap, ◌∙◌}
use mathlib.Core.Bool.{Bool, true, false, cond}
use mathlib.Core.List.{List, [], ◌∷◌, ◌++◌, append_assoc}
use lib.ListN.{length, get_or, take, replicate, length-replicate}
use lib.Seq.{paste, length-take-le, get_or-take}
use Rattle.meaning.specs.Kinds.{end_status}
use Rattle.meaning.specs.Words.{Entry, slots, upto}
use Rattle.meaning.specs.Requests.{flat, render}
use Rattle.meaning.specs.Enter.{tidy, untidy}
use Rattle.walks.proofs.Untidy.{tidy-none, tidy-fewer}
use Rattle.segment.specs.Written.{Written}
use Rattle.tidy.specs.Tidied.{tidied_words}
use Rattle.tidy.specs.OpenRun.{Finished}
use Rattle.segment.proofs.Writes.{pasted, both_written, written-fits, written-anew}
use Rattle.walks.proofs.Flat.{entries_proper, flat_more, render-length, render-head, render-entries}
use Rattle.walks.proofs.Slots.{entries-count}
use Rattle.tidy.proofs.Tidying.{tidy_proper}

-- the header h and the entries with their marker
rendered : (h b a : List ℕ) (es : List Entry) (z : ℕ) → length h ≡ 5 → b ≡ paste (replicate 512 0) 0 h (length h)
    → Written b 5 (flat es (end_status ∷ [])) a z → a ≡ render h es
unfolding render
rendered h b a es z n e u =
    let zeros : List ℕ = replicate 512 0 in
    let l : List ℕ = flat es (end_status ∷ []) in
    let c : Written zeros 0 h b 5 = rw n at (pasted zeros b h 0 (omega (arith, length-replicate {A = ℕ} 512 0)) e) in
    let v = both_written zeros h b l a 0 5 z (omega arith) c u in
    let k : z ≤ 512 = omega (arith, written-fits zeros (h ++ l) a 0 z (omega arith) v, length-replicate {A = ℕ} 512 0) in
    let w : h ++ l ++ zeros ≡ h ++ flat es (end_status ∷ zeros) =
    append_assoc h l zeros ∙ ap {B = List ℕ} (λ x. h ++ x) (flat_more es (end_status ∷ []) zeros) in
    written-anew 512 (h ++ l) a z k v ∙ ap (take 512) w

-- a segment's entries, and the same tidied
abbrev entries_in : ℕ → List ℕ → List Entry
entries_in w g = upto (slots w g)

abbrev tidied_in : ℕ → List ℕ → List Entry
tidied_in w g = tidy (upto (slots w g))

module _ (w : ℕ) (g : List ℕ) (n : length g ≡ 512) (wide : 7 ≤ w) where
  header-length : length (take 5 g) ≡ 5
  header-length = length-take-le 5 g (omega arith)

  pub stays : untidy (entries_in w g) ≡ false → g ≡ tidied_words w g
  unfolding tidied_words
  stays u = rw u

  -- the segment's own header copied, and its tidied entries behind it
  pub changed : (b a : List ℕ) → untidy (entries_in w g) ≡ true → Finished b 5 (tidied_in w g) a
      → b ≡ paste (replicate 512 0) 0 (take 5 g) (length (take 5 g)) → a ≡ tidied_words w g
  unfolding tidied_words
  changed b a u t f = rw u (rendered (take 5 g) b a (tidied_in w g) _ header-length f t)

  -- the tidied words: as many, with the same header, and the tidied entries
  pub words-length : length (tidied_words w g) ≡ 512
  unfolding tidied_words
  words-length = go (untidy (entries_in w g))
    where
      go : (x : Bool) → length (cond x (render (take 5 g) (tidied_in w g)) g) ≡ 512
      go false = n
      go true = render-length (take 5 g) (tidied_in w g)

  pub words-header : (k : ℕ) → k < 5 → get_or (tidied_words w g) k 0 ≡ get_or g k 0
  unfolding tidied_words
  words-header k h = go (untidy (entries_in w g))
    where
      go : (x : Bool) → get_or (cond x (render (take 5 g) (tidied_in w g)) g) k 0 ≡ get_or g k 0
      go false = refl
      go true =
          let l = header-length in
          render-head (take 5 g) (tidied_in w g) k (omega arith) (omega arith) ∙ get_or-take 5 g k 0 h

  pub words-entries : upto (slots w (tidied_words w g)) ≡ tidied_in w g
  unfolding tidied_words
  words-entries = go (untidy (entries_in w g)) refl
    where
      go : (x : Bool) → untidy (entries_in w g) ≡ x
          → upto (slots w (cond x (render (take 5 g) (tidied_in w g)) g)) ≡ tidied_in w g
      go false e = sym (tidy-none (entries_in w g) e)
      go true e =
          render-entries w (take 5 g) (tidied_in w g) wide header-length (tidy_proper w (entries_in w g) (entries_proper w g n))
          (omega (arith, tidy-fewer (entries_in w g) e, entries-count w g))
