-- From places back to entries. A slot of a segment is read at its place in the directory too, since it ends within the segment's 512
-- words. So the places listed are those of all entries that have a key, in chain order, and to walk the list from its end is to
-- walk these entries. Assumes nothing.
use Prim.Native.Nat.{ℕ, zero, suc, ◌+◌, ◌*◌, ◌-◌, ◌≤◌, ◌<◌}
use mathlib.Core.Path.{◌≡◌, refl, sym, ap, ◌∙◌}
use mathlib.Core.Bool.{Bool, true, false, cond}
use mathlib.Core.List.{List, [], ◌∷◌, ◌++◌, map}
use native.Mathlib.Omega.{arith}
use native.Mathlib.Nat.{suc-mul, div-mul-le_self}
use lib.ListN.{length, get_or, take, drop}
use lib.Seq.{drop-drop, drop-cons, drop-length, get_or-take, length-take-le, take-length}
use Rattle.meaning.specs.Kinds.{is_end}
use Rattle.meaning.specs.Words.{Entry, highest, segment, kind, slot_words, slot_count, chunks, slots, upto, entries}
use Rattle.meaning.specs.Words.{chain_from, chain, entries_of, all_entries}
use Rattle.walks.specs.Links.{linked}
use Rattle.chain.specs.Chained.{Chained}
use Rattle.chain.proofs.Links.{link_at, next}
use Rattle.walks.proofs.Words.{base, header, slot-there}
use Rattle.meaning.specs.Sound.{clashes, bad6}
use Rattle.directory.proofs.Clashing.{clashes-candidates, few-seen}
use Rattle.directory.specs.Candidates.{has_key, candidates, places_of, places_in}
use Rattle.directory.specs.Buckets.{numbered, seen, Candidate, Places}

-- ps are the places of es, and all of these have a key
data Of (d : List ℕ) (w : ℕ) : List ℕ → List Entry → Type 0 where
  nothing : Of d w [] []
  more : {p : ℕ} {ps : List ℕ} {es : List Entry} → Candidate d w p → Of d w ps es → Of d w (p ∷ ps) (take w (drop p d) ∷ es)

module _ {d : List ℕ} {w : ℕ} where
  of_append : {ps qs : List ℕ} {es fs : List Entry} → Of d w ps es → Of d w qs fs → Of d w (ps ++ qs) (es ++ fs)
  of_append nothing y = y
  of_append (more c x) y = more c (of_append x y)

  of_all : {ps : List ℕ} {es : List Entry} → Of d w ps es → (k : ℕ) → k < length ps → Candidate d w (get_or ps k 0)
  of_all nothing k h = absurd (omega arith)
  of_all (more c x) zero h = c
  of_all (more c x) (suc k) h = of_all x k (omega arith)

  -- es is what stands at the places ps
  of_at : {ps : List ℕ} {es : List Entry} → Of d w ps es → map (λ (p : ℕ). take w (drop p d)) ps ≡ es
  of_at nothing = refl
  of_at (more {p = p} c x) = ap (λ (l : List Entry). take w (drop p d) ∷ l) (of_at x)

-- the entries of numbers 1 to k are those of the last k places listed
module _ (d : List ℕ) (w : ℕ) (ps : List ℕ) (n : ℕ) (long : n ≤ length ps) where
  seen_at : (k : ℕ) → k ≤ n → seen d w ps n k ≡ map (λ (p : ℕ). take w (drop p d)) (drop (n - k) (take n ps))
  unfolding seen numbered
  seen_at zero h =
      let z : n - 0 ≡ n = omega arith in
      let e : n - 0 ≡ length (take n ps) = z ∙ sym (length-take-le n ps long) in
      rw (e, drop-length (take n ps))
  seen_at (suc k) h =
      let i = n - suc k in
      let m : suc i ≡ n - k = omega arith in
      let l : i < length (take n ps) = rw (length-take-le n ps long) (omega arith) in
      let x : drop i (take n ps) ≡ get_or ps i 0 ∷ drop (n - k) (take n ps) =
      drop-cons (take n ps) i 0 l
      ∙ ap (λ (z : ℕ). get_or (take n ps) i 0 ∷ drop z (take n ps)) m
      ∙ ap (λ (z : ℕ). z ∷ drop (n - k) (take n ps)) (get_or-take n ps i 0 (omega arith)) in
      rw (x, seen_at k (omega arith))

  seen_all : seen d w ps n n ≡ map (λ (p : ℕ). take w (drop p d)) (take n ps)
  seen_all =
      let e : n - n ≡ 0 = omega arith in
      rw e at (seen_at n (omega arith))

candidates-append : (xs ys : List Entry) → candidates (xs ++ ys) ≡ candidates xs ++ candidates ys
unfolding candidates
candidates-append [] ys = refl
candidates-append (x ∷ xs) ys = rw (candidates-append xs ys) (go (has_key x))
  where
    go : (t : Bool)
        → cond t (x ∷ (candidates xs ++ candidates ys)) (candidates xs ++ candidates ys)
        ≡ cond t (x ∷ candidates xs) (candidates xs) ++ candidates ys
    go true = refl
    go false = refl

-- the places of a segment's entries, from the slot at word q on
module _ (d : List ℕ) (s w : ℕ) (low : 1 ≤ s) (high : 512 * s ≤ length d) where
  abbrev g : List ℕ
  g = segment d s

  of_slots : (n q : ℕ) → q + n * w ≤ 512
      → Of d w (places_of w (base s + q) (upto (chunks n w (drop q g)))) (candidates (upto (chunks n w (drop q g))))
  unfolding chunks upto places_of candidates
  of_slots zero q h = nothing
  of_slots (suc n) q h =
      let m : suc n * w ≡ n * w + w = suc-mul n w in
      let a : base s + q + w ≡ base s + (q + w) = omega arith in
      let after = of_slots n (q + w) (omega arith) in
      rw (drop-drop w q g) (go (is_end (kind e)) (has_key e) refl (slot-there d s w q (omega arith)) (omega arith) (rw a after))
    where
      e : Entry
      e = take w (drop q g)

      rest : List Entry
      rest = upto (chunks n w (drop (q + w) g))

      go : (t u : Bool) → has_key e ≡ u → e ≡ take w (drop (base s + q) d) → base s + q + w ≤ length d
          → Of d w (places_of w (base s + q + w) rest) (candidates rest)
          → Of d w (places_of w (base s + q) (cond t [] (e ∷ rest))) (candidates (cond t [] (e ∷ rest)))
      go true u c i f r = nothing
      go false true c i f r = rw (c, i) (more (record { fits = f; keyed = rw i at c }) r)
      go false false c i f r = rw c r

of_chain : (d : List ℕ) → Chained d → (n s : ℕ) → linked n d s ≡ true
    → Of d (slot_words d) (places_in d (chain_from n d s)) (candidates (entries_of d (chain_from n d s)))
unfolding chain_from places_in entries_of entries slots candidates
of_chain d c zero s l = nothing
of_chain d c (suc n) s l =
    let w = slot_words d in
    let v = next (suc n) d s c (omega arith) l in
    let m : suc n - 1 ≡ n = omega arith in
    let h : linked n d (link_at d s) ≡ true = rw m at v.rest in
    rw (header d s 1 (omega arith), candidates-append (entries d s))
    (of_append
    (of_slots d s w v.low v.inside (slot_count w) 5 (omega (arith, div-mul-le_self 507 w)))
    (of_chain d c n (link_at d s) h))

-- what the first pass leaves to the second: the places of the entries that have a key
module _ {d : List ℕ} {w : ℕ} {ps : List ℕ} (c : Chained d) (e : w ≡ slot_words d) (l : ps ≡ places_in d (chain d)) where
  of_all-entries : Of d w ps (candidates (all_entries d))
  unfolding all_entries chain
  of_all-entries = rw (e, l) (of_chain d c (highest d) 1 c.links)

  pub listed-places : length ps ≤ 2232 → Places d w ps (length ps)
  listed-places few = record { wide = omega arith; short = c.few; few = few; long = omega arith; all = of_all of_all-entries }

  listed-seen : seen d w ps (length ps) (length ps) ≡ candidates (all_entries d)
  listed-seen = seen_all d w ps (length ps) (omega arith) ∙ rw (take-length ps) (of_at of_all-entries)

  -- leaving out the entries without a key changes no clash
  pub listed-clashes : clashes (seen d w ps (length ps) (length ps)) ≡ bad6 d
  unfolding bad6
  listed-clashes = ap clashes listed-seen ∙ clashes-candidates (all_entries d)

  pub few-listed : length ps < 2 → false ≡ bad6 d
  few-listed h = sym (few-seen d w ps (length ps) (length ps) h) ∙ listed-clashes
