-- What close and an answer need of numbers in a sound directory. A tentative entry and the one after it are together no longer than the
-- entries of their segment, so what the next entry grows to is a length of the volume and fits a word; and a row's first block and
-- length are at most V. By one induction over a segment's slots, then over the chain.
use Prim.Native.Nat.{ℕ, zero, suc, ◌+◌, ◌*◌, ◌-◌, ◌≤◌, ◌<◌}
use mathlib.Core.Path.{◌≡◌, refl, sym, ap, ◌∙◌}
use mathlib.Core.Bool.{Bool, true, false, cond, true≢false}
use mathlib.Core.List.{List, [], ◌∷◌, ◌++◌, map}
use mathlib.Core.Option.{some}
use native.Mathlib.Omega.{arith}
use lib.ListN.{length, get_or}
use Rattle.meaning.specs.declared.Kind.TheVariants.{Tentative}
use Rattle.meaning.specs.Kinds.{is_tentative, is_end}
use Rattle.meaning.specs.Words.{segment, first_of, first_data, slot_words, slot_count, Entry, length_word, kind, blocks, upto, entries, total}
use Rattle.meaning.specs.Words.{chain}
use Rattle.meaning.specs.Words.{Row, rows_in, segment_rows, rows_of, rows, entries_of, all_entries}
use Rattle.meaning.specs.Sound.{fault}
use Rattle.meaning.specs.Answers.{find, open_on}
use Rattle.walks.specs.Scan.{long_named, scan_bad}
use Rattle.meaning.specs.declared.Key.TheVariants.{Open}
use Rattle.meaning.specs.Keys.{holds}
use Rattle.walks.specs.Lists.{All}
use Rattle.walks.proofs.Alls.{all_append}
use Rattle.rules.proofs.Keys.{is_open_lem}
use Rattle.rules.proofs.Grid.{grid, entry_at, word_at_lem, slots-grid}
use Rattle.rules.proofs.Rule5.{rule1-holds}
use Rattle.rules.proofs.Soundness.{Readable, sound, data_blocks}
use Rattle.walks.proofs.Filled.{total-append}
use Rattle.rules.proofs.Touch.{by_rest}
use Rattle.rules.proofs.Blocks.{Lies, rows_lie}
use Rattle.rules.proofs.Rows.{Stand, standing, by_true, find-some}

-- a tentative entry and the one after it are no longer than t
Weighs : List ℕ → ℕ → Row → Type 0
Weighs d t r = kind r.entry ≡ Tentative → blocks r.entry + blocks (entry_at d (slot_words d) (r.at + slot_words d)) ≤ t

more : (d : List ℕ) (t t' : ℕ) → t ≤ t' → (rs : List Row) → All (Weighs d t) rs → All (Weighs d t') rs
unfolding Weighs
more d t t' l [] a = tt
more d t t' l (r ∷ rs) a = ((λ k. let m = a.0 k in omega arith), more d t t' l rs a.1)

module _ (d : List ℕ) where
  abbrev w : ℕ
  w = slot_words d

  abbrev f : ℕ → Entry
  f = entry_at d (slot_words d)

  next_in : (n a : ℕ) (p : Bool) → p ≡ true → scan_bad p (map f (grid n w a)) ≡ false → blocks (f a) ≤ total (upto (map f (grid n w a)))
  unfolding grid scan_bad upto total
  next_in zero a p e h = absurd (true≢false h)
  next_in (suc n) a p e h = let k = by_true (kind (f a)) _ _ (rw e at h) in rw k (omega arith)

  weigh_in : (s n j a b : ℕ) (p : Bool) → scan_bad p (map f (grid n w a)) ≡ false
      → All (Weighs d (total (upto (map f (grid n w a))))) (rows_in w s j a b (upto (map f (grid n w a))))
  unfolding grid scan_bad upto rows_in total Weighs
  weigh_in s zero j a b p h = tt
  weigh_in s (suc n) j a b p h =
      go (is_end (kind (f a))) refl (weigh_in s n (j + 1) (a + w) (b + blocks (f a)) (is_tentative (kind (f a))))
    where
      after : List Entry
      after = upto (map f (grid n w (a + w)))

      go : (x : Bool) → is_end (kind (f a)) ≡ x
          → (scan_bad (is_tentative (kind (f a))) (map f (grid n w (a + w))) ≡ false
          → All (Weighs d (total after)) (rows_in w s (j + 1) (a + w) (b + blocks (f a)) after))
          → All (Weighs d (total (cond (is_end (kind (f a))) [] (f a ∷ after))))
          (rows_in w s j a b (cond (is_end (kind (f a))) [] (f a ∷ after)))
      go true x i = rw x tt
      go false x i =
          let g = by_rest (kind (f a)) p (long_named (f a)) _ x h in
          rw x (
            (λ k. let l = next_in n (a + w) _ (rw k) g in omega arith),
            more d (total after) (blocks (f a) + total after) (omega arith) (rows_in w s (j + 1) (a + w) (b + blocks (f a)) after) (i g),
          )

  weigh_of : (ss : List ℕ) → All (Readable d) ss → All (Weighs d (total (entries_of d ss))) (rows_of d ss)
  unfolding rows_of segment_rows entries entries_of Weighs
  weigh_of [] h = tt
  weigh_of (s ∷ ss) h =
      let t = total-append (entries d s) (entries_of d ss) in
      let x : All (Weighs d (total (entries d s))) (segment_rows d s) =
      rw (slots-grid w d s)
      (weigh_in s (slot_count w) 1 (512 * (s - 1) + 5) (first_of (segment d s)) false (rw (slots-grid w d s) at h.0)) in
      all_append (Weighs d (total (entries d s ++ entries_of d ss))) (segment_rows d s) (rows_of d ss)
      (more d (total (entries d s)) (total (entries d s ++ entries_of d ss)) (omega arith) (segment_rows d s) x)
      (more d (total (entries_of d ss)) (total (entries d s ++ entries_of d ss)) (omega arith) (rows_of d ss) (weigh_of ss h.1))

-- what close needs of the tentative entry that it finds: its words in the directory, its next slot inside it, and that the sum fits
pub record Closable (d : List ℕ) (r : Row) : Type 0 where
  pub word : (k : ℕ) → k < 7 → get_or d (r.at + k) 0 ≡ get_or r.entry k 0
  pub room : r.at + slot_words d + slot_words d ≤ length d
  pub fits : blocks r.entry + get_or d (r.at + slot_words d + length_word) 0 ≤ 65535

pub closable : (v : ℕ) (d : List ℕ) → fault v d ≡ 0 → (x : ℕ) (r : Row) → open_on d x ≡ some r → Closable d r
unfolding open_on rows all_entries Weighs
closable v d h x r e =
    let s = sound v d h in
    let l = find-some (Weighs d (total (all_entries d))) (holds (Open x)) (rows d) r (weigh_of d (chain d) s.readable) e in
    let k = (is_open_lem x r.entry l.1).tentative in
    let m = l.0 k in
    let t = (find-some (Stand d) (holds (Open x)) (rows d) r (standing v d s) e).0 in
    let n = word_at_lem d (slot_words d) (r.at + slot_words d) 4 (omega arith) in
    let b = data_blocks v d s in
    let q = (rule1-holds v d s.size).wide in
    let u = (t.next k).0.room in
    record {
      word = λ i j. sym (ap (λ (z : Entry). get_or z i 0) t.is ∙ word_at_lem d (slot_words d) r.at i (omega arith));
      room = omega arith;
      fits = omega arith;
    }

-- a row's first block and length fit a word
pub row_ends : (v : ℕ) (d : List ℕ) → fault v d ≡ 0 → (t : Entry → Bool) (r : Row) → find t (rows d) ≡ some r
    → r.first + blocks r.entry ≤ 65535
row_ends v d h t r e =
    let s = sound v d h in
    let l = (find-some (Lies (first_data d) v) t (rows d) r (rows_lie v d s) e).0.to in
    let q = (rule1-holds v d s.size).wide in
    omega arith
