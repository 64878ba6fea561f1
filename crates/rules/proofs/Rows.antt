-- The rows of a sound directory: each stands at a place of the grid and is what stands there, and a tentative one has an empty
-- entry next. What is found among rows passes the test, and of a key that may stand once it is the only one; and a test of rows
-- that were changed one by one finds what another test finds before, if the two agree row by row.
use Prim.Native.Nat.{ℕ, zero, suc, ◌+◌, ◌*◌, ◌-◌, ◌≤◌}
use mathlib.Core.Path.{◌≡◌, refl, sym, ap, ap₂, ◌∙◌, subst}
use mathlib.Core.Bool.{Bool, true, false, cond, ◌||◌, true≢false}
use mathlib.Core.List.{List, [], ◌∷◌, ◌++◌, map, map-append}
use mathlib.Core.Option
use mathlib.Core.Option.{none, some, none-ne-some}
use native.Mathlib.Omega.{arith}
use lib.ListN.{length}
use Rattle.bools.proofs.Bools.{neither}
use Rattle.meaning.specs.declared.Kind.{Kind}
use Rattle.meaning.specs.declared.Kind.TheVariants.{Tentative, Empty, Permanent, End, Unknown}
use Rattle.meaning.specs.Kinds.{is_tentative, is_end}
use Rattle.meaning.specs.Words.{segment, first_of, slot_words, slot_count, Entry, kind, blocks, upto, entries, chain}
use Rattle.meaning.specs.Words.{Row, rows_in, segment_rows, rows_of, rows, entries_of, all_entries}
use Rattle.meaning.specs.Answers.{find}
use Rattle.walks.specs.Scan.{bad_by, long_named, scan_bad}
use Rattle.meaning.specs.declared.Key.{Key}
use Rattle.meaning.specs.Keys.{holds, once}
use Rattle.walks.specs.Lists.{All}
use Rattle.walks.proofs.Alls.{all_map, all_append}
use Rattle.walks.proofs.Linked.{Inside}
use Rattle.rules.proofs.Keys.{count}
use Rattle.rules.proofs.Grid.{grid, grid_of, entry_at, slots-grid, OnGrid, Placed, grid-placed}
use Rattle.rules.proofs.Soundness.{Readable, Sound, chain-within}
use Rattle.rules.proofs.Touch.{by_rest}

-- a slot of the directory
pub record Slot (d : List ℕ) (p : ℕ) : Type 0 where
  pub on : OnGrid (slot_words d) p
  pub room : p + slot_words d ≤ length d

pub record Stand (d : List ℕ) (r : Row) : Type 0 where
  pub slot : Slot d r.at
  pub is : r.entry ≡ entry_at d (slot_words d) r.at
  pub fine : kind r.entry ≡ Tentative → long_named r.entry ≡ false
  pub next : kind r.entry ≡ Tentative
      → Slot d (r.at + slot_words d) × (kind (entry_at d (slot_words d) (r.at + slot_words d)) ≡ Empty)

by_name : (k : Kind) (p b r : Bool) → k ≡ Tentative → bad_by k p b r ≡ false → b ≡ false
by_name k p b r e h = let g : p || b || r ≡ false = rw e at h in (neither p b (neither (p || b) r g).0).1

-- only an empty entry follows a tentative one
pub by_true : (k : Kind) (b r : Bool) → bad_by k true b r ≡ false → k ≡ Empty
by_true Tentative b r h = absurd (true≢false h)
by_true Empty b r h = refl
by_true Permanent b r h = absurd (true≢false h)
by_true End b r h = absurd (true≢false h)
by_true Unknown b r h = absurd (true≢false h)

module _ (d : List ℕ) where
  abbrev w : ℕ
  w = slot_words d

  abbrev f : ℕ → Entry
  f p = entry_at d (slot_words d) p

  next-empty : (n a : ℕ) (p : Bool) → p ≡ true → All (Slot d) (grid n w a) → scan_bad p (map f (grid n w a)) ≡ false
      → Slot d a × (kind (f a) ≡ Empty)
  unfolding grid scan_bad
  next-empty zero a p e t h = absurd (true≢false h)
  next-empty (suc n) a p e t h = (t.0, by_true (kind (f a)) _ _ (rw e at h))

  stand_in : (s n j a b : ℕ) (p : Bool) → All (Slot d) (grid n w a) → scan_bad p (map f (grid n w a)) ≡ false
      → All (Stand d) (rows_in w s j a b (upto (map f (grid n w a))))
  unfolding grid scan_bad upto rows_in
  stand_in s zero j a b p t h = tt
  stand_in s (suc n) j a b p t h =
      go (is_end (kind (f a))) refl (stand_in s n (j + 1) (a + w) (b + blocks (f a)) (is_tentative (kind (f a))) t.1)
    where
      after : List Entry
      after = upto (map f (grid n w (a + w)))

      go : (x : Bool) → is_end (kind (f a)) ≡ x
          → (scan_bad (is_tentative (kind (f a))) (map f (grid n w (a + w))) ≡ false
          → All (Stand d) (rows_in w s (j + 1) (a + w) (b + blocks (f a)) after))
          → All (Stand d) (rows_in w s j a b (cond (is_end (kind (f a))) [] (f a ∷ after)))
      go true x i = rw x tt
      go false x i =
          let g = by_rest (kind (f a)) p (long_named (f a)) _ x h in
          rw x (
            record {
              slot = t.0;
              is = refl;
              fine = λ k. by_name (kind (f a)) p _ _ k h;
              next = λ k. next-empty n (a + w) _ (rw k) t.1 g;
            },
            i g,
          )

  slot_of : (s : ℕ) → Inside (length d) s → (p : ℕ) → Placed w (s - 1) p → Slot d p
  slot_of s l p x = record { on = x.on; room = omega (arith, x.within, l.0, l.1) }

  stands_of : (ss : List ℕ) → All (Inside (length d)) ss → All (Readable d) ss → All (Stand d) (rows_of d ss)
  unfolding rows_of segment_rows entries
  stands_of [] a h = tt
  stands_of (s ∷ ss) a h =
      all_append (Stand d) (segment_rows d s) (rows_of d ss)
      (rw (slots-grid w d s)
      (stand_in s (slot_count w) 1 (512 * (s - 1) + 5) (first_of (segment d s)) false
      (all_map (Placed w (s - 1)) (Slot d) (slot_of s a.0) (grid_of w s) (grid-placed w s))
      (rw (slots-grid w d s) at h.0)))
      (stands_of ss a.1 h.1)

pub standing : (v : ℕ) (d : List ℕ) → Sound v d → All (Stand d) (rows d)
unfolding rows
standing v d s = stands_of d (chain d) (chain-within v d s) s.readable

-- the rows' entries are the entries
abbrev pub entry_of : Row → Entry
entry_of r = r.entry

entries_in_lem : (w s j a b : ℕ) (es : List Entry) → map entry_of (rows_in w s j a b es) ≡ es
unfolding rows_in
entries_in_lem w s j a b [] = refl
entries_in_lem w s j a b (e ∷ es) = ap {B = List Entry} (λ l. e ∷ l) (entries_in_lem w s (j + 1) (a + w) (b + blocks e) es)

entries_from : (d : List ℕ) (ss : List ℕ) → map entry_of (rows_of d ss) ≡ entries_of d ss
unfolding rows_of entries_of segment_rows
entries_from d [] = refl
entries_from d (s ∷ ss) =
    map-append entry_of (segment_rows d s) (rows_of d ss)
    ∙ ap₂ (λ (x y : List Entry). x ++ y) (entries_in_lem _ s 1 _ _ (entries d s)) (entries_from d ss)

pub entries-rows : (d : List ℕ) → map entry_of (rows d) ≡ all_entries d
unfolding rows all_entries
entries-rows d = entries_from d (chain d)

pub few-rows : (v : ℕ) (d : List ℕ) → Sound v d → (k : Key) → once k ≡ true → count (holds k) (map entry_of (rows d)) ≤ 1
few-rows v d s k o = rw (entries-rows d) (s.keys k o)

-- what is found
pub find-some : (P : Row → Type 0) (t : Entry → Bool) (rs : List Row) (r : Row) → All P rs → find t rs ≡ some r
    → P r × (t r.entry ≡ true)
unfolding find
find-some P t [] r a h = absurd (none-ne-some r h)
find-some P t (x ∷ rs) r a h = go (t x.entry) refl (find-some P t rs r a.1) h
  where
    go : (y : Bool) → t x.entry ≡ y → (find t rs ≡ some r → P r × (t r.entry ≡ true))
        → cond y (some x) (find t rs) ≡ some r → P r × (t r.entry ≡ true)
    go true y i h =
        let e : x ≡ r = cc in
        (subst P e a.0, subst (λ (z : Row). t z.entry ≡ true) e y)
    go false y i h = i h

abbrev pub Fails : (Entry → Bool) → Row → Type 0
Fails t r = t r.entry ≡ false

pub find_none : (t : Entry → Bool) (rs : List Row) → find t rs ≡ none → All (Fails t) rs
unfolding find
find_none t [] h = tt
find_none t (x ∷ rs) h = go (t x.entry) refl (find_none t rs) h
  where
    go : (y : Bool) → t x.entry ≡ y → (find t rs ≡ none → All (Fails t) rs) → cond y (some x) (find t rs) ≡ none
        → All (Fails t) (x ∷ rs)
    go true y i h = absurd (none-ne-some x (sym h))
    go false y i h = (y, i h)

count_none : (t : Entry → Bool) (rs : List Row) → count t (map entry_of rs) ≡ 0 → All (Fails t) rs
unfolding count
count_none t [] h = tt
count_none t (x ∷ rs) h = go (t x.entry) refl (count_none t rs) h
  where
    go : (y : Bool) → t x.entry ≡ y → (count t (map entry_of rs) ≡ 0 → All (Fails t) rs)
        → cond y 1 0 + count t (map entry_of rs) ≡ 0 → All (Fails t) (x ∷ rs)
    go true y i h = absurd (omega arith)
    go false y i h = (y, i (omega arith))

-- every row but the one at a place fails a test
abbrev pub Only : (Entry → Bool) → ℕ → Row → Type 0
Only t p x = t x.entry ≡ true → x.at ≡ p

pub find-only : (t : Entry → Bool) (rs : List Row) (r : Row) → count t (map entry_of rs) ≤ 1 → find t rs ≡ some r
    → All (Only t r.at) rs
unfolding find count
find-only t [] r c h = tt
find-only t (x ∷ rs) r c h = go (t x.entry) refl (find-only t rs r) c h
  where
    go : (y : Bool) → t x.entry ≡ y → (count t (map entry_of rs) ≤ 1 → find t rs ≡ some r → All (Only t r.at) rs)
        → cond y 1 0 + count t (map entry_of rs) ≤ 1 → cond y (some x) (find t rs) ≡ some r → All (Only t r.at) (x ∷ rs)
    go true y i c h =
        let e : x ≡ r = cc in (
          (λ z. ap (λ (q : Row). q.at) e),
          all_map (Fails t) (Only t r.at) (λ q g z. absurd (true≢false (sym z ∙ g))) rs (count_none t rs (omega arith)),
        )
    go false y i c h = ((λ z. absurd (true≢false (sym z ∙ y))), i (omega arith) h)

-- rows changed one by one: t afterwards is u before
module _ (t u : Entry → Bool) (g : Row → Row) where
  abbrev pub Tied : Row → Type 0
  Tied r = t (g r).entry ≡ u r.entry

  pub find_tied : (rs : List Row) → All Tied rs → find t (map g rs) ≡ Option.map g (find u rs)
  unfolding find
  find_tied [] a = refl
  find_tied (r ∷ rs) a = rw a.0 (go (u r.entry) (find_tied rs a.1))
    where
      go : (x : Bool) → find t (map g rs) ≡ Option.map g (find u rs)
          → cond x (some (g r)) (find t (map g rs)) ≡ Option.map g (cond x (some r) (find u rs))
      go true i = refl
      go false i = i

  pub count_tied : (rs : List Row) → All Tied rs → count t (map entry_of (map g rs)) ≡ count u (map entry_of rs)
  unfolding count
  count_tied [] a = refl
  count_tied (r ∷ rs) a = rw (a.0, count_tied rs a.1)
