-- What is found in a directory, by first block and entry alone. The living entries are those that are not empty, each with its first
-- block; a key finds among the rows of a sound directory what it finds among the living. So where these stay, all is found as before;
-- and where one is added to them, every key that it does not have is found as before, its own key, if nothing had it, finds it, and of
-- every other key all are as before.
use Prim.Native.Nat.{ℕ, ◌+◌, ◌≤◌}
use mathlib.Core.Path.{◌≡◌, refl, sym, ap, ap₂, ◌∙◌}
use mathlib.Core.Bool.{Bool, true, false, cond}
use mathlib.Core.List.{List, [], ◌∷◌, ◌++◌, map, append_assoc}
use mathlib.Core.Option
use mathlib.Core.Option.{Option, none, some, none-ne-some}
use native.Mathlib.Nat.{add-zero, add_assoc}
use native.Mathlib.Omega.{arith}
use lib.Dec.{eqb}
use borrow.Author.Tests.{eqb-true}
use Rattle.bools.proofs.Bools.{both}
use Rattle.meaning.specs.Words.{first_data, segment, first_of, slot_words, Entry, kind, blocks, entries, total, chain}
use Rattle.meaning.specs.Words.{Row, rows_in, segment_rows, rows_of, rows, entries_of, all_entries}
use Rattle.meaning.specs.Sound.{filled}
use Rattle.meaning.specs.Answers.{find}
use Rattle.meaning.specs.Enter.{is_area}
use Rattle.meaning.specs.declared.Key.{Key}
use Rattle.meaning.specs.Keys.{holds}
use Rattle.laws.specs.Order.{every}
use Rattle.rules.proofs.Keys.{empty_holds, count}
use Rattle.rules.proofs.Soundness.{Sound}
use Rattle.walks.proofs.Told.{empty-kind}

pub record Live : Type 0 where
  pub first : ℕ
  pub entry : Entry

-- the living of some entries, the first of which begins at block b; and of a directory
unfoldable pub living : ℕ → List Entry → List Live
living b [] = []
living b (e ∷ es) = let r = living (b + blocks e) es in cond (is_area e) r (record { first = b; entry = e } ∷ r)

abbrev pub living_of : List ℕ → List Live
living_of d = living (first_data d) (all_entries d)

-- an entry that is empty, or is not
pub living-area : (b : ℕ) (e : Entry) (es : List Entry) → is_area e ≡ true → living b (e ∷ es) ≡ living (b + blocks e) es
unfolding living
living-area b e es h = rw h

pub living_other : (b : ℕ) (e : Entry) (es : List Entry) → is_area e ≡ false
    → living b (e ∷ es) ≡ record { first = b; entry = e } ∷ living (b + blocks e) es
unfolding living
living_other b e es h = rw h

pub living-append : (xs ys : List Entry) (b : ℕ) → living b (xs ++ ys) ≡ living b xs ++ living (b + total xs) ys
unfolding living total
living-append [] ys b = rw (add-zero b)
living-append (x ∷ xs) ys b =
    rw (living-append xs ys (b + blocks x), ← (add_assoc b (blocks x) (total xs))) (go (is_area x) (living (b + blocks x + total xs) ys))
  where
    go : (z : Bool) (l : List Live)
        → cond z (living (b + blocks x) xs ++ l) (record { first = b; entry = x } ∷ (living (b + blocks x) xs ++ l))
        ≡ cond z (living (b + blocks x) xs) (record { first = b; entry = x } ∷ living (b + blocks x) xs) ++ l
    go true l = refl
    go false l = refl

-- the first that passes a test
unfoldable pub seek : (Entry → Bool) → List Live → Option Live
seek t [] = none
seek t (x ∷ xs) = let r = seek t xs in cond (t x.entry) (some x) r

abbrev pub face : Row → Live
face r = record { first = r.first; entry = r.entry }

-- the living among rows
unfoldable living_rows : List Row → List Live
living_rows [] = []
living_rows (r ∷ rs) = let l = living_rows rs in cond (is_area r.entry) l (face r ∷ l)

rows_append : (xs ys : List Row) → living_rows (xs ++ ys) ≡ living_rows xs ++ living_rows ys
unfolding living_rows
rows_append [] ys = refl
rows_append (x ∷ xs) ys = rw (rows_append xs ys) (go (is_area x.entry))
  where
    go : (z : Bool)
        → cond z (living_rows xs ++ living_rows ys) (face x ∷ (living_rows xs ++ living_rows ys))
        ≡ cond z (living_rows xs) (face x ∷ living_rows xs) ++ living_rows ys
    go true = refl
    go false = refl

rows_in_lem : (w s j a b : ℕ) (es : List Entry) → living_rows (rows_in w s j a b es) ≡ living b es
unfolding living_rows living rows_in
rows_in_lem w s j a b [] = refl
rows_in_lem w s j a b (e ∷ es) = rw (rows_in_lem w s (j + 1) (a + w) (b + blocks e) es)

rows-from : (v : ℕ) (d : List ℕ) (b : ℕ) (ss : List ℕ) → filled v d b ss ≡ true → living_rows (rows_of d ss) ≡ living b (entries_of d ss)
unfolding filled rows_of entries_of segment_rows living_rows living
rows-from v d b [] h = refl
rows-from v d b (s ∷ ss) h =
    let p = both (eqb (first_of (segment d s)) b) (filled v d (b + total (entries d s)) ss) h in
    let e = eqb-true (first_of (segment d s)) b p.0 in
    rows_append (segment_rows d s) (rows_of d ss)
    ∙ ap₂ (λ (x y : List Live). x ++ y)
    (rows_in_lem (slot_words d) s 1 _ (first_of (segment d s)) (entries d s) ∙ ap (λ (x : ℕ). living x (entries d s)) e)
    (rows-from v d (b + total (entries d s)) ss p.1)
    ∙ sym (living-append (entries d s) (entries_of d ss) b)

seek-rows : (k : Key) (rs : List Row) → Option.map face (find (holds k) rs) ≡ seek (holds k) (living_rows rs)
unfolding find seek living_rows
seek-rows k [] = refl
seek-rows k (r ∷ rs) = go (is_area r.entry) refl (seek-rows k rs)
  where
    test : (z : Bool) → Option.map face (find (holds k) rs) ≡ seek (holds k) (living_rows rs)
        → Option.map face (cond z (some r) (find (holds k) rs)) ≡ cond z (some (face r)) (seek (holds k) (living_rows rs))
    test true i = refl
    test false i = i

    go : (z : Bool) → is_area r.entry ≡ z → Option.map face (find (holds k) rs) ≡ seek (holds k) (living_rows rs)
        → Option.map face (cond (holds k r.entry) (some r) (find (holds k) rs))
        ≡ seek (holds k) (cond z (living_rows rs) (face r ∷ living_rows rs))
    go true z i = rw (empty_holds k r.entry (empty-kind (kind r.entry) z)) i
    go false z i = test (holds k r.entry) i

pub found : (v : ℕ) (d : List ℕ) → Sound v d → (k : Key) → Option.map face (find (holds k) (rows d)) ≡ seek (holds k) (living_of d)
unfolding rows all_entries
found v d s k = rw (← (rows-from v d (first_data d) (chain d) s.full)) (seek-rows k (rows_of d (chain d)))

-- how many have a key
abbrev pub counted : (Entry → Bool) → List Live → ℕ
counted t xs = count t (map (λ x. x.entry) xs)

pub count-living : (k : Key) (es : List Entry) (b : ℕ) → counted (holds k) (living b es) ≡ count (holds k) es
unfolding living count
count-living k [] b = refl
count-living k (e ∷ es) b = go (is_area e) refl (count-living k es (b + blocks e))
  where
    go : (z : Bool) → is_area e ≡ z → counted (holds k) (living (b + blocks e) es) ≡ count (holds k) es
        → counted (holds k) (cond z (living (b + blocks e) es) (record { first = b; entry = e } ∷ living (b + blocks e) es))
        ≡ cond (holds k e) 1 0 + count (holds k) es
    go true z i = rw (empty_holds k e (empty-kind (kind e) z)) (omega arith)
    go false z i = rw i

none-counted : (t : Entry → Bool) (xs : List Live) → seek t xs ≡ none → counted t xs ≡ 0
unfolding seek count
none-counted t [] h = refl
none-counted t (x ∷ xs) h = go (t x.entry) refl (none-counted t xs) h
  where
    go : (z : Bool) → t x.entry ≡ z → (seek t xs ≡ none → counted t xs ≡ 0) → cond z (some x) (seek t xs) ≡ none
        → cond (t x.entry) 1 0 + counted t xs ≡ 0
    go true z i g = absurd (none-ne-some x (sym g))
    go false z i g = let j = i g in rw z (omega arith)

-- one more among the living
pub record Gained (x : Live) (before after : List Live) : Type 0 where
  pub front : List Live
  pub back : List Live
  pub was : before ≡ front ++ back
  pub is : after ≡ front ++ x ∷ back

-- with others around them
pub gained-within : {x : Live} {xs ys : List Live} (us vs : List Live) → Gained x xs ys → Gained x (us ++ (xs ++ vs)) (us ++ (ys ++ vs))
gained-within us vs g =
    record {
      front = us ++ g.front;
      back = g.back ++ vs;
      was = rw g.was (simp append_assoc);
      is = rw g.is (simp append_assoc);
    }

seek_beside : (t : Entry → Bool) (x : Live) (xs ys : List Live) → t x.entry ≡ false → seek t (xs ++ x ∷ ys) ≡ seek t (xs ++ ys)
unfolding seek
seek_beside t x [] ys h = rw h
seek_beside t x (y ∷ xs) ys h = rw (seek_beside t x xs ys h)

seek-there : (t : Entry → Bool) (x : Live) (xs ys : List Live) → t x.entry ≡ true → seek t (xs ++ ys) ≡ none
    → seek t (xs ++ x ∷ ys) ≡ some x
unfolding seek
seek-there t x [] ys h e = rw h
seek-there t x (y ∷ xs) ys h e = go (t y.entry) (seek-there t x xs ys h) e
  where
    go : (z : Bool) → (seek t (xs ++ ys) ≡ none → seek t (xs ++ x ∷ ys) ≡ some x) → cond z (some y) (seek t (xs ++ ys)) ≡ none
        → cond z (some y) (seek t (xs ++ x ∷ ys)) ≡ some x
    go true i g = absurd (none-ne-some y (sym g))
    go false i g = i g

count_beside : (t : Entry → Bool) (x : Live) (xs ys : List Live) → counted t (xs ++ x ∷ ys) ≡ counted t (xs ++ ys) + cond (t x.entry) 1 0
unfolding count
count_beside t x [] ys = omega arith
count_beside t x (y ∷ xs) ys = let i = count_beside t x xs ys in omega arith

module _ {x : Live} {xs ys : List Live} (g : Gained x xs ys) (t : Entry → Bool) where
  pub gained_beside : t x.entry ≡ false → seek t ys ≡ seek t xs
  gained_beside h = rw (g.was, g.is) (seek_beside t x g.front g.back h)

  pub gained-there : t x.entry ≡ true → seek t xs ≡ none → seek t ys ≡ some x
  gained-there h e = rw g.is (seek-there t x g.front g.back h (rw g.was at e))

  -- each key is still that of one entry at most, if no other has the new one's
  pub gained-few : counted t xs ≤ 1 → (t x.entry ≡ true → seek t xs ≡ none) → counted t ys ≤ 1
  gained-few l free = go (t x.entry) refl
    where
      more : counted t ys ≡ counted t xs + cond (t x.entry) 1 0
      more = rw (g.was, g.is) (count_beside t x g.front g.back)

      go : (z : Bool) → t x.entry ≡ z → counted t ys ≤ 1
      go true z = let n = none-counted t xs (free z) in let m : counted t ys ≡ counted t xs + 1 = more ∙ (rw z) in omega arith
      go false z = let m : counted t ys ≡ counted t xs + 0 = more ∙ (rw z) in omega arith

-- all of the living that pass a test
unfoldable chosen : (Entry → Bool) → List Live → List Live
chosen t [] = []
chosen t (x ∷ xs) = let r = chosen t xs in cond (t x.entry) (x ∷ r) r

chosen_beside : (t : Entry → Bool) (x : Live) (xs ys : List Live) → t x.entry ≡ false → chosen t (xs ++ x ∷ ys) ≡ chosen t (xs ++ ys)
unfolding chosen
chosen_beside t x [] ys h = rw h
chosen_beside t x (y ∷ xs) ys h = rw (chosen_beside t x xs ys h)

-- those of a key are its rows
chosen-rows : (k : Key) (rs : List Row) → map face (every (holds k) rs) ≡ chosen (holds k) (living_rows rs)
unfolding every chosen living_rows
chosen-rows k [] = refl
chosen-rows k (r ∷ rs) = go (is_area r.entry) refl (chosen-rows k rs)
  where
    test : (z : Bool) → map face (every (holds k) rs) ≡ chosen (holds k) (living_rows rs)
        → map face (cond z (r ∷ every (holds k) rs) (every (holds k) rs))
        ≡ cond z (face r ∷ chosen (holds k) (living_rows rs)) (chosen (holds k) (living_rows rs))
    test true i = ap {B = List Live} (λ l. face r ∷ l) i
    test false i = i

    go : (z : Bool) → is_area r.entry ≡ z → map face (every (holds k) rs) ≡ chosen (holds k) (living_rows rs)
        → map face (cond (holds k r.entry) (r ∷ every (holds k) rs) (every (holds k) rs))
        ≡ chosen (holds k) (cond z (living_rows rs) (face r ∷ living_rows rs))
    go true z i = rw (empty_holds k r.entry (empty-kind (kind r.entry) z)) i
    go false z i = test (holds k r.entry) i

-- so all rows of a key are as before once another is added, but for the slots that they stand in
pub gained-every : (v : ℕ) (d d' : List ℕ) → Sound v d → Sound v d' → (x : Live) → Gained x (living_of d) (living_of d')
    → (k : Key) → holds k x.entry ≡ false → map face (every (holds k) (rows d)) ≡ map face (every (holds k) (rows d'))
unfolding rows all_entries
gained-every v d d' s s' x g k h =
    let i = rows-from v d (first_data d) (chain d) s.full ∙ g.was in
    let j = rows-from v d' (first_data d') (chain d') s'.full ∙ g.is in
    chosen-rows k (rows_of d (chain d))
    ∙ ap (chosen (holds k)) i
    ∙ sym (chosen_beside (holds k) x g.front g.back h)
    ∙ ap (chosen (holds k)) (sym j)
    ∙ sym (chosen-rows k (rows_of d' (chain d')))
