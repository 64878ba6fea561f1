-- A walk of the reader. To skip n entries is to take n steps, or fewer where the end comes first; in a sound directory each step
-- passes one row, so that what is read then is the row that n others precede. Assumes nothing.
use Prim.Native.Nat.{ℕ, zero, suc, ◌+◌, ◌-◌, ◌≤◌, ◌<◌}
use mathlib.Core.Path.{◌≡◌, refl, sym, ap, ◌∙◌}
use mathlib.Core.Bool.{Bool, true, false, cond}
use mathlib.Core.List.{List, [], ◌∷◌}
use mathlib.Core.Option.{Option, none}
use native.Mathlib.Omega.{arith}
use native.Mathlib.Nat.{zero-add, suc-add}
use lib.ListN.{drop}
use lib.Dec.{eqb}
use borrow.Author.Tests.{eq-eqb, ne_eqb, eqb-true}
use Rattle.meaning.specs.Words.{Row, rows}
use Rattle.meaning.specs.Sound.{fault}
use Rattle.cursor.specs.Cursor.{past, first_slot, rows_at, entry_step, first_step, step_at}
use Rattle.cursor.specs.declared.Cursor.{Cursor}
use Rattle.cursor.specs.declared.Seen.{Seen}
use Rattle.std.specs.Prelude.{Some, None}
use Rattle.cursor.proofs.Walking.{On, begins, from_start, step_on, passed}
use Rattle.reader.specs.Read.{Answers, seen_in, read_at, past_step, skipped, place_after, first_row, row_at}
use Rattle.reader.specs.declared.Read.{Read}
use Rattle.reader.specs.declared.Read.TheVariants as read
use Rattle.reader.specs.declared.Read.TheVariants.{Refused}

-- one step, of n
pub skip_on : (n : ℕ) (d : List ℕ) (c : Cursor) {s : Seen} {p : Cursor} → 0 < n → step_at d c ≡ Some (s, p)
    → skipped n d c ≡ skipped (n - 1) d p
unfolding skipped
skip_on zero d c h e = absurd (omega arith)
skip_on (suc n) d c h e =
    let m : suc n - 1 ≡ n = omega arith in
    rw (e, m)

-- none is left
pub skip_none : (n : ℕ) (d : List ℕ) (c : Cursor) → n ≤ 0 → skipped n d c ≡ c
unfolding skipped
skip_none zero d c h = refl
skip_none (suc n) d c h = absurd (omega arith)

-- at the end there is no further
pub skip_end : (n : ℕ) (d : List ℕ) (c : Cursor) → step_at d c ≡ None → skipped n d c ≡ c
unfolding skipped
skip_end zero d c e = refl
skip_end (suc n) d c e = rw e (skip_end n d c e)

-- a refused reader stays, and another skips
pub stays : (d : List ℕ) (c : Cursor) (k n : ℕ) → (k ≡ 0 → ⊥) → c ≡ place_after d c k n
unfolding place_after
stays d c k n h = rw (ne_eqb k 0 h)

pub skips : (d : List ℕ) (c r : Cursor) (k n : ℕ) → k ≡ 0 → r ≡ skipped n d c → r ≡ place_after d c k n
unfolding place_after
skips d c r k n h e = rw (eq-eqb k 0 h) e

skip_more : (m n : ℕ) (d : List ℕ) (c : Cursor) → skipped (m + n) d c ≡ skipped n d (skipped m d c)
unfolding skipped
skip_more zero n d c = rw (zero-add n)
skip_more (suc m) n d c = rw (suc-add m n) (skip_more m n d (past_step (step_at d c) c))

-- to move by m and then by n is to move by m + n: a reader that is moved by one again and again passes entry after entry
pub move_more : (d : List ℕ) (c : Cursor) (k m n : ℕ) → place_after d c k (m + n) ≡ place_after d (place_after d c k m) k n
unfolding place_after
move_more d c k m n = go (eqb k 0)
  where
    go : (t : Bool) → cond t (skipped (m + n) d c) c ≡ cond t (skipped n d (cond t (skipped m d c) c)) (cond t (skipped m d c) c)
    go true = skip_more m n d c
    go false = refl

-- what is read of rows, by way of a step
read_step : (rs : List Row) → seen_in (first_step rs) ≡ first_row rs
read_step [] = refl
read_step (r ∷ rs) = refl

-- what is read after n entries, on the way
abbrev reads : ℕ → List ℕ → Cursor → Option Seen
reads n d c = seen_in (step_at d (skipped n d c))

module _ {v : ℕ} {d : List ℕ} where
  by_rows : (n : ℕ) (c : Cursor) (o : On v d c)
      → ((r : Row) (rs : List Row) → rows_at d c ≡ r ∷ rs → reads n d (past r) ≡ first_row (drop n rs))
      → reads (suc n) d c ≡ first_row (drop (suc n) (rows_at d c))
  unfolding skipped
  by_rows n c o next = go (rows_at d c) refl
    where
      go : (rs : List Row) → rows_at d c ≡ rs → reads (suc n) d c ≡ first_row (drop (suc n) rs)
      go [] e =
          let f : step_at d c ≡ None = step_on o ∙ ap first_step e in
          rw (f, skip_end n d c f, f)
      go (r ∷ rs) e =
          let f : step_at d c ≡ entry_step r = step_on o ∙ ap first_step e in
          rw f (next r rs e)

  read-on : (n : ℕ) (c : Cursor) → On v d c → reads n d c ≡ first_row (drop n (rows_at d c))
  unfolding skipped
  read-on zero c o = rw (step_on o) (read_step (rows_at d c))
  read-on (suc n) c o =
      by_rows n c o (λ r rs e.
      let p = passed o r rs e in
      read-on n (past r) p.on ∙ ap (λ (l : List Row). first_row (drop n l)) p.rest)

-- what a reader that was opened and moved reads is the row
pub row_is : (v : ℕ) (d : List ℕ) (n : ℕ) → read_at d (place_after d (first_slot d 1) (fault v d) n) (fault v d) ≡ row_at v d n
unfolding read_at place_after row_at
row_is v d n = go (eqb (fault v d) 0) refl
  where
    go : (t : Bool) → eqb (fault v d) 0 ≡ t
        → cond t (seen_in (step_at d (cond t (skipped n d (first_slot d 1)) (first_slot d 1)))) none
        ≡ cond t (first_row (drop n (rows d))) none
    go true e =
        let f = eqb-true (fault v d) 0 e in
        read-on n (first_slot d 1) (begins v d f) ∙ ap (λ (l : List Row). first_row (drop n l)) (from_start v d f)
    go false e = refl

-- the three answers at a place
module _ (d : List ℕ) (c : Cursor) (k : ℕ) where
  pub refused-at : (k ≡ 0 → ⊥) → Answers (Refused k) k (read_at d c k)
  unfolding read_at
  refused-at h =
      let e = ne_eqb k 0 h in
      record { number_is = refl; values_are = rw e; refused = rw e }

  pub entry_at : {s : Seen} {p : Cursor} → k ≡ 0 → step_at d c ≡ Some (s, p) → Answers (read.Entry s) k (read_at d c k)
  unfolding read_at
  entry_at h e =
      let z = eq-eqb k 0 h in
      record { number_is = sym h; values_are = rw (z, e); refused = rw z }

  pub end_at : k ≡ 0 → step_at d c ≡ None → Answers read.End k (read_at d c k)
  unfolding read_at
  end_at h e =
      let z = eq-eqb k 0 h in
      record { number_is = sym h; values_are = rw (z, e); refused = rw z }

-- a number and values allow one answer
pub answers-same : (r r' : Read) {n : ℕ} {v : Option Seen} → Answers r n v → Answers r' n v → r ≡ r'
answers-same (read.Entry s) (read.Entry s') a b = cc
answers-same (read.Entry s) read.End a b = cc
answers-same (read.Entry s) (Refused m) a b = cc
answers-same read.End (read.Entry s) a b = cc
answers-same read.End read.End a b = refl
answers-same read.End (Refused m) a b = cc
answers-same (Refused m) (read.Entry s) a b = cc
answers-same (Refused m) read.End a b = cc
answers-same (Refused m) (Refused m') a b = cc
