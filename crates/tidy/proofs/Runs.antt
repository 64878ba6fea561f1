-- The open run as code holds it. What a run leaves is written or not by the cases of the run, and what an entry lets out by its kind.
-- Assumes nothing.
use Prim.Native.Nat.{ℕ, ◌+◌, ◌≤◌, ◌<◌}
use native.Mathlib.Omega.{arith}
use mathlib.Core.Path.{◌≡◌, refl, sym}
use mathlib.Core.Bool.{Bool, true, false, cond, ◌&&◌, not}
use mathlib.Core.List.{List, [], ◌∷◌, ◌++◌, append-nil}
use lib.ListN.{length, set}
use lib.Seq.{append_snoc}
use lib.Dec.{eqb}
use borrow.Author.Tests.{eq-eqb, ne_eqb}
use Rattle.meaning.specs.Kinds.{end_status, is_tentative}
use Rattle.meaning.specs.Words.{Entry, kind, blocks}
use Rattle.meaning.specs.Requests.{flat}
use Rattle.meaning.specs.Enter.{is_area}
use Rattle.walks.specs.Runs.{RunSoFar, calm, within, absorb, flushed, tidy_from}
use Rattle.walks.proofs.Flat.{flat-split, flat_both}
use Rattle.segment.specs.Written.{Written}
use Rattle.tidy.specs.OpenRun.{sum_of, after, let_out, left_of, out_of, Finished}
use Rattle.segment.proofs.Writes.{one_written, both_written}

-- a run is dropped where its sum is 0 and no tentative entry needs it
pub dropped : (t : ℕ) (p : Bool) → t ≡ 0 → p ≡ false → eqb t 0 && not p ≡ true
dropped t p h f = rw (eq-eqb t 0 h, f)

pub needed : (t : ℕ) (p : Bool) → p ≡ true → eqb t 0 && not p ≡ false
needed t p h = rw h (go (eqb t 0))
  where
    go : (c : Bool) → c && false ≡ false
    go true = refl
    go false = refl

pub some-sum : (t : ℕ) (p : Bool) → (t ≡ 0 → ⊥) → eqb t 0 && not p ≡ false
some-sum t p h = rw (ne_eqb t 0 h)

-- the words of what is dropped or not
pub left-nothing : (c : Bool) (e : Entry) → c ≡ true → flat (cond c [] (e ∷ [])) [] ≡ []
unfolding flat
left-nothing c e h = rw h

pub left-entry : (c : Bool) (e : Entry) → c ≡ false → flat (cond c [] (e ∷ [])) [] ≡ e
unfolding flat
left-entry c e h = rw h (append-nil e)

-- the last run written, and then the marker
pub marked : (b m : List ℕ) (q z : ℕ) (r : RunSoFar) → q + length (left_of r) < length b → Written b q (left_of r) m z
    → Finished b q (flushed r) (set m z end_status)
marked b m q z r l u =
    let v = u.long in
    let e = u.next in
    rw (flat-split (flushed r) (end_status ∷ []), ← u.next)
    (both_written b (left_of r) m (end_status ∷ []) (set m z end_status) q z (z + 1) (omega arith) u
    (one_written m z end_status (omega arith)))

-- an empty entry lets nothing out, and any other the run and itself
pub area-out : (r : RunSoFar) (e : Entry) → is_area e ≡ true → out_of r e ≡ []
unfolding let_out flat
area-out r e h = rw h

pub other_out : (r : RunSoFar) (e : Entry) → is_area e ≡ false → out_of r e ≡ left_of r ++ e
unfolding let_out flat
other_out r e h = rw (h, flat_both (flushed r) (e ∷ []) [], append-nil e)

-- the tidy lets out what its first entry lets out, and goes on with the run after it
pub tidy_step : (r : RunSoFar) (f : Entry) (fs : List Entry) → tidy_from r (f ∷ fs) ≡ let_out r f ++ tidy_from (after r f) fs
unfolding tidy_from let_out
tidy_step r f fs = go (is_area f)
  where
    go : (x : Bool)
        → cond x (tidy_from (absorb r f) fs) (flushed r ++ f ∷ tidy_from (calm (is_tentative (kind f))) fs)
        ≡ cond x [] (flushed r ++ f ∷ []) ++ tidy_from (cond x (absorb r f) (calm (is_tentative (kind f)))) fs
    go true = refl
    go false = sym (append_snoc (flushed r) f (tidy_from (calm (is_tentative (kind f))) fs))

-- the sum grows by the entry's length at most
absorb-sum : (r : RunSoFar) (e : Entry) → sum_of (absorb r e) ≡ sum_of r + blocks e
absorb-sum (calm p) e = omega arith
absorb-sum (within f t p) e = refl

pub next-sum : (r : RunSoFar) (e : Entry) → sum_of (after r e) ≤ sum_of r + blocks e
next-sum r e = go (is_area e)
  where
    go : (x : Bool) → sum_of (cond x (absorb r e) (calm (is_tentative (kind e)))) ≤ sum_of r + blocks e
    go true = omega (arith, absorb-sum r e)
    go false = omega arith
