-- The tidy makes the entries fewer exactly where the meaning calls them untidy, and keeps them where it does not. Joining keeps entries
-- without a run longer than one, and makes one fewer of any such run; then dropping keeps those without a zero sum, and takes one away
-- for each. So a machine may count the entries that come out, and a walk may look for a run or a zero instead.
use Prim.Native.Nat.{suc, ◌+◌, ◌≤◌, ◌<◌}
use native.Mathlib.Omega.{arith}
use mathlib.Core.Path.{◌≡◌, refl, ap}
use mathlib.Core.Logic.{⊎_elim}
use mathlib.Core.Bool.{Bool, true, false, cond, ◌&&◌, not, false≢true}
use mathlib.Core.List.{List, [], ◌∷◌}
use lib.ListN.{length, set}
use lib.Dec.{eqb}
use borrow.Author.Tests.{eqb-true, eq-eqb}
use Rattle.bools.proofs.Bools.{both, either, neither, never}
use Rattle.meaning.specs.Kinds.{is_tentative}
use Rattle.meaning.specs.Words.{Entry, length_word, kind, blocks}
use Rattle.meaning.specs.Sound.{begins_empty}
use Rattle.meaning.specs.Enter.{is_area, join_to, joined, drop_zero, tidy, has_run, has_zero, untidy}
use Rattle.walks.proofs.Tidied.{kind-set}

-- neither step makes entries more
join-at-most : (e : Entry) (l : List Entry) → length (join_to e l) ≤ suc (length l)
join-at-most e [] = omega arith
join-at-most e (f ∷ fs) = go (is_area e && is_area f)
  where
    go : (x : Bool) → length (cond x (set e length_word (blocks e + blocks f) ∷ fs) (e ∷ f ∷ fs)) ≤ suc (suc (length fs))
    go true = omega arith
    go false = omega arith

joined-at-most : (es : List Entry) → length (joined es) ≤ length es
unfolding joined
joined-at-most [] = omega arith
joined-at-most (e ∷ es) = omega (arith, join-at-most e (joined es), joined-at-most es)

drop-at-most : (p : Bool) (es : List Entry) → length (drop_zero p es) ≤ length es
unfolding drop_zero
drop-at-most p [] = omega arith
drop-at-most p (e ∷ es) = go (is_area e && eqb (blocks e) 0 && not p) (drop-at-most (is_tentative (kind e)) es)
  where
    go : (x : Bool) → length (drop_zero (is_tentative (kind e)) es) ≤ length es
        → length (cond x (drop_zero (is_tentative (kind e)) es) (e ∷ drop_zero (is_tentative (kind e)) es)) ≤ suc (length es)
    go true i = omega arith
    go false i = omega arith

-- without a run longer than one, joining keeps the entries
join_apart : (e : Entry) (es : List Entry) → is_area e && begins_empty es ≡ false → join_to e es ≡ e ∷ es
unfolding begins_empty
join_apart e [] h = refl
join_apart e (f ∷ fs) h = rw h

run_none : (es : List Entry) → has_run es ≡ false → joined es ≡ es
unfolding has_run joined
run_none [] h = refl
run_none (e ∷ es) h =
    let n = neither (is_area e && begins_empty es) (has_run es) h in
    rw (run_none es n.1) (join_apart e es n.0)

-- with one, it makes them fewer
join-begins : (f : Entry) (l : List Entry) → is_area f ≡ true → begins_empty (join_to f l) ≡ true
unfolding begins_empty
join-begins f [] h = h
join-begins f (g ∷ gs) h = go (is_area f && is_area g)
  where
    go : (x : Bool) → begins_empty (cond x (set f length_word (blocks f + blocks g) ∷ gs) (f ∷ g ∷ gs)) ≡ true
    go true = rw kind-set h
    go false = h

joined-begins : (es : List Entry) → begins_empty es ≡ true → begins_empty (joined es) ≡ true
unfolding joined begins_empty
joined-begins [] h = absurd (false≢true h)
joined-begins (f ∷ fs) h = join-begins f (joined fs) h

join-length : (e : Entry) (l : List Entry) → is_area e ≡ true → begins_empty l ≡ true → length (join_to e l) ≡ length l
unfolding begins_empty
join-length e [] a h = absurd (false≢true h)
join-length e (f ∷ fs) a h = rw (a, h)

run-fewer : (es : List Entry) → has_run es ≡ true → length (joined es) < length es
unfolding has_run joined
run-fewer [] h = absurd (false≢true h)
run-fewer (e ∷ es) h =
    ⊎_elim
    (λ x.
    let b = both (is_area e) (begins_empty es) x in
    omega (arith, join-length e (joined es) b.0 (joined-begins es b.1), joined-at-most es))
    (λ x. omega (arith, join-at-most e (joined es), run-fewer es x))
    (either (is_area e && begins_empty es) (has_run es) h)

-- the same of dropping
zero-none : (p : Bool) (es : List Entry) → has_zero p es ≡ false → drop_zero p es ≡ es
unfolding has_zero drop_zero
zero-none p [] h = refl
zero-none p (e ∷ es) h =
    let n = neither (is_area e && eqb (blocks e) 0 && not p) (has_zero (is_tentative (kind e)) es) h in
    rw (n.0, zero-none (is_tentative (kind e)) es n.1)

zero-fewer : (p : Bool) (es : List Entry) → has_zero p es ≡ true → length (drop_zero p es) < length es
unfolding has_zero drop_zero
zero-fewer p [] h = absurd (false≢true h)
zero-fewer p (e ∷ es) h = go (is_area e && eqb (blocks e) 0 && not p) refl (zero-fewer (is_tentative (kind e)) es)
  where
    go : (x : Bool) → is_area e && eqb (blocks e) 0 && not p ≡ x
        → (has_zero (is_tentative (kind e)) es ≡ true → length (drop_zero (is_tentative (kind e)) es) < length es)
        → length (cond x (drop_zero (is_tentative (kind e)) es) (e ∷ drop_zero (is_tentative (kind e)) es)) < suc (length es)
    go true q i = omega (arith, drop-at-most (is_tentative (kind e)) es)
    go false q i =
        let r : has_zero (is_tentative (kind e)) es ≡ true = rw q at h in
        omega (arith, i r)

pub tidy-none : (es : List Entry) → untidy es ≡ false → tidy es ≡ es
unfolding untidy tidy
tidy-none es h =
    let n = neither (has_run es) (has_zero false es) h in
    rw (run_none es n.0) (zero-none false es n.1)

pub tidy-fewer : (es : List Entry) → untidy es ≡ true → length (tidy es) < length es
unfolding untidy tidy
tidy-fewer es h = go (has_run es) refl
  where
    go : (x : Bool) → has_run es ≡ x → length (drop_zero false (joined es)) < length es
    go true q = omega (arith, run-fewer es q, drop-at-most false (joined es))
    go false q =
        let z : has_zero false es ≡ true = rw q at h in
        rw (run_none es q) (zero-fewer false es z)

-- entries are untidy exactly where the tidy makes them fewer
pub untidy-counted : (es : List Entry) → eqb (length (tidy es)) (length es) ≡ not (untidy es)
untidy-counted es = go (untidy es) refl
  where
    go : (x : Bool) → untidy es ≡ x → eqb (length (tidy es)) (length es) ≡ not x
    go true q =
        never (eqb (length (tidy es)) (length es))
        (λ e. let k = eqb-true (length (tidy es)) (length es) e in absurd (omega (arith, tidy-fewer es q)))
    go false q = eq-eqb (length (tidy es)) (length es) (ap length (tidy-none es q))
