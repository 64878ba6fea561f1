-- Enter's tidy as a machine does it. By induction on the entries that are left, the machine makes of them what dropping zeros makes
-- of them joined, with the open run joined on before: an empty entry joins the run, any other ends it. Entries must have a length
-- word, as those of a segment in the directory have; what comes out has one too, the same total, and no more entries.
use Prim.Native.Nat.{ℕ, ◌+◌, ◌*◌, ◌≤◌, ◌<◌}
use native.Mathlib.Nat.{add_assoc}
use native.Mathlib.Omega.{arith}
use mathlib.Core.Path.{◌≡◌, refl, ap, ◌∙◌}
use mathlib.Core.Bool.{Bool, true, false, cond, ◌&&◌, not}
use mathlib.Core.List.{List, [], ◌∷◌, ◌++◌}
use lib.ListN.{length, set, length-set}
use lib.Seq.{get_or-set_same, get_or-set_other, set-get_or, set-set}
use lib.Dec.{eqb}
use borrow.Author.Tests.{eqb-true}
use Rattle.bools.proofs.Bools.{both}
use Rattle.meaning.specs.Kinds.{is_tentative}
use Rattle.meaning.specs.Words.{Entry, length_word, kind, blocks, slot_words, segment, slots, upto, entries, total}
use Rattle.meaning.specs.Enter.{is_area, join_to, joined, drop_zero, tidy}
use Rattle.walks.proofs.Words.{segment-length}
use Rattle.walks.proofs.Flat.{Wide, proper_wide, entries_proper}
use Rattle.walks.specs.Runs.{RunSoFar, calm, within, absorb, flushed, tidy_from, Long}

-- an entry whose length is set
pub kind-set : (e : Entry) (n : ℕ) → kind (set e length_word n) ≡ kind e
kind-set e n = rw (get_or-set_other e length_word 0 n 0 (λ q. omega arith))

pub blocks-set : (e : Entry) (n : ℕ) → length_word < length e → blocks (set e length_word n) ≡ n
blocks-set e n l = get_or-set_same e length_word n 0 l

-- the entry of an open run is empty and long
abbrev pub Open : RunSoFar → Type 0
Open (calm p) = Unit
Open (within e t p) = (is_area e ≡ true) × (length_word < length e)

-- what is to come out of a run and of joined entries after it
meant : RunSoFar → List Entry → List Entry
meant (calm p) l = drop_zero p l
meant (within e t p) l = drop_zero p (join_to (set e length_word t) l)

join_other : (f : Entry) (l : List Entry) → is_area f ≡ false → join_to f l ≡ f ∷ l
join_other f [] h = refl
join_other f (g ∷ gs) h = rw h

-- an empty entry and its followers, joined to a run: the run with the entry's length joins the followers
join-run : (e f : Entry) (t : ℕ) (l : List Entry)
    → is_area e ≡ true
    → is_area f ≡ true
    → length_word < length e
    → length_word < length f
    → join_to (set e length_word t) (join_to f l) ≡ join_to (set e length_word (t + blocks f)) l
join-run e f t [] a b h k = simp (kind-set, a, b, blocks-set, set-set)
join-run e f t (g ∷ gs) a b h k = go (is_area g) refl
  where
    go : (x : Bool) → is_area g ≡ x
        → join_to (set e length_word t) (join_to f (g ∷ gs)) ≡ join_to (set e length_word (t + blocks f)) (g ∷ gs)
    go true q = simp (kind-set, a, b, q, blocks-set, set-set, add_assoc)
    go false q = simp (kind-set, a, b, q, blocks-set, set-set)

pub absorb_open : (r : RunSoFar) (f : Entry) → Open r → is_area f ≡ true → length_word < length f → Open (absorb r f)
absorb_open (calm p) f o a h = (a, h)
absorb_open (within e t p) f o a h = o

absorb_meant : (r : RunSoFar) (f : Entry) (l : List Entry) → Open r → is_area f ≡ true → length_word < length f
    → meant (absorb r f) l ≡ meant r (join_to f l)
unfolding meant
absorb_meant (calm p) f l o a h = rw set-get_or
absorb_meant (within e t p) f l o a h = rw (join-run e f t l o.0 a o.1 h)

-- a run ends where the entries do, or before an entry that is not empty
flush_end : (r : RunSoFar) → Open r → flushed r ≡ meant r []
unfolding meant drop_zero
flush_end (calm p) o = refl
flush_end (within e t p) o = let a = o.0 in let h = o.1 in simp (kind-set, a, blocks-set)

-- an entry that is kept or not, before others
kept-before : (x : Bool) (e : Entry) (l : List Entry) → cond x [] (e ∷ []) ++ l ≡ cond x l (e ∷ l)
kept-before true e l = refl
kept-before false e l = refl

flush_meant : (r : RunSoFar) (f : Entry) (l : List Entry) → Open r → is_area f ≡ false
    → flushed r ++ f ∷ drop_zero (is_tentative (kind f)) l ≡ meant r (f ∷ l)
unfolding meant drop_zero
flush_meant (calm p) f l o a = rw a
flush_meant (within e t p) f l o a =
    let b = o.0 in
    let h = o.1 in
    simp (kind-set, a, b, blocks-set) (kept-before (eqb t 0 && not p) (set e length_word t) (f ∷ drop_zero (is_tentative (kind f)) l))

tidy-run : (r : RunSoFar) (es : List Entry) → Open r → Long es → tidy_from r es ≡ meant r (joined es)
unfolding tidy_from joined meant
tidy-run r [] o h = flush_end r o
tidy-run r (f ∷ fs) o h = go (is_area f) refl (λ q i. tidy-run q fs i h.1)
  where
    go : (x : Bool) → is_area f ≡ x → ((q : RunSoFar) → Open q → tidy_from q fs ≡ meant q (joined fs))
        → tidy_from r (f ∷ fs) ≡ meant r (joined (f ∷ fs))
    go true a i = rw a (i (absorb r f) (absorb_open r f o a h.0) ∙ absorb_meant r f (joined fs) o a h.0)
    go false a i =
        rw (a, i (calm (is_tentative (kind f))) tt, join_other f (joined fs) a) (flush_meant r f (joined fs) o a)

pub tidy-from : (es : List Entry) → Long es → tidy_from (calm false) es ≡ tidy es
unfolding tidy meant
tidy-from es h = tidy-run (calm false) es tt h

-- what entries es keep as they become ts; if no entry is gone, they are as they were
pub record Kept (es ts : List Entry) : Type 0 where
  pub long : Long ts
  pub sum : total ts ≡ total es
  pub fewer : length ts ≤ length es
  pub same : length ts ≡ length es → ts ≡ es

cons-kept : {es ts : List Entry} (e : Entry) → length_word < length e → Kept es ts → Kept (e ∷ es) (e ∷ ts)
unfolding total
cons-kept e h k =
    record {
      long = (h, k.long);
      sum = rw k.sum;
      fewer = omega arith;
      same = λ q. ap (λ r. e ∷ r) (k.same (omega arith));
    }

join_kept : {es : List Entry} (e : Entry) (ts : List Entry) → length_word < length e → Kept es ts → Kept (e ∷ es) (join_to e ts)
unfolding total
join_kept e [] h k = cons-kept e h k
join_kept {es} e (f ∷ fs) h k = go (is_area e && is_area f)
  where
    go : (x : Bool) → Kept (e ∷ es) (cond x (set e length_word (blocks e + blocks f) ∷ fs) (e ∷ f ∷ fs))
    go true =
        record {
          long = (rw length-set h, k.long.1);
          sum = rw blocks-set (omega arith);
          fewer = omega arith;
          same = λ q. absurd (omega arith);
        }
    go false = cons-kept e h k

joined-kept : (es : List Entry) → Long es → Kept es (joined es)
unfolding joined total
joined-kept [] h = record { long = tt; sum = refl; fewer = omega arith; same = λ q. refl }
joined-kept (e ∷ es) h = join_kept e (joined es) h.0 (joined-kept es h.1)

drop-kept : (p : Bool) (es : List Entry) → Long es → Kept es (drop_zero p es)
unfolding drop_zero total
drop-kept p [] h = record { long = tt; sum = refl; fewer = omega arith; same = λ q. refl }
drop-kept p (e ∷ es) h = go (is_area e && eqb (blocks e) 0 && not p) refl (drop-kept (is_tentative (kind e)) es h.1)
  where
    go : (x : Bool) → is_area e && eqb (blocks e) 0 && not p ≡ x → Kept es (drop_zero (is_tentative (kind e)) es)
        → Kept (e ∷ es) (cond x (drop_zero (is_tentative (kind e)) es) (e ∷ drop_zero (is_tentative (kind e)) es))
    go true q k =
        let z = eqb-true (blocks e) 0 (both (is_area e) (eqb (blocks e) 0) (both (is_area e && eqb (blocks e) 0) (not p) q).0).1 in
        record { long = k.long; sum = omega arith; fewer = omega arith; same = λ s. absurd (omega arith) }
    go false q k = cons-kept e h.0 k

pub tidy-kept : (es : List Entry) → Long es → Kept es (tidy es)
unfolding tidy
tidy-kept es h =
    let j = joined-kept es h in
    let k = drop-kept false (joined es) j.long in
    record {
      long = k.long;
      sum = k.sum ∙ j.sum;
      fewer = omega arith;
      same = λ q. k.same (omega arith) ∙ j.same (omega arith);
    }

pub tidy-total : (es : List Entry) → Long es → total (tidy es) ≡ total es
tidy-total es h = (tidy-kept es h).sum

-- entries of w words are long enough, and so are those of a segment, and of one that lies in the directory
pub wide-long : (w : ℕ) → 7 ≤ w → (es : List Entry) → Wide w es → Long es
wide-long w h [] a = tt
wide-long w h (e ∷ es) a = (omega (arith, a.0), wide-long w h es a.1)

pub segment-long : (w : ℕ) (g : List ℕ) → 7 ≤ w → length g ≡ 512 → Long (upto (slots w g))
segment-long w g h k = wide-long w h (upto (slots w g)) (proper_wide w (upto (slots w g)) (entries_proper w g k))

pub entries-long : (d : List ℕ) (s : ℕ) → 1 ≤ s → 512 * s ≤ length d → Long (entries d s)
unfolding entries
entries-long d s a b = segment-long (slot_words d) (segment d s) (omega arith) (segment-length d s a b)
