-- Demand 2, *Room* of enter. The areas that enter tests are those of the tidied directory, segment by segment the tidied entries; there
-- each area with a length above 0 is a run of the directory as it was, and the other way round, with the same cost. So the tests for 11
-- and 12 say just that there is a run that is long enough, and one for which a slot can be had.
use Prim.Native.Nat.{ℕ, zero, suc, ◌+◌, ◌≤◌, ◌<◌}
use mathlib.Core.Path.{◌≡◌, refl, sym, ◌∙◌, subst}
use mathlib.Core.Logic.{◌⊎◌, inl, inr, ⊎_elim}
use mathlib.Core.Bool.{Bool, true, false, cond, ◌&&◌, ◌||◌, false≢true, or-true}
use mathlib.Core.List.{List, [], ◌∷◌, ◌++◌}
use native.Mathlib.Nat.{le_of_suc-le-suc, not-suc-le-zero}
use native.Mathlib.Omega.{arith}
use lib.IntN.{ℤ, pos, negsuc}
use lib.ListN.{length, take}
use lib.Dec.{eqb, leb, ltb}
use borrow.Author.Tests.{leb-true, le-leb, ltb-true, lt-ltb, eqb-false}
use Rattle.bools.proofs.Bools.{both, either}
use Rattle.meaning.specs.declared.Name.{Name}
use Rattle.meaning.specs.Words.{segments, segment, link_of, first_of, highest, slot_words, capacity, Entry, entries, chain_from, reached, chain}
use Rattle.meaning.specs.Sound.{any, fault}
use Rattle.meaning.specs.Answers.{Outcome, refuse, success}
use Rattle.meaning.specs.Enter.{longest, default, wrong, exact, size_of, at_least, tidy, Area, cost_after, has_room, areas_in, areas}
use Rattle.meaning.specs.Enter.{eligibles, long_enough, enter}
use Rattle.walks.proofs.Lists.{chain_length, chain-at}
use Rattle.walks.specs.Lists.{All}
use Rattle.rules.specs.Sound.{visit}
use Rattle.laws.specs.Refusals.{before_room}
use Rattle.laws.specs.Room.{Run, joined_length, LongRun, Takes, SlottedRun, Room}
use Rattle.walks.proofs.Alls.{all-at}
use Rattle.laws.proofs.Refusals.{not_among}
use Rattle.rules.proofs.Soundness.{Sound, sound}
use Rattle.rules.proofs.Fine.{flag}
use Rattle.walks.proofs.Flat.{Wide}
use Rattle.walks.proofs.Linked.{Used, chain-used}
use Rattle.laws.proofs.Anew.{visited}
use Rattle.laws.proofs.Rewritten.{used-body}
use Rattle.laws.proofs.TidiedSound.{Tidied, Alike, tidied-is}
use Rattle.laws.proofs.Areas.{area_there, RoomIn, Stood, areas-stood}
use Rattle.laws.proofs.Runs.{AreaIn, run_area, area-run}
use Rattle.laws.proofs.RunPlaces.{run-piece, PlacedRun, piece-run, takes-cost, cost_takes}
use Rattle.laws.proofs.Entering.{tidied_of, areas_of, eligibles_of, Entering, early, short, crowded, taken, entering}

-- some area of a list passes a test
pub any_append : {A : Type 0} (q : A → Bool) (xs ys : List A) → any q (xs ++ ys) ≡ any q xs || any q ys
unfolding any
any_append q [] ys = refl
any_append q (x ∷ xs) ys = rw (any_append q xs ys) (go (q x))
  where
    go : (z : Bool) → z || (any q xs || any q ys) ≡ (z || any q xs) || any q ys
    go true = refl
    go false = refl

any_some : {A : Type 0} (q : A → Bool) (P : A → Type 0) (xs : List A) → All P xs → any q xs ≡ true → (a : A) × P a × (q a ≡ true)
unfolding any
any_some q P [] p h = absurd (false≢true h)
any_some q P (x ∷ xs) p h = ⊎_elim (λ t. (x, p.0, t)) (λ r. any_some q P xs p.1 r) (either (q x) (any q xs) h)

-- the eligible among areas that are long enough
eligible-any : (m : ℕ) (xs : List Area) → long_enough m (eligibles xs) ≡ any (λ a. a.eligible && leb m a.size) xs
unfolding long_enough any eligibles
eligible-any m [] = refl
eligible-any m (x ∷ xs) = go x.eligible (eligible-any m xs)
  where
    go : (z : Bool) → long_enough m (eligibles xs) ≡ any (λ a. a.eligible && leb m a.size) xs
        → long_enough m (cond z (x ∷ eligibles xs) (eligibles xs)) ≡ (z && leb m x.size) || any (λ a. a.eligible && leb m a.size) xs
    go true i = rw i
    go false i = i

-- a visited segment is in use
used-visit : (v : ℕ) (d : List ℕ) → Sound v d → (i : ℕ) → i < highest d → Used d (visit d i)
unfolding chain
used-visit v d sd i l =
    let n = chain_length (highest d) d 1 in
    subst (Used d) (chain-at (highest d) d 1 i l) (all-at (Used d) (chain d) (chain-used d sd.links) i (omega arith) 0)

-- the areas of one segment of t are among all
abbrev areas_at : List ℕ → ℕ → List Area
areas_at t s = areas_in (RoomIn t s) s 0 (first_of (segment t s)) false (entries t s)

areas-at : (q : Area → Bool) (t d : List ℕ) (n s i : ℕ) → i < n → any q (areas_at t (reached i d s)) ≡ true
    → any q (areas t (chain_from n d s)) ≡ true
unfolding areas chain_from reached
areas-at q t d zero s i l h = absurd (not-suc-le-zero l)
areas-at q t d (suc n) s zero l h = any_append q (areas_at t s) (areas t (chain_from n d (link_of (segment d s)))) ∙ (rw h)
areas-at q t d (suc n) s (suc i) l h =
    any_append q (areas_at t s) (areas t (chain_from n d (link_of (segment d s))))
    ∙ (rw (areas-at q t d n (link_of (segment d s)) i (le_of_suc-le-suc l) h) (or-true (any q (areas_at t s))))

module _ (v : ℕ) (d : List ℕ) (sd : Sound v d) where
  abbrev t : List ℕ
  t = tidied_of d

  ti : Tidied v d t
  ti = tidied-is v d sd

  al : Alike v d t
  al = ti.alike

  capacity-same : capacity t ≡ capacity d
  unfolding capacity
  capacity-same = rw al.extra

  wide_at : (s : ℕ) → Used d s → Wide (slot_words d) (entries d s)
  wide_at s u = (used-body v d sd s u.0 u.1).wide

  -- what there is room for, by the entries of d
  room_of : (s : ℕ) → Used d s → (c : ℕ)
      → has_room t (entries t s) c ≡ leb (length (tidy (entries d s)) + c) (capacity d) || ltb (highest d) (segments d)
  unfolding has_room
  room_of s u c = rw (ti.entries s u, capacity-same, al.highest, al.size)

  -- from runs to areas
  run-there : (q : ℕ → Bool → Bool) (i : ℕ) → i < highest d → (k n : ℕ) → Run (entries d (visit d i)) k n
      → 1 ≤ joined_length (entries d (visit d i)) k n
      → q (joined_length (entries d (visit d i)) k n)
      (has_room t (entries t (visit d i)) (cost_after (flag false (take k (entries d (visit d i)))))) ≡ true
      → any (λ a. q a.size a.eligible) (areas_of d) ≡ true
  unfolding chain
  run-there q i l k n r m h =
      areas-at (λ a. q a.size a.eligible) t d (highest d) 1 i l
      (subst (λ (l : List Entry). any (λ a. q a.size a.eligible) (areas_in (RoomIn t s) s 0 (first_of (segment t s)) false l) ≡ true)
      (sym (ti.entries s u ∙ x.are))
      (area_there (RoomIn t s) s q 0 (first_of (segment t s)) false x.before x.here x.after x.area
      (rw (x.size, x.flag, le-leb 1 (joined_length es k n) m) h)))
    where
      s : ℕ
      s = visit d i

      es : List Entry
      es = entries d (visit d i)

      u : Used d (visit d i)
      u = used-visit v d sd i l

      x : AreaIn (tidy (entries d (visit d i))) (joined_length (entries d (visit d i)) k n) (flag false (take k (entries d (visit d i))))
      x = run_area (slot_words d) (omega arith) es (wide_at s u) (joined_length es k n) (flag false (take k es)) (run-piece es k n r) m

  long-there : (m : ℕ) → 1 ≤ m → LongRun d m → long_enough m (areas_of d) ≡ true
  unfolding long_enough
  long-there m l r =
      run-there (λ n z. leb m n) r.at r.used r.start r.count r.run (omega (arith, r.long))
      (le-leb m (joined_length (entries d (visit d r.at)) r.start r.count) r.long)

  slotted_there : (m : ℕ) → 1 ≤ m → SlottedRun d m → long_enough m (eligibles_of d) ≡ true
  slotted_there m l x =
      eligible-any m (areas_of d)
      ∙ run-there (λ n z. z && leb m n) r.at r.used r.start r.count r.run (omega (arith, r.long))
      (rw (room, le-leb m (joined_length es r.start r.count) r.long))
    where
      r : LongRun d m
      r = x.found

      es : List Entry
      es = entries d (visit d x.found.at)

      cost : x.slots ≡ cost_after (flag false (take x.found.start es))
      cost = cost_takes es r.start (omega (arith, r.run.within)) x.slots x.takes

      had : (length (tidy es) + x.slots ≤ capacity d) ⊎ (highest d < segments d)
          → leb (length (tidy es) + x.slots) (capacity d) || ltb (highest d) (segments d) ≡ true
      had (inl h) = rw (le-leb (length (tidy es) + x.slots) (capacity d) h)
      had (inr h) = rw (lt-ltb (highest d) (segments d) h) (or-true (leb (length (tidy es) + x.slots) (capacity d)))

      room : has_room t (entries t (visit d x.found.at)) (cost_after (flag false (take x.found.start es))) ≡ true
      room =
          room_of (visit d r.at) (used-visit v d sd r.at r.used) (cost_after (flag false (take r.start es)))
          ∙ (rw (← cost) (had x.had))

  -- from areas to runs
  record FoundRun (a : Area) : Type 0 where
    at : ℕ
    used : at < highest d
    behind : Bool
    run : PlacedRun (entries d (visit d at)) a.size behind
    choice : a.eligible ≡ leb 1 a.size && has_room t (entries t (visit d at)) (cost_after behind)

  found_run : (a : Area) → Stood t a → FoundRun a
  found_run a x =
      let o = visited v d sd a.seg u.0 u.1 in
      let y = x.stands in
      let p = flag false y.before in
      let s = y.size in
      record {
        at = o.at;
        used = o.within;
        behind = p;
        run =
            subst (λ (z : ℕ). PlacedRun (entries d z) a.size p) (sym o.there)
            (piece-run (entries d a.seg) a.size p
            (area-run (slot_words d) (omega arith) (entries d a.seg) (wide_at a.seg u) a.size p
            (record {
              before = y.before;
              here = y.here;
              after = y.after;
              are = sym (ti.entries a.seg u) ∙ y.are;
              area = rw y.empty;
              size = sym s;
              flag = refl;
            })));
        choice =
            subst (λ (z : ℕ). a.eligible ≡ leb 1 a.size && has_room t (entries t z) (cost_after p)) (sym o.there)
            (y.choice ∙ (rw s));
      }
    where
      u : Used d a.seg
      u = (x.used.0, rw al.highest at x.used.1)

  stood_all : All (Stood t) (areas_of d)
  stood_all = areas-stood t (chain d) (subst (All (Used t)) al.chain (chain-used t al.sound.links))

  long_run : (m : ℕ) (a : Area) → FoundRun a → m ≤ a.size → LongRun d m
  long_run m a f l =
      record {
        at = f.at;
        used = f.used;
        start = f.run.start;
        count = f.run.count;
        run = f.run.run;
        long = omega (arith, f.run.sum);
      }

  slotted_run : (m : ℕ) (a : Area) → FoundRun a → m ≤ a.size → a.eligible ≡ true → SlottedRun d m
  unfolding long_run
  slotted_run m a f l e =
      record {
        found = long_run m a f l;
        slots = cost_after f.behind;
        takes =
            subst (λ (p : Bool). Takes es f.run.start (cost_after p)) f.run.flag
            (takes-cost es f.run.start (omega (arith, f.run.run.within)));
        had = had (either (leb (length (tidy es) + cost_after f.behind) (capacity d)) (ltb (highest d) (segments d)) room);
      }
    where
      es : List Entry
      es = entries d (visit d f.at)

      room : leb (length (tidy es) + cost_after f.behind) (capacity d) || ltb (highest d) (segments d) ≡ true
      room =
          sym (room_of (visit d f.at) (used-visit v d sd f.at f.used) (cost_after f.behind))
          ∙ (both (leb 1 a.size) (has_room t (entries t (visit d f.at)) (cost_after f.behind)) (sym f.choice ∙ e)).1

      had : (leb (length (tidy es) + cost_after f.behind) (capacity d) ≡ true) ⊎ (ltb (highest d) (segments d) ≡ true)
          → (length (tidy es) + cost_after f.behind ≤ capacity d) ⊎ (highest d < segments d)
      had (inl h) = inl (leb-true (length (tidy es) + cost_after f.behind) (capacity d) h)
      had (inr h) = inr (ltb-true (highest d) (segments d) h)

  there_long : (m : ℕ) → long_enough m (areas_of d) ≡ true → LongRun d m
  unfolding long_enough
  there_long m h =
      let x = any_some (λ (a : Area). leb m a.size) (Stood t) (areas_of d) stood_all h in
      long_run m x.0 (found_run x.0 x.1) (leb-true m x.0.size x.2)

  there_slotted : (m : ℕ) → long_enough m (eligibles_of d) ≡ true → SlottedRun d m
  there_slotted m h =
      let x =
      any_some (λ (a : Area). a.eligible && leb m a.size) (Stood t) (areas_of d) stood_all (sym (eligible-any m (areas_of d)) ∙ h) in
      let b = both x.0.eligible (leb m x.0.size) x.2 in
      slotted_run m x.0 (found_run x.0 x.1) (leb-true m x.0.size b.1) b.0

-- what is asked for is at least 1
at_least_one : (asked : ℤ) → 1 ≤ at_least (size_of asked)
unfolding size_of at_least
at_least_one (pos n) = go (eqb n 0) refl (leb n 65535)
  where
    some : (k : ℕ) → (k ≡ 0 → ⊥) → 1 ≤ k
    some zero ne = absurd (ne refl)
    some (suc k) ne = omega arith

    go : (x : Bool) → eqb n 0 ≡ x → (y : Bool) → 1 ≤ at_least (cond x default (cond y (exact n) wrong))
    go true e y = omega arith
    go false e true = some n (eqb-false n 0 e)
    go false e false = omega arith
at_least_one (negsuc n) = go (eqb n 0)
  where
    go : (x : Bool) → 1 ≤ at_least (cond x longest wrong)
    go true = omega arith
    go false = omega arith

module _ (v : ℕ) (d : List ℕ) (h : fault v d ≡ 0) (name : Name) (asked : ℤ) (job channel date : ℕ) where
  abbrev m : ℕ
  m = at_least (size_of asked)

  sd : Sound v d
  sd = sound v d h

  one : 1 ≤ m
  one = at_least_one asked

  room_of_outcome : (o : Outcome) → Entering d name asked job channel date o → Room d m o
  unfolding refuse success
  room_of_outcome o (early k a q) =
      subst (Room d m) (sym q)
      (record {
        eleven = λ e. absurd (not_among 11 k before_room refl a e);
        twelve = λ e. absurd (not_among 12 k before_room refl a e);
        success = λ e. absurd (not_among 0 k before_room refl a e);
        only = inr (inr (inr a));
      })
  room_of_outcome o (short s q) =
      subst (Room d m) (sym q)
      (record {
        eleven = λ e r. false≢true (sym s ∙ long-there v d sd m one r);
        twelve = λ e. absurd (omega arith);
        success = λ e. absurd (omega arith);
        only = inr (inl refl);
      })
  room_of_outcome o (crowded s s' q) =
      subst (Room d m) (sym q)
      (record {
        eleven = λ e. absurd (omega arith);
        twelve = λ e. (there_long v d sd m s, λ r. false≢true (sym s' ∙ slotted_there v d sd m one r));
        success = λ e. absurd (omega arith);
        only = inr (inr (inl refl));
      })
  room_of_outcome o (taken p legal none_open s fit q) =
      subst (Room d m) (sym q)
      (record {
        eleven = λ e. absurd (omega arith);
        twelve = λ e. absurd (omega arith);
        success = λ e. there_slotted v d sd m s;
        only = inl refl;
      })

  pub room : Room d (at_least (size_of asked)) (enter v d name asked job channel date)
  room = room_of_outcome (enter v d name asked job channel date) (entering d name asked job channel date v h)
