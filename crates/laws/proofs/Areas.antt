-- The areas of a directory. Each stands in a segment in use, with the entries before it and after it: they give its place, its first
-- block and its cost. Every empty entry is such an area. What the choice finds is one of them, long enough and eligible.
use Prim.Native.Nat.{ℕ, ◌+◌, ◌≤◌}
use mathlib.Core.Path.{◌≡◌, refl, sym, ap, subst}
use mathlib.Core.Bool.{Bool, true, false, cond, ◌&&◌, or-true}
use mathlib.Core.List.{List, [], ◌∷◌, ◌++◌}
use mathlib.Core.Option.{some, none-ne-some}
use native.Mathlib.Nat.{add-zero}
use native.Mathlib.Omega.{arith}
use lib.ListN.{length}
use lib.Dec.{leb}
use borrow.Author.Tests.{leb-true}
use Rattle.meaning.specs.declared.Kind.TheVariants.{Empty}
use Rattle.meaning.specs.Kinds.{is_tentative}
use Rattle.meaning.specs.Words.{segment, first_of, Entry, kind, blocks, entries, total}
use Rattle.meaning.specs.Sound.{any}
use Rattle.meaning.specs.Enter.{is_area, Area, cost_after, has_room, areas_in, areas, eligibles, first_fit}
use Rattle.walks.specs.Lists.{All}
use Rattle.walks.proofs.Alls.{all_map, all_append}
use Rattle.rules.proofs.Fine.{flag}
use Rattle.walks.proofs.Told.{empty-kind}
use Rattle.walks.proofs.Linked.{Used}

-- an area among entries that stand after k others, from block b on, after a tentative one if p says so
pub record Stands (room : ℕ → Bool) (k b : ℕ) (p : Bool) (es : List Entry) (a : Area) : Type 0 where
  pub before : List Entry
  pub here : Entry
  pub after : List Entry
  pub are : es ≡ before ++ here ∷ after
  pub empty : kind here ≡ Empty
  pub place : a.before ≡ k + length before
  pub first : a.first ≡ b + total before
  pub size : a.size ≡ blocks here
  pub cost : a.cost ≡ cost_after (flag p before)
  pub choice : a.eligible ≡ leb 1 (blocks here) && room (cost_after (flag p before))

module _ (room : ℕ → Bool) (s : ℕ) where
  abbrev StandsIn : ℕ → ℕ → Bool → List Entry → Area → Type 0
  StandsIn k b p es a = (a.seg ≡ s) × Stands room k b p es a

  -- with one entry more before them
  later : (k b : ℕ) (p : Bool) (e : Entry) (es : List Entry) (a : Area)
      → StandsIn (k + 1) (b + blocks e) (is_tentative (kind e)) es a → StandsIn k b p (e ∷ es) a
  unfolding total
  later k b p e es a (q, x) = (
    q,
    record {
      before = e ∷ x.before;
      here = x.here;
      after = x.after;
      are = ap {B = List Entry} (λ l. e ∷ l) x.are;
      empty = x.empty;
      place = omega (arith, x.place);
      first = omega (arith, x.first);
      size = x.size;
      cost = x.cost;
      choice = x.choice;
    },
  )

  stands_in : (k b : ℕ) (p : Bool) (es : List Entry) → All (StandsIn k b p es) (areas_in room s k b p es)
  unfolding areas_in total
  stands_in k b p [] = tt
  stands_in k b p (e ∷ es) =
      go (is_area e) refl
      (all_map (StandsIn (k + 1) (b + blocks e) (is_tentative (kind e)) es) (StandsIn k b p (e ∷ es)) (later k b p e es)
      (areas_in room s (k + 1) (b + blocks e) (is_tentative (kind e)) es)
      (stands_in (k + 1) (b + blocks e) (is_tentative (kind e)) es))
    where
      r : List Area
      r = areas_in room s (k + 1) (b + blocks e) (is_tentative (kind e)) es

      a : Area
      a = record { seg = s; before = k; first = b; size = blocks e; cost = cost_after p; eligible = leb 1 (blocks e) && room (cost_after p) }

      go : (x : Bool) → is_area e ≡ x → All (StandsIn k b p (e ∷ es)) r → All (StandsIn k b p (e ∷ es)) (cond x (a ∷ r) r)
      go true x i = (
        (
          refl,
          record {
            before = [];
            here = e;
            after = es;
            are = refl;
            empty = empty-kind (kind e) x;
            place = sym (add-zero k);
            first = sym (add-zero b);
            size = refl;
            cost = refl;
            choice = refl;
          },
        ),
        i,
      )
      go false x i = i

  -- each empty entry is found, by a test of an area's length and whether it is eligible
  pub area_there : (t : ℕ → Bool → Bool) (k b : ℕ) (p : Bool) (xs : List Entry) (e : Entry) (ys : List Entry) → is_area e ≡ true
      → t (blocks e) (leb 1 (blocks e) && room (cost_after (flag p xs))) ≡ true
      → any (λ a. t a.size a.eligible) (areas_in room s k b p (xs ++ e ∷ ys)) ≡ true
  unfolding areas_in any
  area_there t k b p [] e ys h g = rw (h, g)
  area_there t k b p (x ∷ xs) e ys h g =
      go (is_area x) (area_there t (k + 1) (b + blocks x) (is_tentative (kind x)) xs e ys h g)
    where
      r : List Area
      r = areas_in room s (k + 1) (b + blocks x) (is_tentative (kind x)) (xs ++ e ∷ ys)

      a : Area
      a = record { seg = s; before = k; first = b; size = blocks x; cost = cost_after p; eligible = leb 1 (blocks x) && room (cost_after p) }

      go : (z : Bool) → any (λ a. t a.size a.eligible) r ≡ true → any (λ a. t a.size a.eligible) (cond z (a ∷ r) r) ≡ true
      go true i = rw i (or-true (t a.size a.eligible))
      go false i = i

-- an area of the directory t
abbrev pub RoomIn : List ℕ → ℕ → ℕ → Bool
RoomIn t s = has_room t (entries t s)

pub record Stood (t : List ℕ) (a : Area) : Type 0 where
  pub used : Used t a.seg
  pub stands : Stands (RoomIn t a.seg) 0 (first_of (segment t a.seg)) false (entries t a.seg) a

pub areas-stood : (t ss : List ℕ) → All (Used t) ss → All (Stood t) (areas t ss)
unfolding areas
areas-stood t [] u = tt
areas-stood t (s ∷ ss) u =
    all_append (Stood t) (areas_in (RoomIn t s) s 0 (first_of (segment t s)) false (entries t s)) (areas t ss)
    (all_map (StandsIn (RoomIn t s) s 0 (first_of (segment t s)) false (entries t s)) (Stood t) here
    (areas_in (RoomIn t s) s 0 (first_of (segment t s)) false (entries t s))
    (stands_in (RoomIn t s) s 0 (first_of (segment t s)) false (entries t s)))
    (areas-stood t ss u.1)
  where
    here : (a : Area) → StandsIn (RoomIn t s) s 0 (first_of (segment t s)) false (entries t s) a → Stood t a
    here a (q, x) =
        record {
          used = subst (Used t) (sym q) u.0;
          stands = subst (λ (z : ℕ). Stands (RoomIn t z) 0 (first_of (segment t z)) false (entries t z) a) (sym q) x;
        }

-- what passes the choice
record Eligible (P : Area → Type 0) (a : Area) : Type 0 where
  pub is : P a
  pub eligible : a.eligible ≡ true

all-eligible : (P : Area → Type 0) (xs : List Area) → All P xs → All (Eligible P) (eligibles xs)
unfolding eligibles
all-eligible P [] x = tt
all-eligible P (a ∷ xs) x = go a.eligible refl (all-eligible P xs x.1)
  where
    go : (b : Bool) → a.eligible ≡ b → All (Eligible P) (eligibles xs) → All (Eligible P) (cond b (a ∷ eligibles xs) (eligibles xs))
    go true e i = (record { is = x.0; eligible = e }, i)
    go false e i = i

first-fit : (P : Area → Type 0) (n : ℕ) (xs : List Area) (a : Area) → All P xs → first_fit n xs ≡ some a → P a × (n ≤ a.size)
unfolding first_fit
first-fit P n [] a x h = absurd (none-ne-some a h)
first-fit P n (y ∷ xs) a x h = go (leb n y.size) refl (first-fit P n xs a x.1) h
  where
    go : (b : Bool) → leb n y.size ≡ b → (first_fit n xs ≡ some a → P a × (n ≤ a.size)) → cond b (some y) (first_fit n xs) ≡ some a
        → P a × (n ≤ a.size)
    go true e i h =
        let z : y ≡ a = cc in
        (subst P z x.0, subst (λ (t : Area). n ≤ t.size) z (leb-true n y.size e))
    go false e i h = i h

-- the area that is chosen
pub record Chosen (t : List ℕ) (n : ℕ) (a : Area) : Type 0 where
  pub stood : Stood t a
  pub eligible : a.eligible ≡ true
  pub enough : n ≤ a.size

pub chosen : (t ss : List ℕ) → All (Used t) ss → (n : ℕ) (a : Area) → first_fit n (eligibles (areas t ss)) ≡ some a → Chosen t n a
chosen t ss u n a h =
    let r = first-fit (Eligible (Stood t)) n (eligibles (areas t ss)) a (all-eligible (Stood t) (areas t ss) (areas-stood t ss u)) h in
    record { stood = r.0.is; eligible = r.0.eligible; enough = r.1 }
