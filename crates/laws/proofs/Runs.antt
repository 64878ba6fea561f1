-- Runs of neighbouring empty entries, and the areas that the tidy makes of them. Joining may be done apart on both sides of a place
-- where no two empty entries meet; a whole run joins to one area with its sum; and joined entries split only at such places. So each
-- run with a sum above 0 is one area of the tidied entries, as long, with a tentative entry before it if the run has one, and each such
-- area is a run.
use Prim.Native.Nat.{ℕ, ◌+◌, ◌≤◌}
use mathlib.Core.Path.{◌≡◌, refl, sym, ap, ◌∙◌, subst}
use mathlib.Core.Bool.{Bool, true, false, cond, ◌&&◌, not, false≢true, and-false}
use mathlib.Core.List.{List, [], ◌∷◌, ◌++◌}
use native.Mathlib.Nat.{add-zero}
use native.Mathlib.Omega.{arith}
use lib.ListN.{length, set}
use lib.Dec.{eqb}
use borrow.Author.Tests.{ne_eqb, not-true}
use Rattle.bools.proofs.Bools.{both}
use Rattle.meaning.specs.Kinds.{is_tentative}
use Rattle.meaning.specs.Words.{Entry, length_word, kind, blocks, total}
use Rattle.meaning.specs.Enter.{is_area, join_to, joined, drop_zero, tidy}
use Rattle.walks.specs.Lists.{All}
use Rattle.walks.proofs.Alls.{all_left, all_right_lem}
use Rattle.rules.proofs.Fine.{flag}
use Rattle.walks.proofs.Told.{empty-kind}
use Rattle.walks.proofs.Flat.{OfWords, Wide}
use Rattle.laws.proofs.Tidying.{resized, joined_tidier, drop_tidier}

-- entries that begin with an empty one; and that end with one, where p says it of the one before them
abbrev pub begins_area : List Entry → Bool
begins_area [] = false
begins_area (e ∷ es) = is_area e

abbrev pub ends_area : Bool → List Entry → Bool
ends_area p [] = p
ends_area p (e ∷ es) = ends_area (is_area e) es

abbrev pub IsArea : Entry → Type 0
IsArea e = is_area e ≡ true

-- a run, by what stands before it and after it
pub record Piece (es : List Entry) : Type 0 where
  pub before : List Entry
  pub run : List Entry
  pub after : List Entry
  pub are : es ≡ before ++ (run ++ after)
  pub areas : All IsArea run
  pub some : 1 ≤ length run
  pub calm_before : ends_area false before ≡ false
  pub calm_after : begins_area after ≡ false

-- an area among entries, of a length, after a tentative entry or not
pub record AreaIn (es : List Entry) (n : ℕ) (p : Bool) : Type 0 where
  pub before : List Entry
  pub here : Entry
  pub after : List Entry
  pub are : es ≡ before ++ here ∷ after
  pub area : is_area here ≡ true
  pub size : blocks here ≡ n
  pub flag : flag false before ≡ p

-- a run of a length, after a tentative entry or not
pub record RunOf (es : List Entry) (n : ℕ) (p : Bool) : Type 0 where
  pub piece : Piece es
  pub sum : total piece.run ≡ n
  pub flag : flag false piece.before ≡ p

-- one entry joined to others
join-none : (e : Entry) (ts : List Entry) → is_area e && begins_area ts ≡ false → join_to e ts ≡ e ∷ ts
join-none e [] h = refl
join-none e (f ∷ fs) h = rw h

join_both : (e f : Entry) (fs : List Entry) → is_area e && is_area f ≡ true → join_to e (f ∷ fs) ≡ set e length_word (blocks e + blocks f) ∷ fs
join_both e f fs h = rw h

join-append : (e f : Entry) (fs ys : List Entry) → join_to e ((f ∷ fs) ++ ys) ≡ join_to e (f ∷ fs) ++ ys
join-append e f fs ys = go (is_area e && is_area f)
  where
    x : Entry
    x = set e length_word (blocks e + blocks f)

    go : (z : Bool) → cond z (x ∷ (fs ++ ys)) (e ∷ f ∷ (fs ++ ys)) ≡ cond z (x ∷ fs) (e ∷ f ∷ fs) ++ ys
    go true = refl
    go false = refl

-- joined entries are some if the entries are
record Cons (es : List Entry) : Type 0 where
  head : Entry
  rest : List Entry
  are : es ≡ head ∷ rest

join-cons : (e : Entry) (ts : List Entry) → Cons (join_to e ts)
join-cons e [] = record { head = e; rest = []; are = refl }
join-cons e (f ∷ fs) = go (is_area e && is_area f)
  where
    x : Entry
    x = set e length_word (blocks e + blocks f)

    go : (z : Bool) → Cons (cond z (x ∷ fs) (e ∷ f ∷ fs))
    go true = record { head = x; rest = fs; are = refl }
    go false = record { head = e; rest = f ∷ fs; are = refl }

no-cons : {e : Entry} {es : List Entry} → ◌≡◌ {A = List Entry} [] (e ∷ es) → ⊥
no-cons h = let z = ap length h in omega arith

-- one area with the sum of a run
record OneArea (run ts : List Entry) : Type 0 where
  here : Entry
  is : ts ≡ here ∷ []
  area : is_area here ≡ true
  size : blocks here ≡ total run

module _ (w : ℕ) (enough : 7 ≤ w) where
  -- joined entries begin with an empty one if the entries do
  join_opens : (e : Entry) (ts : List Entry) → length e ≡ w → begins_area (join_to e ts) ≡ is_area e
  join_opens e [] l = refl
  join_opens e (f ∷ fs) l = go (is_area e && is_area f)
    where
      x : Entry
      x = set e length_word (blocks e + blocks f)

      go : (z : Bool) → begins_area (cond z (x ∷ fs) (e ∷ f ∷ fs)) ≡ is_area e
      go true = rw (resized w enough e (blocks e + blocks f) l).kind
      go false = refl

  joined_opens : (es : List Entry) → Wide w es → begins_area (joined es) ≡ begins_area es
  unfolding joined
  joined_opens [] a = refl
  joined_opens (e ∷ es) a = join_opens e (joined es) a.0

  -- joined apart, where no two empty entries meet
  joined_apart : (xs ys : List Entry) → Wide w ys → ends_area false xs && begins_area ys ≡ false → joined (xs ++ ys) ≡ joined xs ++ joined ys
  unfolding joined
  joined_apart [] ys a h = refl
  joined_apart (x ∷ []) ys a h = join-none x (joined ys) (rw (joined_opens ys a) h)
  joined_apart (x ∷ y ∷ xs) ys a h =
      let i = joined_apart (y ∷ xs) ys a h in
      let c = join-cons y (joined xs) in
      ap (join_to x) i ∙ (rw c.are (join-append x c.head c.rest (joined ys)))

  -- a whole run
  joined-run : (es : List Entry) → 1 ≤ length es → All IsArea es → Wide w es → OneArea es (joined es)
  unfolding joined total
  joined-run [] s a l = absurd (omega arith)
  joined-run (e ∷ []) s a l = record { here = e; is = refl; area = a.0; size = sym (add-zero (blocks e)) }
  joined-run (e ∷ f ∷ es) s a l =
      let i = joined-run (f ∷ es) (omega arith) a.1 l.1 in
      let n : ℕ = blocks e + blocks i.here in
      let r = resized w enough e n l.0 in
      let z : is_area e && is_area i.here ≡ true = rw (a.0, i.area) in
      record {
        here = set e length_word n;
        is = ap (join_to e) i.is ∙ join_both e i.here [] z;
        area = rw r.kind a.0;
        size = omega (arith, r.blocks, i.size);
      }

  -- a run is an area of the joined entries
  piece_joined : (es : List Entry) → Wide w es → (c : Piece es) → AreaIn (joined es) (total c.run) (flag false c.before)
  piece_joined es a c =
      record {
        before = joined c.before;
        here = o.here;
        after = joined c.after;
        are =
            ap joined c.are
            ∙ joined_apart c.before (c.run ++ c.after) wide_rest (rw c.calm_before)
            ∙ (rw (joined_apart c.run c.after (all_right_lem (OfWords w) c.run c.after wide_rest) apart, o.is));
        area = o.area;
        size = o.size;
        flag = (joined_tidier w enough false c.before (all_left (OfWords w) c.before (c.run ++ c.after) wide_all)).flag;
      }
    where
      wide_all : Wide w (c.before ++ (c.run ++ c.after))
      wide_all = subst (Wide w) c.are a

      wide_rest : Wide w (c.run ++ c.after)
      wide_rest = all_right_lem (OfWords w) c.before (c.run ++ c.after) wide_all

      apart : ends_area false c.run && begins_area c.after ≡ false
      apart = rw c.calm_after (and-false (ends_area false c.run))

      o : OneArea c.run (joined c.run)
      o = joined-run c.run c.some c.areas (all_left (OfWords w) c.run c.after wide_rest)

-- zeros dropped on both sides of a place
drop-append : (p : Bool) (xs ys : List Entry) → drop_zero p (xs ++ ys) ≡ drop_zero p xs ++ drop_zero (flag p xs) ys
unfolding drop_zero
drop-append p [] ys = refl
drop-append p (x ∷ xs) ys =
    let q = is_tentative (kind x) in
    rw (drop-append q xs ys) (go (is_area x && eqb (blocks x) 0 && not p) (drop_zero q xs) (drop_zero (flag q xs) ys))
  where
    go : (z : Bool) (r l : List Entry) → cond z (r ++ l) (x ∷ (r ++ l)) ≡ cond z r (x ∷ r) ++ l
    go true r l = refl
    go false r l = refl

drop-long : (p : Bool) (e : Entry) (es : List Entry) → 1 ≤ blocks e → drop_zero p (e ∷ es) ≡ e ∷ drop_zero (is_tentative (kind e)) es
unfolding drop_zero
drop-long p e es l = rw (ne_eqb (blocks e) 0 (λ q. omega arith), and-false (is_area e))

-- entries that are left were there
record Left (p : Bool) (ts xs : List Entry) (e : Entry) : Type 0 where
  before : List Entry
  after : List Entry
  are : ts ≡ before ++ e ∷ after
  flag : flag p before ≡ flag p xs

left_later : (p : Bool) (t e : Entry) (ts xs : List Entry) → Left (is_tentative (kind t)) ts xs e → Left p (t ∷ ts) (t ∷ xs) e
left_later p t e ts xs l =
    record { before = t ∷ l.before; after = l.after; are = ap {B = List Entry} (λ r. t ∷ r) l.are; flag = l.flag }

drop-left : (p : Bool) (ts xs : List Entry) (e : Entry) (ys : List Entry) → drop_zero p ts ≡ xs ++ e ∷ ys → Left p ts xs e
unfolding drop_zero
drop-left p [] [] e ys h = absurd (no-cons h)
drop-left p [] (x ∷ xs) e ys h = absurd (no-cons h)
drop-left p (t ∷ ts) xs e ys h =
    go (is_area t && eqb (blocks t) 0 && not p) refl (λ zs. drop-left (is_tentative (kind t)) ts zs e ys) xs h
  where
    r : List Entry
    r = drop_zero (is_tentative (kind t)) ts

    go : (z : Bool) → is_area t && eqb (blocks t) 0 && not p ≡ z
        → ((zs : List Entry) → r ≡ zs ++ e ∷ ys → Left (is_tentative (kind t)) ts zs e)
        → (zs : List Entry) → cond z r (t ∷ r) ≡ zs ++ e ∷ ys → Left p (t ∷ ts) zs e
    go true z i zs h =
        let q = both (is_area t && eqb (blocks t) 0) (not p) z in
        let k = empty-kind (kind t) (both (is_area t) (eqb (blocks t) 0) q.0).0 in
        let l = i zs h in
        let f : is_tentative (kind t) ≡ p = (rw k) ∙ sym (not-true p q.1) in
        record {
          before = t ∷ l.before;
          after = l.after;
          are = ap {B = List Entry} (λ r. t ∷ r) l.are;
          flag = l.flag ∙ ap (λ (c : Bool). flag c zs) f;
        }
    go false z i [] h =
        let q : t ≡ e = cc in
        record { before = []; after = ts; are = ap (λ (x : Entry). x ∷ ts) q; flag = refl }
    go false z i (x ∷ zs) h =
        let q : t ≡ x = cc in
        let g : r ≡ zs ++ e ∷ ys = cc in
        subst (λ (x : Entry). Left p (t ∷ ts) (x ∷ zs) e) q (left_later p t e ts zs (i zs g))

-- joined entries split only where no two empty ones meet
record Parts (es xs ys : List Entry) : Type 0 where
  before : List Entry
  rest : List Entry
  are : es ≡ before ++ rest
  front : joined before ≡ xs
  back : joined rest ≡ ys
  apart : ends_area false before && begins_area rest ≡ false

-- a run and what is left after it
record Span (es : List Entry) : Type 0 where
  run : List Entry
  after : List Entry
  are : es ≡ run ++ after
  areas : All IsArea run
  calm : begins_area after ≡ false

span : (es : List Entry) → Span es
span [] = record { run = []; after = []; are = refl; areas = tt; calm = refl }
span (e ∷ es) = go (is_area e) refl (span es)
  where
    go : (z : Bool) → is_area e ≡ z → Span es → Span (e ∷ es)
    go true z s =
        record {
          run = e ∷ s.run;
          after = s.after;
          are = ap {B = List Entry} (λ l. e ∷ l) s.are;
          areas = (z, s.areas);
          calm = s.calm;
        }
    go false z s = record { run = []; after = e ∷ es; are = refl; areas = tt; calm = z }

span_some : (es : List Entry) (s : Span es) → begins_area es ≡ true → 1 ≤ length s.run
span_some es s h = go s.run s.are
  where
    go : (r : List Entry) → es ≡ r ++ s.after → 1 ≤ length r
    go [] e = absurd (false≢true (sym (ap begins_area e ∙ s.calm) ∙ h))
    go (x ∷ r) e = omega arith

module _ (w : ℕ) (enough : 7 ≤ w) where
  -- one entry more before parts
  beside : (e : Entry) (es xs ys : List Entry) → Wide w (e ∷ es) → (p : Parts es xs ys) → is_area e && begins_area (xs ++ ys) ≡ false
      → Parts (e ∷ es) (e ∷ xs) ys
  unfolding joined
  beside e es xs ys a p h =
      record {
        before = e ∷ p.before;
        rest = p.rest;
        are = ap {B = List Entry} (λ l. e ∷ l) p.are;
        front = ap (join_to e) p.front ∙ join-none e xs (first xs h);
        back = p.back;
        apart = go p.before p.are p.front p.apart;
      }
    where
      first : (zs : List Entry) → is_area e && begins_area (zs ++ ys) ≡ false → is_area e && begins_area zs ≡ false
      first [] g = and-false (is_area e)
      first (z ∷ zs) g = g

      go : (bs : List Entry) → es ≡ bs ++ p.rest → joined bs ≡ xs → ends_area false bs && begins_area p.rest ≡ false
          → ends_area (is_area e) bs && begins_area p.rest ≡ false
      go [] i j k =
          let o = joined_opens w enough p.rest (subst (Wide w) i a.1) in
          rw (← o, p.back) (rw (← j) at h)
      go (b ∷ bs) i j k = k

  merged : (e f : Entry) (es xs ys : List Entry) → (p : Parts es (f ∷ xs) ys) → is_area e && is_area f ≡ true
      → Parts (e ∷ es) (set e length_word (blocks e + blocks f) ∷ xs) ys
  unfolding joined
  merged e f es xs ys p h =
      record {
        before = e ∷ p.before;
        rest = p.rest;
        are = ap {B = List Entry} (λ l. e ∷ l) p.are;
        front = ap (join_to e) p.front ∙ join_both e f xs h;
        back = p.back;
        apart = go p.before p.front p.apart;
      }
    where
      go : (bs : List Entry) → joined bs ≡ f ∷ xs → ends_area false bs && begins_area p.rest ≡ false
          → ends_area (is_area e) bs && begins_area p.rest ≡ false
      go [] j k = absurd (no-cons j)
      go (b ∷ bs) j k = k

  joined_parts : (es : List Entry) → Wide w es → (xs ys : List Entry) → joined es ≡ xs ++ ys → Parts es xs ys
  unfolding joined
  joined_parts [] a [] ys h = record { before = []; rest = []; are = refl; front = refl; back = h; apart = refl }
  joined_parts [] a (x ∷ xs) ys h = absurd (no-cons h)
  joined_parts (e ∷ es) a [] ys h = record { before = []; rest = e ∷ es; are = refl; front = refl; back = h; apart = refl }
  joined_parts (e ∷ es) a (x ∷ xs) ys h =
      go (joined es) (is_area e && begins_area (joined es)) refl refl (λ us vs. joined_parts es a.1 us vs) h
    where
      go : (js : List Entry) (z : Bool) → joined es ≡ js → is_area e && begins_area js ≡ z
          → ((us vs : List Entry) → joined es ≡ us ++ vs → Parts es us vs)
          → join_to e js ≡ x ∷ (xs ++ ys) → Parts (e ∷ es) (x ∷ xs) ys
      go js false q t i g =
          let g' : e ∷ js ≡ x ∷ (xs ++ ys) = sym (join-none e js t) ∙ g in
          let u : e ≡ x = cc in
          let v : js ≡ xs ++ ys = cc in
          subst (λ (x : Entry). Parts (e ∷ es) (x ∷ xs) ys) u
          (beside e es xs ys a (i xs ys (q ∙ v)) (subst (λ (l : List Entry). is_area e && begins_area l ≡ false) v t))
      go [] true q t i g = absurd (false≢true (sym (and-false (is_area e)) ∙ t))
      go (f ∷ fs) true q t i g =
          let g' : set e length_word (blocks e + blocks f) ∷ fs ≡ x ∷ (xs ++ ys) = sym (join_both e f fs t) ∙ g in
          let u : set e length_word (blocks e + blocks f) ≡ x = cc in
          let v : fs ≡ xs ++ ys = cc in
          subst (λ (x : Entry). Parts (e ∷ es) (x ∷ xs) ys) u
          (merged e f es xs ys (i (f ∷ xs) ys (q ∙ ap {B = List Entry} (λ l. f ∷ l) v)) t)

  -- a run with a sum above 0 is an area of the tidied entries
  pub run_area : (es : List Entry) → Wide w es → (n : ℕ) (p : Bool) → RunOf es n p → 1 ≤ n → AreaIn (tidy es) n p
  unfolding tidy
  run_area es a n p r l =
      record {
        before = drop_zero false j.before;
        here = j.here;
        after = drop_zero (is_tentative (kind j.here)) j.after;
        are =
            ap (drop_zero false) j.are
            ∙ drop-append false j.before (j.here ∷ j.after)
            ∙ (rw (drop-long (flag false j.before) j.here j.after (omega (arith, j.size, r.sum))));
        area = j.area;
        size = j.size ∙ r.sum;
        flag =
            (drop_tidier w enough false j.before
            (all_left (OfWords w) j.before (j.here ∷ j.after) (subst (Wide w) j.are (joined_tidier w enough false es a).wide))
            ).flag
            ∙ j.flag
            ∙ r.flag;
      }
    where
      j : AreaIn (joined es) (total r.piece.run) (flag false r.piece.before)
      j = piece_joined w enough es a r.piece

  -- an area of the tidied entries is a run
  pub area-run : (es : List Entry) → Wide w es → (n : ℕ) (p : Bool) → AreaIn (tidy es) n p → RunOf es n p
  unfolding tidy
  area-run es a n p r =
      record {
        piece =
            record {
              before = q.before;
              run = s.run;
              after = s.after;
              are = q.are ∙ ap (λ (l : List Entry). q.before ++ l) s.are;
              areas = s.areas;
              some = span_some q.rest s begins;
              calm_before = one_false (ends_area false q.before) (begins_area q.rest) q.apart begins;
              calm_after = s.calm;
            };
        sum = sym o.size ∙ ap blocks same ∙ r.size;
        flag =
            sym (joined_tidier w enough false q.before (all_left (OfWords w) q.before q.rest wide_all)).flag
            ∙ ap (flag false) q.front
            ∙ l.flag
            ∙ r.flag;
      }
    where
      l : Left false (joined es) r.before r.here
      l = drop-left false (joined es) r.before r.here r.after r.are

      q : Parts es l.before (r.here ∷ l.after)
      q = joined_parts es a l.before (r.here ∷ l.after) l.are

      s : Span q.rest
      s = span q.rest

      wide_all : Wide w (q.before ++ q.rest)
      wide_all = subst (Wide w) q.are a

      wide_rest : Wide w q.rest
      wide_rest = all_right_lem (OfWords w) q.before q.rest wide_all

      wide_run : Wide w (s.run ++ s.after)
      wide_run = subst (Wide w) s.are wide_rest

      begins : begins_area q.rest ≡ true
      begins = sym (joined_opens w enough q.rest wide_rest) ∙ ap begins_area q.back ∙ r.area

      one_false : (x y : Bool) → x && y ≡ false → y ≡ true → x ≡ false
      one_false false y h t = refl
      one_false true y h t = absurd (false≢true (sym h ∙ t))

      o : OneArea s.run (joined s.run)
      o = joined-run w enough s.run (span_some q.rest s begins) s.areas (all_left (OfWords w) s.run s.after wide_run)

      same : o.here ≡ r.here
      same =
          let j =
          joined_apart w enough s.run s.after (all_right_lem (OfWords w) s.run s.after wide_run)
          (rw s.calm (and-false (ends_area false s.run))) in
          let e : joined q.rest ≡ joined s.run ++ joined s.after = ap joined s.are ∙ j in
          let i = ap (λ (x : List Entry). x ++ joined s.after) (sym o.is) in
          let f : (o.here ∷ []) ++ joined s.after ≡ r.here ∷ l.after = i ∙ sym e ∙ q.back in
          cc
