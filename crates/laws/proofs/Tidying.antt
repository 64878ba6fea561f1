-- Tidying the entries of a segment, step by step as it is defined: an empty entry joined to the one after it, and an empty entry of
-- length 0 dropped. Each step leaves fine entries fine, keeps the living entries and their first blocks, and leaves the last entry
-- tentative if it was.
use Prim.Native.Nat.{ℕ, ◌+◌, ◌≤◌}
use mathlib.Core.Path.{◌≡◌, refl, sym, ap, ◌∙◌, subst}
use mathlib.Core.Bool.{Bool, true, false, cond, ◌&&◌, not}
use mathlib.Core.List.{List, [], ◌∷◌}
use native.Mathlib.Nat.{add-zero, add_assoc}
use native.Mathlib.Omega.{arith}
use lib.ListN.{length, set, length-set}
use lib.Dec.{eqb}
use borrow.Author.Tests.{eqb-true, not-true}
use Rattle.bools.proofs.Bools.{both}
use Rattle.meaning.specs.declared.Kind.TheVariants.{Empty}
use Rattle.meaning.specs.Kinds.{is_tentative}
use Rattle.meaning.specs.Words.{Entry, length_word, kind, blocks}
use Rattle.meaning.specs.Enter.{is_area, join_to, joined, drop_zero, tidy}
use Rattle.laws.proofs.Entries.{view, Grown, grown}
use Rattle.rules.proofs.Fine.{free, Fine, flag}
use Rattle.walks.proofs.Told.{empty-kind}
use Rattle.walks.proofs.Flat.{Wide}
use Rattle.laws.proofs.Living.{living, living-area}

-- what a step keeps, after a tentative entry if p says so
pub record Tidier (w : ℕ) (p : Bool) (es ts : List Entry) : Type 0 where
  pub fine : Fine p es → Fine p ts
  pub wide : Wide w ts
  pub living : (b : ℕ) → living b ts ≡ living b es
  pub flag : flag p ts ≡ flag p es

module _ (w : ℕ) (enough : 7 ≤ w) where
  -- an entry with another length
  pub resized : (e : Entry) (n : ℕ) → length e ≡ w → Grown n e (set e length_word n)
  resized e n l = grown e n (view e (omega arith))

  same : (p : Bool) (es : List Entry) → Wide w es → Tidier w p es es
  same p es a = record { fine = λ f. f; wide = a; living = λ b. refl; flag = refl }

  then : {p : Bool} {es ts us : List Entry} → Tidier w p es ts → Tidier w p ts us → Tidier w p es us
  then x y =
      record {
        fine = λ f. y.fine (x.fine f);
        wide = y.wide;
        living = λ b. y.living b ∙ x.living b;
        flag = y.flag ∙ x.flag;
      }

  past : (p : Bool) (e : Entry) (es ts : List Entry) → length e ≡ w → Tidier w (is_tentative (kind e)) es ts → Tidier w p (e ∷ es) (e ∷ ts)
  unfolding living
  past p e es ts l x =
      record {
        fine = λ f. (f.0, x.fine f.1);
        wide = (l, x.wide);
        living = λ b. rw (x.living (b + blocks e));
        flag = x.flag;
      }

  -- an entry joined to those after it
  join : (p : Bool) (e : Entry) (ts : List Entry) → length e ≡ w → Wide w ts → Tidier w p (e ∷ ts) (join_to e ts)
  join p e [] l a = same p (e ∷ []) (l, tt)
  join p e (f ∷ fs) l a = go (is_area e && is_area f) refl
    where
      n : ℕ
      n = blocks e + blocks f

      r : Grown n e (set e length_word n)
      r = resized e n l

      later : kind (set e length_word n) ≡ Empty → kind f ≡ Empty → is_tentative (kind (set e length_word n)) ≡ is_tentative (kind f)
      later k kf = rw (k, kf)

      go : (x : Bool) → is_area e && is_area f ≡ x → Tidier w p (e ∷ f ∷ fs) (cond x (set e length_word n ∷ fs) (e ∷ f ∷ fs))
      go false x = same p (e ∷ f ∷ fs) (l, a)
      go true x =
          let q = both (is_area e) (is_area f) x in
          let ke = empty-kind (kind e) q.0 in
          let kf = empty-kind (kind f) q.1 in
          let k : kind (set e length_word n) ≡ Empty = r.kind ∙ ke in
          record {
            fine = λ g. (free k, rw k (rw kf at g.1.1));
            wide = (length-set e length_word n ∙ l, a.1);
            living =
                λ b.
                living-area b (set e length_word n) fs (rw k)
                ∙ (rw (
                  r.blocks,
                  living-area b e (f ∷ fs) q.0,
                  living-area (b + blocks e) f fs q.1,
                  add_assoc b (blocks e) (blocks f),
                ));
            flag = ap (λ (c : Bool). flag c fs) (later k kf);
          }

  pub joined_tidier : (p : Bool) (es : List Entry) → Wide w es → Tidier w p es (joined es)
  unfolding joined
  joined_tidier p [] a = same p [] tt
  joined_tidier p (e ∷ es) a =
      let i = joined_tidier (is_tentative (kind e)) es a.1 in
      then (past p e es (joined es) a.0 i) (join p e (joined es) a.0 i.wide)

  -- entries of length 0 dropped
  pub drop_tidier : (p : Bool) (es : List Entry) → Wide w es → Tidier w p es (drop_zero p es)
  unfolding drop_zero
  drop_tidier p [] a = same p [] tt
  drop_tidier p (e ∷ es) a = go (is_area e && eqb (blocks e) 0 && not p) refl (drop_tidier (is_tentative (kind e)) es a.1)
    where
      r : List Entry
      r = drop_zero (is_tentative (kind e)) es

      go : (x : Bool) → is_area e && eqb (blocks e) 0 && not p ≡ x → Tidier w (is_tentative (kind e)) es r
          → Tidier w p (e ∷ es) (cond x r (e ∷ r))
      go false x i = past p e es r a.0 i
      go true x i =
          let q = both (is_area e && eqb (blocks e) 0) (not p) x in
          let q' = both (is_area e) (eqb (blocks e) 0) q.0 in
          let k = empty-kind (kind e) q'.0 in
          let z = eqb-true (blocks e) 0 q'.1 in
          let t : is_tentative (kind e) ≡ p = (rw k) ∙ sym (not-true p q.1) in
          record {
            fine = λ f. subst (λ (c : Bool). Fine c r) t (i.fine f.1);
            wide = i.wide;
            living = λ b. i.living b ∙ sym (living-area b e es q'.0 ∙ (rw (z, add-zero b)));
            flag = ap (λ (c : Bool). flag c r) (sym t) ∙ i.flag;
          }

  pub tidy_tidier : (es : List Entry) → Wide w es → Tidier w false es (tidy es)
  unfolding tidy
  tidy_tidier es a =
      let j = joined_tidier false es a in
      then j (drop_tidier false (joined es) j.wide)
