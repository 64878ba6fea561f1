-- Entries split in two, one of them with the tentative entry inserted. The split keeps a tentative entry with the area after it, so
-- that both halves are fine by themselves; and the halves joined are the entries with the tentative one inserted, whichever half has
-- it.
use Prim.Native.Nat.{ℕ, suc, ◌+◌, ◌-◌, ◌/◌, ◌≤◌, ◌<◌}
use mathlib.Core.Path.{◌≡◌, refl, sym, ap, ◌∙◌, subst}
use mathlib.Core.Bool.{Bool, true, false, cond, false≢true}
use mathlib.Core.List.{List, [], ◌∷◌, ◌++◌, append_assoc}
use native.Mathlib.Omega.{arith}
use lib.ListN.{length, get_or, take, drop, set, length-append, length-drop, take-append-drop}
use lib.Seq.{split_at, take-take, get_or-take, take-add, get_or-drop, drop-drop, drop-append-le, length-take-le, get_or-set_other}
use lib.Dec.{eqb, ltb}
use borrow.Author.Tests.{ltb-true, ltb-false}
use Rattle.meaning.specs.declared.Kind.TheVariants.{Empty}
use Rattle.meaning.specs.Words.{Entry, length_word, kind, blocks, total}
use Rattle.meaning.specs.Requests.{empty_entry}
use Rattle.meaning.specs.Enter.{inserted, ends_tentative, kept}
use Rattle.walks.proofs.Alls.{all_left, all_right_lem}
use Rattle.walks.proofs.Filled.{total-append}
use Rattle.rules.proofs.Fine.{Fine, flag, okay_free, flag-append, fine-after, fine_before}
use Rattle.walks.proofs.Flat.{OfWords, Wide}
use Rattle.laws.proofs.Inserted.{Added}

-- where entries are split: h of them are kept
pub record Parted (es : List Entry) (h : ℕ) : Type 0 where
  pub calm : flag false (take h es) ≡ false
  pub low : length es / 2 ≤ h
  pub high : h ≤ length es / 2 + 1
  pub inside : h ≤ length es

ends-flag : (es : List Entry) → ends_tentative es ≡ flag false es
unfolding ends_tentative
ends-flag [] = refl
ends-flag (e ∷ []) = refl
ends-flag (e ∷ f ∷ es) = ends-flag (f ∷ es)

-- after a tentative entry one more, which is empty
calm-next : (xs ys : List Entry) (p : Bool) → flag p xs ≡ true → Fine p (xs ++ ys) → (1 ≤ length ys) × (flag p (xs ++ take 1 ys) ≡ false)
calm-next xs [] p t f = absurd (false≢true (sym (fine-after xs [] p f) ∙ t))
calm-next xs (y ∷ ys) p t f =
    let k = okay_free (flag p xs) y t (fine-after xs (y ∷ ys) p f).0 in
    (omega arith, flag-append xs (y ∷ []) p ∙ (rw k))

pub parted : (es : List Entry) → Fine false es → Parted es (kept es)
unfolding kept
parted es f = go (ends_tentative (take (length es / 2) es)) refl
  where
    go : (x : Bool) → ends_tentative (take (length es / 2) es) ≡ x → Parted es (cond x (length es / 2 + 1) (length es / 2))
    go false x =
        record {
          calm = sym (ends-flag (take (length es / 2) es)) ∙ x;
          low = omega arith;
          high = omega arith;
          inside = omega arith;
        }
    go true x =
        let c =
        calm-next (take (length es / 2) es) (drop (length es / 2) es) false (sym (ends-flag (take (length es / 2) es)) ∙ x)
        (subst (Fine false) (sym (take-append-drop (length es / 2) es)) f) in
        let l = length-drop (length es / 2) es in
        record {
          calm = rw (take-add (length es / 2) 1 es) c.1;
          low = omega arith;
          high = omega arith;
          inside = omega (arith, c.0);
        }

module _ (w : ℕ) (new : Entry) (n cost : ℕ) where
  abbrev g : List Entry
  g = cond (eqb cost 2) (empty_entry w 0 ∷ []) []

  -- the tentative entry inserted in the lower part, and in the upper
  inserted-low : (h k : ℕ) (es : List Entry) → k < h → h ≤ length es
      → inserted w new n cost k (take h es) ++ drop h es ≡ inserted w new n cost k es
  unfolding inserted
  inserted-low h k es l i =
      let e = length-take-le h es i in
      let f = drop-append-le (suc k) (take h es) (drop h es) (omega arith) in
      let d : drop (suc k) (take h es) ++ drop h es ≡ drop (suc k) es = sym f ∙ ap (drop (suc k)) (take-append-drop h es) in
      rw (take-take k h es (omega arith), get_or-take h es k [] l, append_assoc (take k es ++ g) _ (drop h es), d)

  inserted-high : (h k : ℕ) (es : List Entry) → h ≤ k → take h es ++ inserted w new n cost (k - h) (drop h es) ≡ inserted w new n cost k es
  unfolding inserted
  inserted-high h k es l =
      let e : h + (k - h) ≡ k = omega arith in
      let f : h + suc (k - h) ≡ suc k = omega arith in
      let t : take h es ++ take (k - h) (drop h es) ≡ take k es = sym (take-add h (k - h) es) ∙ ap (λ (i : ℕ). take i es) e in
      rw (
        get_or-drop h es (k - h) [],
        e,
        drop-drop (suc (k - h)) h es,
        f,
        ← (append_assoc (take h es) (take (k - h) (drop h es) ++ g) _),
        ← (append_assoc (take h es) (take (k - h) (drop h es)) g),
        t,
      )

  -- the last entry is tentative if it was
  inserted-flag : (k : ℕ) (es : List Entry) → k < length es → kind (get_or es k []) ≡ Empty
      → flag false (inserted w new n cost k es) ≡ flag false es
  unfolding inserted
  inserted-flag k es l e =
      flag-append (take k es ++ g) (new ∷ set (get_or es k []) length_word (blocks (get_or es k []) - n) ∷ drop (suc k) es) false
      ∙ ap (λ (z : Bool). flag z (drop (suc k) es))
      (rw (get_or-set_other (get_or es k []) length_word 0 (blocks (get_or es k []) - n) 0 (λ q. omega arith)))
      ∙ sym (ap (flag false) (split_at es k [] l) ∙ flag-append (take k es) (get_or es k [] ∷ drop (suc k) es) false)

-- both halves
pub record Halves (w h cost : ℕ) (es lower upper out : List Entry) : Type 0 where
  pub joined : lower ++ upper ≡ out
  pub fine_lower : Fine false lower
  pub fine_upper : Fine false upper
  pub wide_lower : Wide w lower
  pub wide_upper : Wide w upper
  pub sum_lower : total lower ≡ total (take h es)
  pub long_lower : length lower ≤ h + cost
  pub long_upper : length upper + h ≤ length es + cost

module _ (w : ℕ) (new : Entry) (n at cost k : ℕ) (es : List Entry) (inside : k < length es) (area : kind (get_or es k []) ≡ Empty)
    (fine : Fine false es) (ad : Added w new at cost es (inserted w new n cost k es)) where
  abbrev h : ℕ
  h = kept es

  abbrev out : List Entry
  out = inserted w new n cost k es

  pa : Parted es h
  pa = parted es fine

  -- from the halves joined
  in_halves : (lower upper : List Entry) → lower ++ upper ≡ out → flag false lower ≡ false → total lower ≡ total (take h es)
      → length lower ≤ h + cost → length upper + h ≤ length es + cost → Halves w h cost es lower upper out
  in_halves lower upper e c t l u =
      record {
        joined = e;
        fine_lower = fine_before lower upper false f c;
        fine_upper = subst (λ (p : Bool). Fine p upper) c (fine-after lower upper false f);
        wide_lower = all_left (OfWords w) lower upper a;
        wide_upper = all_right_lem (OfWords w) lower upper a;
        sum_lower = t;
        long_lower = l;
        long_upper = u;
      }
    where
      f : Fine false (lower ++ upper)
      f = subst (Fine false) (sym e) ad.fine

      a : Wide w (lower ++ upper)
      a = subst (Wide w) (sym e) ad.wide

  pub halves : Halves w h cost es (cond (ltb k h) (inserted w new n cost k (take h es)) (take h es))
      (cond (ltb k h) (drop h es) (inserted w new n cost (k - h) (drop h es))) out
  halves = go (ltb k h) refl
    where
      l1 : length (take h es) ≡ h
      l1 = length-take-le h es pa.inside

      l2 : length (drop h es) ≡ length es - h
      l2 = length-drop h es

      go : (x : Bool) → ltb k h ≡ x
          → Halves w h cost es (cond x (inserted w new n cost k (take h es)) (take h es))
          (cond x (drop h es) (inserted w new n cost (k - h) (drop h es))) out
      go true x =
          let l = ltb-true k h x in
          let lower = inserted w new n cost k (take h es) in
          let e = inserted-low w new n cost h k es l pa.inside in
          let t1 = total-append lower (drop h es) in
          let t2 = total-append (take h es) (drop h es) in
          let t3 = ap total (take-append-drop h es) in
          let t4 = ap total e in
          let n1 = length-append lower (drop h es) in
          let n2 = ap length e in
          in_halves lower (drop h es) e
          (inserted-flag w new n cost k (take h es) (omega (arith, l1)) (rw (get_or-take h es k [] l) area) ∙ pa.calm)
          (omega (arith, ad.sum))
          (omega (arith, ad.long, l2, pa.inside))
          (omega (arith, l2, pa.inside))
      go false x =
          let l = ltb-false k h x in
          let upper = inserted w new n cost (k - h) (drop h es) in
          let e = inserted-high w new n cost h k es l in
          let n1 = length-append (take h es) upper in
          let n2 = ap length e in
          in_halves (take h es) upper e pa.calm refl (omega (arith, l1)) (omega (arith, ad.long, l1))
