-- Runs as demand 2 says them, by places, and as Runs says them, by what stands before and after. The two are the same; and the slots
-- that an entry before a run takes are what an area there costs.
use Prim.Native.Nat.{ℕ, zero, suc, ◌+◌, ◌-◌, ◌≤◌, ◌<◌, suc-le-suc}
use mathlib.Core.Path.{◌≡◌, refl, sym, ap, ◌∙◌, subst}
use mathlib.Core.Logic.{◌⊎◌, inl, inr}
use mathlib.Core.Bool.{Bool, true, false, false≢true}
use mathlib.Core.List.{List, [], ◌∷◌, ◌++◌}
use native.Mathlib.Nat.{le_of_suc-le-suc, not-suc-le-zero}
use native.Mathlib.Omega.{arith}
use lib.ListN.{length, get_or, take, drop, length-append, length-take, length-drop, take-append-drop, get_or-append}
use lib.Seq.{get_or-take, get_or-drop, get_or-append-add, get_or-append_seam, drop-drop, take-append_seam, drop-append_seam}
use Rattle.bools.proofs.Bools.{never}
use Rattle.meaning.specs.declared.Kind.TheVariants.{Tentative, Empty}
use Rattle.meaning.specs.Kinds.{is_tentative}
use Rattle.meaning.specs.Words.{Entry, kind, total}
use Rattle.meaning.specs.Enter.{is_area, cost_after}
use Rattle.walks.specs.Lists.{All}
use Rattle.laws.specs.Room.{Run, joined_length, Takes}
use Rattle.walks.proofs.Told.{tentative-kind, empty-kind}
use Rattle.rules.proofs.Fine.{flag}
use Rattle.laws.proofs.Runs.{begins_area, ends_area, IsArea, RunOf}

-- all of a list, place by place
places-all : (es : List Entry) → ((i : ℕ) → i < length es → kind (get_or es i []) ≡ Empty) → All IsArea es
places-all [] f = tt
places-all (e ∷ es) f = (rw (f 0 (omega arith)), places-all es (λ i l. f (suc i) (suc-le-suc l)))

all-places : (es : List Entry) → All IsArea es → (i : ℕ) → i < length es → kind (get_or es i []) ≡ Empty
all-places [] a i l = absurd (not-suc-le-zero l)
all-places (e ∷ es) a zero l = empty-kind (kind e) a.0
all-places (e ∷ es) a (suc i) l = all-places es a.1 i (le_of_suc-le-suc l)

-- the last of the first few, and the first of the others
closes-take : (es : List Entry) (i : ℕ) (p : Bool) → i < length es → ends_area p (take (suc i) es) ≡ is_area (get_or es i [])
closes-take [] i p l = absurd (not-suc-le-zero l)
closes-take (e ∷ es) zero p l = refl
closes-take (e ∷ es) (suc i) p l = closes-take es i (is_area e) (le_of_suc-le-suc l)

flag-take : (es : List Entry) (i : ℕ) (p : Bool) → i < length es → flag p (take (suc i) es) ≡ is_tentative (kind (get_or es i []))
flag-take [] i p l = absurd (not-suc-le-zero l)
flag-take (e ∷ es) zero p l = refl
flag-take (e ∷ es) (suc i) p l = flag-take es i (is_tentative (kind e)) (le_of_suc-le-suc l)

opens_drop : (es : List Entry) (m : ℕ) → begins_area (drop m es) ≡ true → (m < length es) × (is_area (get_or es m []) ≡ true)
opens_drop [] zero h = absurd (false≢true h)
opens_drop [] (suc m) h = absurd (false≢true h)
opens_drop (e ∷ es) zero h = (omega arith, h)
opens_drop (e ∷ es) (suc m) h = let i = opens_drop es m h in (suc-le-suc i.0, i.1)

-- from places to lists
pub run-piece : (es : List Entry) (k n : ℕ) → Run es k n → RunOf es (joined_length es k n) (flag false (take k es))
run-piece es k n r =
    record {
      piece =
          record {
            before = take k es;
            run = take n (drop k es);
            after = drop n (drop k es);
            are = sym (take-append-drop k es) ∙ ap (λ (l : List Entry). take k es ++ l) (sym (take-append-drop n (drop k es)));
            areas = places-all (take n (drop k es)) inside;
            some = omega (arith, long, r.some);
            calm_before = calm k r.before (omega (arith, r.within));
            calm_after = never (begins_area (drop n (drop k es))) (after r.after);
          };
      sum = refl;
      flag = refl;
    }
  where
    long : length (take n (drop k es)) ≡ n
    long = let w = r.within in simp (length-take, length-drop) (omega arith)

    inside : (i : ℕ) → i < length (take n (drop k es)) → kind (get_or (take n (drop k es)) i []) ≡ Empty
    inside i l =
        let m : i < n = omega (arith, long) in
        rw (get_or-take n (drop k es) i [] m, get_or-drop k es i []) (r.empty i m)

    calm : (j : ℕ) → (j ≡ 0) ⊎ (kind (get_or es (j - 1) []) ≡ Empty → ⊥) → j ≤ length es → ends_area false (take j es) ≡ false
    calm zero b l = refl
    calm (suc i) (inl e) l = absurd (omega arith)
    calm (suc i) (inr e) l =
        let s : suc i - 1 ≡ i = omega arith in
        closes-take es i false l ∙ never (is_area (get_or es i [])) (λ t. rw s at e (empty-kind (kind (get_or es i [])) t))

    after : (k + n ≡ length es) ⊎ (kind (get_or es (k + n) []) ≡ Empty → ⊥) → begins_area (drop n (drop k es)) ≡ true → ⊥
    after b t = go b (opens_drop es (k + n) (rw (drop-drop n k es) at t))
      where
        go : (k + n ≡ length es) ⊎ (kind (get_or es (k + n) []) ≡ Empty → ⊥) → (k + n < length es) × (is_area (get_or es (k + n) []) ≡ true) → ⊥
        go (inl e) o = omega (arith, o.0)
        go (inr e) o = e (empty-kind (kind (get_or es (k + n) [])) o.1)

-- from lists to places
closes-last : (x : Entry) (xs : List Entry) (p : Bool) → ends_area p (x ∷ xs) ≡ is_area (get_or (x ∷ xs) (length xs) [])
closes-last x [] p = refl
closes-last x (y ∷ xs) p = closes-last y xs (is_area x)

module _ (xs run ys : List Entry) (areas : All IsArea run) (some : 1 ≤ length run) (calm : ends_area false xs ≡ false)
    (free : begins_area ys ≡ false) where
  abbrev all : List Entry
  all = xs ++ (run ++ ys)

  lengths : length all ≡ length xs + (length run + length ys)
  lengths = simp length-append

  inside : (i : ℕ) → i < length run → kind (get_or all (length xs + i) []) ≡ Empty
  inside i l = rw (get_or-append-add xs (run ++ ys) i [], get_or-append run ys [] i l) (all-places run areas i l)

  before-is : (zs : List Entry) → ends_area false zs ≡ false
      → (length zs ≡ 0) ⊎ (kind (get_or (zs ++ (run ++ ys)) (length zs - 1) []) ≡ Empty → ⊥)
  before-is [] c = inl refl
  before-is (z ∷ zs) c =
      let e : suc (length zs) - 1 ≡ length zs = omega arith in
      inr
      (λ k.
      let k' : kind (get_or (z ∷ zs) (length zs) [])
      ≡ Empty = rw (e, get_or-append (z ∷ zs) (run ++ ys) [] (length zs) (omega arith)) at k in
      false≢true (sym c ∙ closes-last z zs false ∙ (rw k')))

  after_is : (zs : List Entry) → begins_area zs ≡ false
      → (length xs + length run ≡ length (xs ++ (run ++ zs))) ⊎ (kind (get_or (xs ++ (run ++ zs)) (length xs + length run) []) ≡ Empty → ⊥)
  after_is [] o = inl (simp length-append (omega arith))
  after_is (z ∷ zs) o =
      inr
      (λ k.
      let k' : kind z ≡ Empty = rw (get_or-append-add xs (run ++ z ∷ zs) (length run) [], get_or-append_seam run z zs []) at k in
      false≢true (sym o ∙ (rw k')))

  placed-run : Run all (length xs) (length run)
  placed-run =
      record {
        some = some;
        within = omega (arith, lengths);
        empty = inside;
        before = before-is xs calm;
        after = after_is ys free;
      }

  placed_long : joined_length all (length xs) (length run) ≡ total run
  placed_long = rw (drop-append_seam xs (run ++ ys), take-append_seam run ys)

pub record PlacedRun (es : List Entry) (n : ℕ) (p : Bool) : Type 0 where
  pub start : ℕ
  pub count : ℕ
  pub run : Run es start count
  pub sum : joined_length es start count ≡ n
  pub flag : flag false (take start es) ≡ p

pub piece-run : (es : List Entry) (n : ℕ) (p : Bool) → RunOf es n p → PlacedRun es n p
piece-run es n p r =
    let c = r.piece in
    subst (λ (l : List Entry). PlacedRun l n p) (sym c.are)
    (record {
      start = length c.before;
      count = length c.run;
      run = placed-run c.before c.run c.after c.areas c.some c.calm_before c.calm_after;
      sum = placed_long c.before c.run c.after c.areas c.some c.calm_before c.calm_after ∙ r.sum;
      flag = ap (flag false) (take-append_seam c.before (c.run ++ c.after)) ∙ r.flag;
    })

-- the slots: a tentative entry stands directly before place k
abbrev AfterTentative : List Entry → ℕ → Type 0
AfterTentative es k = (1 ≤ k) × (kind (get_or es (k - 1) []) ≡ Tentative)

flag-behind : (es : List Entry) (k : ℕ) → k ≤ length es → flag false (take k es) ≡ true → AfterTentative es k
flag-behind es zero l h = absurd (false≢true h)
flag-behind es (suc i) l h =
    let e : suc i - 1 ≡ i = omega arith in
    (omega arith, rw e (tentative-kind (kind (get_or es i [])) (sym (flag-take es i false l) ∙ h)))

behind-flag : (es : List Entry) (k : ℕ) → k ≤ length es → AfterTentative es k → flag false (take k es) ≡ true
behind-flag es zero l h = absurd (omega (arith, h.0))
behind-flag es (suc i) l h =
    let e : suc i - 1 ≡ i = omega arith in
    let t : kind (get_or es i []) ≡ Tentative = rw e at h.1 in
    flag-take es i false l ∙ (rw t)

module _ (es : List Entry) (k : ℕ) (l : k ≤ length es) where
  pub takes-cost : Takes es k (cost_after (flag false (take k es)))
  unfolding cost_after
  takes-cost =
      record {
        two = λ b. rw (behind-flag es k l b);
        one = λ n. rw (never (flag false (take k es)) (λ t. n (flag-behind es k l t)));
      }

  pub cost_takes : (slots : ℕ) → Takes es k slots → slots ≡ cost_after (flag false (take k es))
  unfolding cost_after
  cost_takes slots t = go (flag false (take k es)) refl
    where
      go : (z : Bool) → flag false (take k es) ≡ z → slots ≡ cost_after z
      go true z = t.two (flag-behind es k l z)
      go false z = t.one (λ b. false≢true (sym z ∙ behind-flag es k l b))
