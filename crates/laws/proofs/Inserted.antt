-- The tentative entry inserted before an area, on lists of entries. Fine entries stay fine, since the area stands after the new entry
-- and, after a tentative one, an empty entry of length 0 stands before it; their blocks stay as many; and the new one, where the area
-- began, is the one more among the living, in the last of the slots that it costs.
use Prim.Native.Nat.{ℕ, suc, ◌+◌, ◌-◌, ◌≤◌}
use mathlib.Core.Path.{◌≡◌, refl, sym, ap, ◌∙◌, subst}
use mathlib.Core.Logic.{inr}
use mathlib.Core.Bool.{Bool, true, false, cond}
use mathlib.Core.List.{List, [], ◌∷◌, ◌++◌, append_assoc}
use native.Mathlib.Nat.{add-zero}
use native.Mathlib.Omega.{arith}
use lib.ListN.{length, take, drop, set, length-set, length-append, length-replicate}
use lib.Seq.{take-append_seam, get_or-append_seam, length-take-le}
use lib.Dec.{eqb}
use Rattle.meaning.specs.declared.Kind.TheVariants.{Tentative, Empty}
use Rattle.meaning.specs.Kinds.{kind_of}
use Rattle.meaning.specs.Words.{segment, first_of, Entry, length_word, kind, blocks, entries, total}
use Rattle.meaning.specs.Requests.{entry_of, empty_entry}
use Rattle.meaning.specs.Enter.{cost_after, inserted}
use Rattle.walks.specs.Scan.{long_named}
use Rattle.walks.proofs.Alls.{all_append, all_left, all_right_lem}
use Rattle.walks.proofs.Filled.{total-append}
use Rattle.walks.proofs.Linked.{Used}
use Rattle.laws.proofs.Entries.{Grown}
use Rattle.rules.specs.Standing.{StandsAt}
use Rattle.rules.proofs.Standing.{stands_after}
use Rattle.rules.proofs.Fine.{free, used, Fine, flag, fine-after, fine_with}
use Rattle.walks.proofs.Flat.{OfWords, Wide}
use Rattle.laws.proofs.Living.{Live, living, living-area, living_other, living-append, Gained}
use Rattle.laws.proofs.Tidying.{resized}

-- the entry that is inserted, of length n
pub record New (w n : ℕ) (e : Entry) : Type 0 where
  pub tentative : kind e ≡ Tentative
  pub short : long_named e ≡ false
  pub wide : length e ≡ w
  pub blocks : blocks e ≡ n

-- the empty entry of length 0 that stands before it, after a tentative one
abbrev gap : ℕ → Bool → List Entry
gap w p = cond p (empty_entry w 0 ∷ []) []

record Blank (w : ℕ) : Type 0 where
  kind : kind (empty_entry w 0) ≡ Empty
  wide : length (empty_entry w 0) ≡ w
  blocks : blocks (empty_entry w 0) ≡ 0

blank-is : (w : ℕ) → 7 ≤ w → Blank w
unfolding entry_of kind_of
blank-is w h = record { kind = refl; wide = (let l = length-replicate {A = ℕ} (w - 7) 0 in omega arith); blocks = refl }

-- other entries after it
record Behind (w : ℕ) (p : Bool) (l : List Entry) : Type 0 where
  fine : Fine false l → Fine p (gap w p ++ l)
  wide : Wide w l → Wide w (gap w p ++ l)
  sum : total (gap w p ++ l) ≡ total l
  living : (b : ℕ) → living b (gap w p ++ l) ≡ living b l
  long : length (gap w p ++ l) + 1 ≡ length l + cost_after p

behind : (w : ℕ) → 7 ≤ w → (p : Bool) (l : List Entry) → Behind w p l
unfolding total cost_after
behind w h true l =
    let e = blank-is w h in
    record {
      fine = λ f. (free e.kind, rw e.kind f);
      wide = λ a. (e.wide, a);
      sum = omega (arith, e.blocks);
      living = λ b. living-area b (empty_entry w 0) l (rw e.kind) ∙ (rw (e.blocks, add-zero b));
      long = omega arith;
    }
behind w h false l = record { fine = λ f. f; wide = λ a. a; sum = refl; living = λ b. refl; long = omega arith }

-- the entry as it is found among the living
abbrev pub live_at : ℕ → Entry → Live
live_at b e = record { first = b; entry = e }

-- what the new entry, at blocks after the first, makes of entries: they cost so many slots more
pub record Added (w : ℕ) (new : Entry) (at cost : ℕ) (es out : List Entry) : Type 0 where
  pub fine : Fine false out
  pub wide : Wide w out
  pub sum : total out ≡ total es
  pub long : length out ≡ length es + cost
  pub gained : (b : ℕ) → Gained (live_at (b + at) new) (living b es) (living b out)

drop_past : (xs : List Entry) (x : Entry) (ys : List Entry) → drop (suc (length xs)) (xs ++ x ∷ ys) ≡ ys
drop_past [] x ys = refl
drop_past (y ∷ xs) x ys = drop_past xs x ys

module _ (w n : ℕ) (enough : 7 ≤ w) (new : Entry) (nw : New w n new) where
  module _ (xs : List Entry) (x : Entry) (ys : List Entry) (kx : kind x ≡ Empty) (lx : length x ≡ w) (le : n ≤ blocks x) where
    abbrev x' : Entry
    x' = set x length_word (blocks x - n)

    abbrev p : Bool
    p = flag false xs

    abbrev tail : List Entry
    tail = new ∷ x' ∷ ys

    lessened : Grown (blocks x - n) x x'
    lessened = resized w enough x (blocks x - n) lx

    kx' : kind x' ≡ Empty
    kx' = lessened.kind ∙ kx

    tail-living : (b : ℕ) → living b tail ≡ live_at b new ∷ living (b + blocks x) ys
    tail-living b =
        let e : b + n + (blocks x - n) ≡ b + blocks x = omega arith in
        living_other b new (x' ∷ ys) (rw nw.tentative)
        ∙ (rw (nw.blocks, living-area (b + n) x' ys (rw kx'), lessened.blocks, e))

    bh : Behind w p tail
    bh = behind w enough p tail

    added-here : Fine false (xs ++ x ∷ ys) → Wide w (xs ++ x ∷ ys)
        → Added w new (total xs) (cost_after p) (xs ++ x ∷ ys) (xs ++ (gap w p ++ tail))
    unfolding total
    added-here f a =
        record {
          fine =
              fine_with xs (x ∷ ys) (gap w p ++ tail) false f
              (bh.fine (used (inr nw.tentative) refl nw.short, (free kx', rw kx' rest)));
          wide =
              all_append (OfWords w) xs (gap w p ++ tail) (all_left (OfWords w) xs (x ∷ ys) a)
              (bh.wide (nw.wide, (length-set x length_word (blocks x - n) ∙ lx, (all_right_lem (OfWords w) xs (x ∷ ys) a).1)));
          sum =
              let t1 = total-append xs (gap w p ++ tail) in
              let t2 = total-append xs (x ∷ ys) in
              omega (arith, bh.sum, nw.blocks, lessened.blocks);
          long =
              let l1 = length-append xs (gap w p ++ tail) in
              let l2 = length-append xs (x ∷ ys) in
              omega (arith, bh.long);
          gained =
              λ b.
              record {
                front = living b xs;
                back = living (b + total xs + blocks x) ys;
                was = living-append xs (x ∷ ys) b ∙ (rw (living-area (b + total xs) x ys (rw kx)));
                is = living-append xs (gap w p ++ tail) b ∙ (rw (bh.living (b + total xs), tail-living (b + total xs)));
              };
        }
      where
        rest : Fine false ys
        rest = rw kx at (fine-after xs (x ∷ ys) false f).1

    inserted-is : inserted w new n (cost_after p) (length xs) (xs ++ x ∷ ys) ≡ xs ++ (gap w p ++ tail)
    unfolding inserted cost_after
    inserted-is =
        rw (take-append_seam xs (x ∷ ys), get_or-append_seam xs x ys [], drop_past xs x ys, gap_is p)
        (append_assoc xs (gap w p) tail)
      where
        gap_is : (q : Bool) → cond (eqb (cost_after q) 2) (empty_entry w 0 ∷ []) [] ≡ gap w q
        gap_is true = refl
        gap_is false = refl

    added : Fine false (xs ++ x ∷ ys) → Wide w (xs ++ x ∷ ys)
        → Added w new (total xs) (cost_after p) (xs ++ x ∷ ys) (inserted w new n (cost_after p) (length xs) (xs ++ x ∷ ys))
    added f a = subst (Added w new (total xs) (cost_after p) (xs ++ x ∷ ys)) (sym inserted-is) (added-here f a)

  -- the same of entries es, of which the area is one
  pub added_in : (es xs : List Entry) (x : Entry) (ys : List Entry) (k cost : ℕ)
      → es ≡ xs ++ x ∷ ys → k ≡ length xs → cost ≡ cost_after (flag false xs) → kind x ≡ Empty → n ≤ blocks x
      → Fine false es → Wide w es → Added w new (total xs) cost es (inserted w new n cost k es)
  added_in es xs x ys k cost e i c kx le f a =
      let g : Fine false (xs ++ x ∷ ys) = subst (Fine false) e f in
      let h : Wide w (xs ++ x ∷ ys) = subst (Wide w) e a in
      rw (e, i, c) (added xs x ys kx (all_right_lem (OfWords w) xs (x ∷ ys) h).0 le g h)

-- where it stands among the entries of a segment: after k of them, in the last of the slots that it costs
gap-long : (w : ℕ) (p : Bool) (xs : List Entry) → length (xs ++ cond (eqb (cost_after p) 2) (empty_entry w 0 ∷ []) []) + 1 ≡ length xs + cost_after p
unfolding cost_after
gap-long w true xs = let l = length-append xs (empty_entry w 0 ∷ []) in omega arith
gap-long w false xs = let l = length-append xs [] in omega arith

gap-total : (w : ℕ) (p : Bool) (xs : List Entry) → total (xs ++ cond (eqb (cost_after p) 2) (empty_entry w 0 ∷ []) []) ≡ total xs
unfolding cost_after total entry_of
gap-total w true xs = let t = total-append xs (empty_entry w 0 ∷ []) in omega arith
gap-total w false xs = let t = total-append xs [] in omega arith

pub inserted_stands : (D : List ℕ) (s : ℕ) → Used D s → (w : ℕ) (new : Entry) (n cost : ℕ) (p : Bool) (k : ℕ) (es : List Entry)
    → cost ≡ cost_after p → k ≤ length es → entries D s ≡ inserted w new n cost k es
    → (b : ℕ) → first_of (segment D s) + total (take k es) ≡ b → StandsAt D s (k + cost) b new
unfolding inserted
inserted_stands D s u w new n cost p k es c l q b f =
    let xs : List Entry = take k es ++ cond (eqb (cost_after p) 2) (empty_entry w 0 ∷ []) [] in
    let i : length xs + 1 ≡ k + cost_after p = gap-long w p (take k es) ∙ ap (λ (j : ℕ). j + cost_after p) (length-take-le k es l) in
    rw (← f, c, ← i, ← gap-total w p (take k es)) (stands_after D s u xs new _ (rw c at q))
