-- Entries that rule 4 lets stand before a marker. A flag says whether a tentative entry stands directly before: if so, only an empty
-- one may follow, and at the end it may not be set. The slots of a readable segment are such entries, a marker and a rest; and such
-- entries with a marker after them are readable. What stands after some of them may be replaced by what may follow them.
use Prim.Native.Nat.{suc, ◌<◌}
use mathlib.Core.Path.{◌≡◌, refl, sym, ap, ◌∙◌, subst}
use mathlib.Core.Logic.{◌⊎◌, inl, inr}
use mathlib.Core.Bool.{Bool, true, false, cond, ◌||◌, true≢false, false≢true}
use mathlib.Core.List.{List, [], ◌∷◌, ◌++◌, append-nil}
use native.Mathlib.Omega.{arith}
use lib.ListN.{length}
use Rattle.bools.proofs.Bools.{neither}
use Rattle.meaning.specs.declared.Kind.{Kind}
use Rattle.meaning.specs.declared.Kind.TheVariants.{Tentative, Empty, Permanent, End, Unknown}
use Rattle.meaning.specs.Kinds.{is_tentative, is_end}
use Rattle.meaning.specs.Words.{Entry, kind, upto}
use Rattle.walks.specs.Scan.{bad_by, long_named, scan_bad}
use Rattle.rules.proofs.Touch.{by_rest}

-- one entry, where p says that a tentative one stands directly before it
pub data Okay (p : Bool) (e : Entry) : Type 0 where
  free : kind e ≡ Empty → Okay p e
  used : (kind e ≡ Permanent) ⊎ (kind e ≡ Tentative) → p ≡ false → long_named e ≡ false → Okay p e

abbrev pub Fine : Bool → List Entry → Type 0
Fine p [] = p ≡ false
Fine p (e ∷ es) = Okay p e × Fine (is_tentative (kind e)) es

-- whether the last of some entries is tentative, where p says it of the one before them
abbrev pub flag : Bool → List Entry → Bool
flag p [] = p
flag p (e ∷ es) = flag (is_tentative (kind e)) es

-- the slots of a readable segment
by_okay : (k : Kind) (p b r : Bool) (e : Entry) → kind e ≡ k → long_named e ≡ b → is_end k ≡ false → bad_by k p b r ≡ false → Okay p e
by_okay Tentative p b r e h g i j = let n = neither p b (neither (p || b) r j).0 in used (inr h) n.0 (g ∙ n.1)
by_okay Empty p b r e h g i j = free h
by_okay Permanent p b r e h g i j = let n = neither p b (neither (p || b) r j).0 in used (inl h) n.0 (g ∙ n.1)
by_okay End p b r e h g i j = absurd (true≢false i)
by_okay Unknown p b r e h g i j = absurd (true≢false j)

by_end : (k : Kind) (p b r : Bool) → is_end k ≡ true → bad_by k p b r ≡ false → p ≡ false
by_end Tentative p b r i j = absurd (false≢true i)
by_end Empty p b r i j = absurd (false≢true i)
by_end Permanent p b r i j = absurd (false≢true i)
by_end End p b r i j = j
by_end Unknown p b r i j = absurd (false≢true i)

pub slots-fine : (xs : List Entry) (p : Bool) → scan_bad p xs ≡ false → Fine p (upto xs) × (length (upto xs) < length xs)
unfolding scan_bad upto
slots-fine [] p h = absurd (true≢false h)
slots-fine (e ∷ xs) p h = go (is_end (kind e)) refl (slots-fine xs (is_tentative (kind e)))
  where
    go : (x : Bool) → is_end (kind e) ≡ x
        → (scan_bad (is_tentative (kind e)) xs ≡ false → Fine (is_tentative (kind e)) (upto xs) × (length (upto xs) < length xs))
        → Fine p (cond x [] (e ∷ upto xs)) × (length (cond x [] (e ∷ upto xs)) < suc (length xs))
    go true x i = (by_end (kind e) p (long_named e) _ x h, omega arith)
    go false x i =
        let j = i (by_rest (kind e) p (long_named e) _ x h) in
        ((by_okay (kind e) p (long_named e) _ e refl refl x h, j.0), omega arith)

-- entries that are fine, with a marker after them
okay_by : (p r : Bool) (e : Entry) → Okay p e → r ≡ false → bad_by (kind e) p (long_named e) r ≡ false
okay_by p r e (free h) g = rw h g
okay_by p r e (used (inl h) i j) g = rw (h, i, j) g
okay_by p r e (used (inr h) i j) g = rw (h, i, j) g

okay_end : (p : Bool) (e : Entry) → Okay p e → is_end (kind e) ≡ false
okay_end p e (free h) = rw h
okay_end p e (used (inl h) i j) = rw h
okay_end p e (used (inr h) i j) = rw h

pub fine-slots : (es : List Entry) (p : Bool) (m : Entry) (rest : List Entry) → Fine p es → kind m ≡ End
    → scan_bad p (es ++ m ∷ rest) ≡ false
unfolding scan_bad
fine-slots [] p m rest f h = rw h f
fine-slots (e ∷ es) p m rest f h = okay_by p _ e f.0 (fine-slots es _ m rest f.1 h)

pub fine-upto : (es : List Entry) (p : Bool) (m : Entry) (rest : List Entry) → Fine p es → kind m ≡ End → upto (es ++ m ∷ rest) ≡ es
unfolding upto
fine-upto [] p m rest f h = rw h
fine-upto (e ∷ es) p m rest f h =
    rw (okay_end p e f.0) (ap {B = List Entry} (λ l. e ∷ l) (fine-upto es _ m rest f.1 h))

-- only an empty entry follows a tentative one
pub okay_free : (p : Bool) (e : Entry) → p ≡ true → Okay p e → kind e ≡ Empty
okay_free p e t (free h) = h
okay_free p e t (used h i j) = absurd (false≢true (sym i ∙ t))

-- entries one after the other
pub flag-append : (xs ys : List Entry) (p : Bool) → flag p (xs ++ ys) ≡ flag (flag p xs) ys
flag-append [] ys p = refl
flag-append (x ∷ xs) ys p = flag-append xs ys (is_tentative (kind x))

pub fine-after : (xs ys : List Entry) (p : Bool) → Fine p (xs ++ ys) → Fine (flag p xs) ys
fine-after [] ys p f = f
fine-after (x ∷ xs) ys p f = fine-after xs ys (is_tentative (kind x)) f.1

pub fine_with : (xs ys zs : List Entry) (p : Bool) → Fine p (xs ++ ys) → Fine (flag p xs) zs → Fine p (xs ++ zs)
fine_with [] ys zs p f g = g
fine_with (x ∷ xs) ys zs p f g = (f.0, fine_with xs ys zs (is_tentative (kind x)) f.1 g)

pub fine_before : (xs ys : List Entry) (p : Bool) → Fine p (xs ++ ys) → flag p xs ≡ false → Fine p xs
fine_before xs ys p f g = subst (Fine p) (append-nil xs) (fine_with xs ys [] p f g)
