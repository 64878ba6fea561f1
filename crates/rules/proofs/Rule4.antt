-- Rule 4's test is the rule. Of one segment's slots the test is the scan of Scan4. Where the scan finds no fault, the marker and
-- the facts about the slots before it are put together slot by slot, from the marker back; the other way, those facts tell at
-- each slot that the scan finds no fault there. The segments of the chain are the visited ones.
use Prim.Native.Nat.{ℕ, zero, suc, ◌+◌, ◌<◌, zero-le, suc-le-suc}
use mathlib.Core.Path.{◌≡◌, refl, sym, ap, ◌∙◌}
use mathlib.Core.Bool.{Bool, true, false, ◌||◌, true≢false, false≢true}
use mathlib.Core.Logic.{◌⊎◌, inl, inr, ⊎_elim}
use mathlib.Core.List.{List, [], ◌∷◌}
use native.Mathlib.Nat.{suc-add, le_of_suc-le-suc, not-suc-le-zero}
use native.Mathlib.Omega.{arith}
use lib.ListN.{get_or}
use lib.Dec.{ltb}
use borrow.Author.Tests.{ltb-false, le-ltb}
use Rattle.meaning.specs.declared.Kind.{Kind}
use Rattle.meaning.specs.declared.Kind.TheVariants.{Tentative, Empty, Permanent, End, Unknown}
use Rattle.meaning.specs.Kinds.{is_tentative, is_empty, is_permanent}
use Rattle.meaning.specs.declared.Name.{Name}
use Rattle.meaning.specs.Words.{segment, slot_words, Entry, kind, name_of, slots, chain}
use Rattle.meaning.specs.Sound.{long_name, bad_slots, bad4}
use Rattle.rules.specs.Sound.{visit, IsEntry, ShortName, Readable, Rule4}
use Rattle.bools.proofs.Bools.{neither, never}
use Rattle.walks.proofs.Lists.{chain-at, chain_length, any_none, none_any}
use Rattle.walks.specs.Scan.{bad_by, long_named, scan_bad}
use Rattle.walks.proofs.Scanned.{bad_scan}

-- a name without a word above 63,999
short-holds : (n : Name) → long_name n ≡ false → ShortName n
unfolding long_name
short-holds n h =
    let a = ltb 63999 n.first in
    let b = ltb 63999 n.second in
    let c = ltb 63999 n.extension in
    let p = neither (a || b) c h in
    let q = neither a b p.0 in
    record {
      first = ltb-false 63999 n.first q.0;
      second = ltb-false 63999 n.second q.1;
      extension = ltb-false 63999 n.extension p.1;
    }

short-tested : (n : Name) → ShortName n → long_name n ≡ false
unfolding long_name
short-tested n s =
    rw (le-ltb 63999 n.first s.first, le-ltb 63999 n.second s.second, le-ltb 63999 n.extension s.extension)

-- a slot has one kind
unlike : {A : Type 0} {k a b : Kind} (is : Kind → Bool) → is a ≡ true → is b ≡ false → k ≡ a → k ≡ b → A
unlike is x y p q = absurd (true≢false (sym x ∙ ap is (sym p ∙ q) ∙ y))

-- the slots begin with an empty entry, before the marker
abbrev Begins : (es : List Entry) → Readable es → Type 0
Begins es r = (0 < r.mark) × (kind (get_or es 0 []) ≡ Empty)

-- an entry before readable slots
before-slots : (e : Entry) (es : List Entry) (r : Readable es) → IsEntry (kind e)
    → ((kind e ≡ Permanent) ⊎ (kind e ≡ Tentative) → ShortName (name_of e)) → (kind e ≡ Tentative → Begins es r) → Readable (e ∷ es)
before-slots e es r is short next =
    record {
      mark = suc r.mark;
      within = suc-le-suc r.within;
      marker = r.marker;
      before = before;
      named = named;
      followed = followed;
    }
  where
    before : (j : ℕ) → j < suc r.mark → IsEntry (kind (get_or (e ∷ es) j []))
    before zero l = is
    before (suc j) l = r.before j (le_of_suc-le-suc l)

    named : (j : ℕ) → j < suc r.mark → (kind (get_or (e ∷ es) j []) ≡ Permanent) ⊎ (kind (get_or (e ∷ es) j []) ≡ Tentative)
        → ShortName (name_of (get_or (e ∷ es) j []))
    named zero l k = short k
    named (suc j) l k = r.named j (le_of_suc-le-suc l) k

    followed : (j : ℕ) → j < suc r.mark → kind (get_or (e ∷ es) j []) ≡ Tentative
        → (j + 1 < suc r.mark) × (kind (get_or (e ∷ es) (j + 1) []) ≡ Empty)
    followed zero l k = (suc-le-suc (next k).0, (next k).1)
    followed (suc j) l k = let f = r.followed j (le_of_suc-le-suc l) k in rw (suc-add j 1) (suc-le-suc f.0, f.1)

-- the slots after an entry of readable ones
rest : (e : Entry) (es : List Entry) (r : Readable (e ∷ es)) (n : ℕ) → r.mark ≡ suc n → Readable es
rest e es r n h =
    record {
      mark = n;
      within = le_of_suc-le-suc (rw h at r.within);
      marker = rw h at r.marker;
      before = λ j l. r.before (suc j) (rw h (suc-le-suc l));
      named = λ j l. r.named (suc j) (rw h (suc-le-suc l));
      followed =
          λ j l k.
          let f = rw (h, suc-add j 1) at (r.followed (suc j) (rw h (suc-le-suc l)) k) in
          (le_of_suc-le-suc f.0, f.1);
    }

-- the marker first
ended : (e : Entry) (es : List Entry) → kind e ≡ End → Readable (e ∷ es)
ended e es x =
    record {
      mark = 0;
      within = suc-le-suc zero-le;
      marker = x;
      before = λ j l. absurd (not-suc-le-zero l);
      named = λ j l. absurd (not-suc-le-zero l);
      followed = λ j l. absurd (not-suc-le-zero l);
    }

-- what the scan tells when it finds no fault; p: a tentative entry stands directly before
abbrev Found : Bool → List Entry → Type 0
Found p es = (r : Readable es) × (p ≡ true → Begins es r)

scan_holds : (p : Bool) (es : List Entry) → scan_bad p es ≡ false → Found p es
unfolding scan_bad before-slots
scan_holds p [] h = absurd (true≢false h)
scan_holds p (e ∷ es) h = go (kind e) refl h (λ q. scan_holds q es)
  where
    go : (k : Kind) → kind e ≡ k → bad_by k p (long_named e) (scan_bad (is_tentative k) es) ≡ false
        → ((q : Bool) → scan_bad q es ≡ false → Found q es) → Found p (e ∷ es)
    go End x y f = (ended e es x, λ t. absurd (true≢false (sym t ∙ y)))
    go Empty x y f = (
      before-slots e es (f false y).0 (inr (inl x))
          (⊎_elim (unlike is_empty refl refl x) (unlike is_empty refl refl x)) (unlike is_empty refl refl x),
      λ t. (suc-le-suc zero-le, x),
    )
    go Permanent x y f =
        let u = neither (p || long_named e) (scan_bad false es) y in
        let w = neither p (long_named e) u.0 in
        let s = (f false u.1).0 in (
          before-slots e es s (inr (inr x)) (λ _. short-holds (name_of e) w.1) (unlike is_permanent refl refl x),
          λ t. absurd (true≢false (sym t ∙ w.0)),
        )
    go Tentative x y f =
        let u = neither (p || long_named e) (scan_bad true es) y in
        let w = neither p (long_named e) u.0 in
        let s = f true u.1 in (
          before-slots e es s.0 (inl x) (λ _. short-holds (name_of e) w.1) (λ _. s.1 refl),
          λ t. absurd (true≢false (sym t ∙ w.0)),
        )
    go Unknown x y f = absurd (true≢false y)

-- at an entry of readable slots the scan finds no fault if it finds none after it
scan_entry : (p : Bool) (e : Entry) (es : List Entry) (r : Readable (e ∷ es)) (n : ℕ) (h : r.mark ≡ suc n)
    → (p ≡ true → kind e ≡ Empty) → ((q : Bool) → (q ≡ true → Begins es (rest e es r n h)) → scan_bad q es ≡ false)
    → 0 < r.mark → IsEntry (kind e) → scan_bad p (e ∷ es) ≡ false
unfolding scan_bad rest
scan_entry p e es r n h f t l (inl x) =
    let a = r.followed 0 l x in
    let b = short-tested (name_of e) (r.named 0 l (inr x)) in
    let c = t true (λ _. (le_of_suc-le-suc (rw h at a.0), a.1)) in
    rw (x, never p (λ y. unlike is_tentative refl refl x (f y)), b, c)
scan_entry p e es r n h f t l (inr (inl x)) = rw x (t false (λ y. absurd (false≢true y)))
scan_entry p e es r n h f t l (inr (inr x)) =
    let b = short-tested (name_of e) (r.named 0 l (inl x)) in
    let c = t false (λ y. absurd (false≢true y)) in
    rw (x, never p (λ y. unlike is_permanent refl refl x (f y)), b, c)

scan_tested : (p : Bool) (es : List Entry) (r : Readable es) → (p ≡ true → Begins es r) → scan_bad p es ≡ false
unfolding scan_bad
scan_tested p [] r f = absurd (not-suc-le-zero r.within)
scan_tested p (e ∷ es) r f = go r.mark refl (λ q. scan_tested q es)
  where
    go : (m : ℕ) → r.mark ≡ m → ((q : Bool) (s : Readable es) → (q ≡ true → Begins es s) → scan_bad q es ≡ false)
        → scan_bad p (e ∷ es) ≡ false
    go zero h t = rw (rw h at r.marker) (never p (λ x. let g = f x in omega arith))
    go (suc n) h t =
        let l : 0 < r.mark = rw h (suc-le-suc zero-le) in
        scan_entry p e es r n h (λ x. (f x).1) (λ q. t q (rest e es r n h)) l (r.before 0 l)

pub readable-holds : (es : List Entry) → bad_slots es ≡ false → Readable es
readable-holds es h = (scan_holds false es (rw bad_scan at h)).0

pub readable-tested : (es : List Entry) → Readable es → bad_slots es ≡ false
readable-tested es r = rw bad_scan (scan_tested false es r (λ x. absurd (false≢true x)))

-- the test of one segment
abbrev bad_at : List ℕ → ℕ → Bool
bad_at d s = bad_slots (slots (slot_words d) (segment d s))

pub rule4-holds : (d : List ℕ) → bad4 d ≡ false → Rule4 d
unfolding bad4 chain
rule4-holds d h i l =
    readable-holds (slots (slot_words d) (segment d (visit d i)))
    (rw chain-at at (any_none (bad_at d) (chain d) 0 h i (rw chain_length l)))

pub rule4-tested : (d : List ℕ) → Rule4 d → bad4 d ≡ false
unfolding bad4 chain
rule4-tested d r =
    none_any (bad_at d) (chain d) 0
    (λ i l.
    let m = rw chain_length at l in
    rw chain-at (readable-tested (slots (slot_words d) (segment d (visit d i))) (r i m)))
