-- A change that keeps the shape keeps a directory sound, if each key that may stand once comes afterwards from one such key at most: it
-- is found where that was, with the entry read anew and the first block unchanged. A key that the change does not name is found as
-- before, and all its rows are the same.
use Prim.Native.Nat.{ℕ, ◌-◌, ◌≤◌}
use mathlib.Core.Path.{◌≡◌, refl, sym, ap, ◌∙◌, subst}
use mathlib.Core.Bool.{Bool, true, false, cond}
use mathlib.Core.List.{List, [], ◌∷◌, map}
use mathlib.Core.Option
use mathlib.Core.Option.{Option, none, some}
use native.Mathlib.Omega.{arith}
use Rattle.bools.proofs.Bools.{never}
use Rattle.meaning.specs.Words.{slot_words, Entry, chain, Row, rows, all_entries}
use Rattle.meaning.specs.Answers.{find}
use Rattle.meaning.specs.declared.Key.{Key}
use Rattle.meaning.specs.Keys.{holds, once}
use Rattle.laws.specs.Order.{every}
use Rattle.walks.specs.Lists.{All}
use Rattle.walks.proofs.Alls.{all_map}
use Rattle.rules.proofs.Keys.{one_key, empty_holds, count}
use Rattle.rules.proofs.Grid.{entry_at}
use Rattle.rules.proofs.Soundness.{Sound}
use Rattle.rules.proofs.Touch.{Touch, keep, area, gone, made, live_still, shifted}
use Rattle.laws.proofs.Move.{Move, chain_same, bad1-same, bad2-same, linked-same, readable-kept, filled-same, rows-moved}
use Rattle.rules.proofs.Rows.{Stand, standing, entry_of, entries-rows, few-rows, find-some, find_tied, count_tied}

-- whether the key k is that of the row afterwards, by a test of its entry before
abbrev pub After : List ℕ → List ℕ → Key → (Entry → Bool) → Row → Type 0
After d d' k u r = holds k (entry_at d' (slot_words d) r.at) ≡ u r.entry

abbrev pub nothing : Entry → Bool
nothing e = false

-- where a key comes from: it is none of C and stays; from one key; from nowhere
pub data Source (C : Key → Type 0) (d d' : List ℕ) (k : Key) : Type 0 where
  other : (C k → ⊥) → Source C d d' k
  from : (u : Key) → once u ≡ true → All (After d d' k (holds u)) (rows d) → Source C d d' k
  nowhere : All (After d d' k nothing) (rows d) → Source C d d' k

-- for a key that is not of C the slot is the same, or the key is neither the one's nor the other's
data Beside (k : Key) (x : ℕ) (e e' : Entry) : Type 0 where
  equal : e' ≡ e → x ≡ 0 → Beside k x e e'
  neither : holds k e ≡ false → holds k e' ≡ false → Beside k x e e'

not_of : (C : Key → Type 0) (k l : Key) (e : Entry) → (C k → ⊥) → C l → holds l e ≡ true → holds k e ≡ false
not_of C k l e out c h = never (holds k e) (λ g. out (subst C (one_key l k e h g) c))

beside : {C : Key → Type 0} {x : ℕ} {e e' : Entry} (k : Key) → (C k → ⊥) → Touch C x e e' → Beside k x e e'
beside k out (keep h z) = equal h z
beside {e = e} {e' = e'} k out (area h g) = neither (empty_holds k e h) (empty_holds k e' g)
beside {C} {e = e} {e' = e'} k out (gone l c o h g z) = neither (not_of C k l e out c h) (empty_holds k e' g)
beside {C} {e = e} {e' = e'} k out (made l m c o h c' h' g b z) = neither (not_of C k l e out c h) (not_of C k m e' out c' h')

beside_holds : {k : Key} {x : ℕ} {e e' : Entry} → Beside k x e e' → holds k e' ≡ holds k e
beside_holds (equal h z) = rw h
beside_holds (neither g g') = rw (g, g')

count-nothing : (es : List Entry) → count nothing es ≡ 0
unfolding count
count-nothing [] = refl
count-nothing (e ∷ es) = rw (count-nothing es)

find-nothing : (rs : List Row) → find nothing rs ≡ none
unfolding find
find-nothing [] = refl
find-nothing (r ∷ rs) = find-nothing rs

-- what is found is the first of all rows that pass the test
unfoldable pub first_of : List Row → Option Row
first_of [] = none
first_of (r ∷ rs) = some r

pub find_first : (p : Entry → Bool) (rs : List Row) → find p rs ≡ first_of (every p rs)
unfolding find every first_of
find_first p [] = refl
find_first p (r ∷ rs) = go (p r.entry) (find_first p rs)
  where
    go : (x : Bool) → find p rs ≡ first_of (every p rs) → cond x (some r) (find p rs) ≡ first_of (cond x (r ∷ every p rs) (every p rs))
    go true i = refl
    go false i = i

pub found-every : (p : Entry → Bool) (rs rs' : List Row) → every p rs ≡ every p rs' → find p rs ≡ find p rs'
found-every p rs rs' e = find_first p rs ∙ ap first_of e ∙ sym (find_first p rs')

-- a row with its entry read anew
abbrev pub reread : List ℕ → List ℕ → Row → Row
reread d d' r = record { seg = r.seg; slot = r.slot; at = r.at; first = r.first; entry = entry_at d' (slot_words d) r.at }

module _ (v : ℕ) (C : Key → Type 0) (δ : ℕ → ℕ) (d d' : List ℕ) (s : Sound v d) (m : Move C δ d d') where
  abbrev f' : ℕ → Entry
  f' p = entry_at d' (slot_words d) p

  -- a key that is not of C: the same test before
  pub still_after : (k : Key) → (C k → ⊥) → All (After d d' k (holds k)) (rows d)
  still_after k out = all_map (Stand d) (After d d' k (holds k)) same (rows d) (standing v d s)
    where
      same : (r : Row) → Stand d r → After d d' k (holds k) r
      same r x = rw x.is (beside_holds (beside k out (m.at r.at x.slot.on).touch))

  tests : (k : Key) (u : Entry → Bool) → All (After d d' k u) (rows d) → count u (map entry_of (rows d)) ≤ 1
      → count (holds k) (all_entries d') ≤ 1
  tests k u a l =
      rw (← (entries-rows d'), rows-moved C δ d d' m, count_tied (holds k) u (shifted δ f') (rows d) a) l

  at_most_one : (k : Key) → once k ≡ true → Source C d d' k → count (holds k) (all_entries d') ≤ 1
  at_most_one k o (other out) = tests k (holds k) (still_after k out) (few-rows v d s k o)
  at_most_one k o (from u o' a) = tests k (holds u) a (few-rows v d s u o')
  at_most_one k o (nowhere a) = tests k nothing a (let z = count-nothing (map entry_of (rows d)) in omega arith)

  pub stays_sound : ((k : Key) → once k ≡ true → Source C d d' k) → Sound v d'
  stays_sound t =
      record {
        size = bad1-same C δ d d' m v ∙ s.size;
        header = bad2-same C δ d d' m ∙ s.header;
        links = linked-same C δ d d' m ∙ s.links;
        readable = rw (chain_same C δ d d' m) (readable-kept C δ d d' m (chain d) s.readable);
        full = filled-same C δ d d' m v s.readable ∙ s.full;
        keys = λ k o. at_most_one k o (t k o);
      }

  -- where a key is found afterwards
  found_some : (k u : Key) → All (After d d' k (holds u)) (rows d) → (o : Option Row) → find (holds u) (rows d) ≡ o
      → find (holds k) (rows d') ≡ Option.map (reread d d') o
  found_some k u a none e =
      rw (rows-moved C δ d d' m, find_tied (holds k) (holds u) (shifted δ f') (rows d) a, e)
  found_some k u a (some r) e =
      let x = find-some (Stand d) (holds u) (rows d) r (standing v d s) e in
      let z : δ r.at ≡ 0 = live_still u (m.at r.at x.0.slot.on).touch (rw x.0.is at x.1) in
      let y : r.first - δ r.at ≡ r.first = omega arith in
      rw (rows-moved C δ d d' m, find_tied (holds k) (holds u) (shifted δ f') (rows d) a, e, y)

  pub found_from : (k u : Key) → All (After d d' k (holds u)) (rows d)
      → find (holds k) (rows d') ≡ Option.map (reread d d') (find (holds u) (rows d))
  found_from k u a = found_some k u a (find (holds u) (rows d)) refl

  pub found_nowhere : (k : Key) → All (After d d' k nothing) (rows d) → find (holds k) (rows d') ≡ none
  found_nowhere k a =
      rw (rows-moved C δ d d' m, find_tied (holds k) nothing (shifted δ f') (rows d) a, find-nothing (rows d))

  -- all rows of a key that is not of C are the same, and so is the first
  every_from : (k : Key) → (C k → ⊥) → (rs : List Row) → All (Stand d) rs → every (holds k) (map (shifted δ f') rs) ≡ every (holds k) rs
  unfolding every
  every_from k out [] a = refl
  every_from k out (r ∷ rs) a = go (beside k out t) (every_from k out rs a.1)
    where
      t : Touch C (δ r.at) (entry_at d (slot_words d) r.at) (f' r.at)
      t = (m.at r.at a.0.slot.on).touch

      go : Beside k (δ r.at) (entry_at d (slot_words d) r.at) (f' r.at)
          → every (holds k) (map (shifted δ f') rs) ≡ every (holds k) rs
          → cond (holds k (f' r.at)) (shifted δ f' r ∷ every (holds k) (map (shifted δ f') rs)) (every (holds k) (map (shifted δ f') rs))
          ≡ cond (holds k r.entry) (r ∷ every (holds k) rs) (every (holds k) rs)
      go (equal h z) i =
          let q : f' r.at ≡ r.entry = h ∙ sym a.0.is in
          let y : r.first - δ r.at ≡ r.first = omega arith in
          rw (i, q, y)
      go (neither g g') i = let n : holds k r.entry ≡ false = rw a.0.is g in rw (i, g', n)

  pub every_other : (k : Key) → (C k → ⊥) → every (holds k) (rows d') ≡ every (holds k) (rows d)
  every_other k out = rw (rows-moved C δ d d' m) (every_from k out (rows d) (standing v d s))

  pub found_other : (k : Key) → (C k → ⊥) → find (holds k) (rows d') ≡ find (holds k) (rows d)
  found_other k out = found-every (holds k) (rows d') (rows d) (every_other k out)
