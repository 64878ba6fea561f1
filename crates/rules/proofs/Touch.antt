-- What a request may do to a slot, and what follows for the slots of a segment. It keeps the slot; or an empty entry stays one;
-- or an entry of a key that the request names, and that may stand once, becomes empty, or permanent with a key that it names. So an entry
-- of a key that may stand more than once is kept. One function tells by how
-- much the first block of the slot at a place falls. Slots so touched stay readable, keep their sum of lengths, and have the
-- same rows but for that.
use Prim.Native.Nat.{ℕ, zero, suc, ◌+◌, ◌-◌}
use mathlib.Core.Path.{◌≡◌, refl, sym, ap, ap₂, ◌∙◌}
use mathlib.Core.Logic.{◌⊎◌, inl, inr}
use mathlib.Core.Bool.{Bool, true, false, cond, ◌||◌, true≢false, false≢true}
use mathlib.Core.List.{List, [], ◌∷◌, map}
use native.Mathlib.Omega.{arith}
use Rattle.bools.proofs.Bools.{neither, never}
use Rattle.meaning.specs.declared.Kind.{Kind}
use Rattle.meaning.specs.declared.Kind.TheVariants.{Tentative, Empty, Permanent, End, Unknown}
use Rattle.meaning.specs.Kinds.{is_tentative, is_end}
use Rattle.meaning.specs.Words.{Entry, kind, blocks, upto, total, Row, rows_in}
use Rattle.walks.specs.Scan.{bad_by, long_named, scan_bad}
use Rattle.meaning.specs.declared.Key.{Key}
use Rattle.meaning.specs.Keys.{holds, once}
use Rattle.walks.specs.Lists.{All}
use Rattle.rules.proofs.Keys.{one_key, holds-kind, empty_holds}
use Rattle.rules.proofs.Grid.{grid}

-- C: the keys that are named; x: by how much the slot's first block falls. Only an empty entry's may
pub data Touch (C : Key → Type 0) (x : ℕ) (e e' : Entry) : Type 0 where
  keep : e' ≡ e → x ≡ 0 → Touch C x e e'
  area : kind e ≡ Empty → kind e' ≡ Empty → Touch C x e e'
  gone : (k : Key) → C k → once k ≡ true → holds k e ≡ true → kind e' ≡ Empty → x ≡ 0 → Touch C x e e'
  made : (k l : Key) → C k → once k ≡ true → holds k e ≡ true → C l → holds l e' ≡ true → kind e' ≡ Permanent → long_named e' ≡ false
      → x ≡ 0 → Touch C x e e'

-- at place p, from the slots f to the slots f': the first block of the slot at p falls by δ p
pub record At (C : Key → Type 0) (δ : ℕ → ℕ) (w : ℕ) (f f' : ℕ → Entry) (p : ℕ) : Type 0 where
  pub touch : Touch C (δ p) (f p) (f' p)
  pub even : blocks (f' p) + δ (p + w) ≡ blocks (f p) + δ p

live_end : (e : Entry) → (kind e ≡ Permanent) ⊎ (kind e ≡ Tentative) → is_end (kind e) ≡ false
live_end e (inl h) = rw h
live_end e (inr h) = rw h

-- the marker stays, and no other slot becomes one
end_same : {C : Key → Type 0} {x : ℕ} {e e' : Entry} → Touch C x e e' → is_end (kind e') ≡ is_end (kind e)
end_same (keep h z) = rw h
end_same (area h g) = rw (h, g)
end_same {e = e} (gone k c o h g z) = rw g (sym (live_end e (holds-kind k e h)))
end_same {e = e} (made k l c o h c' h' g b z) = rw g (sym (live_end e (holds-kind k e h)))

-- the first block falls of an empty entry only
still : {C : Key → Type 0} {x : ℕ} {e e' : Entry} → Touch C x e e' → (kind e ≡ Empty → ⊥) → x ≡ 0
still (keep h z) n = z
still (area h g) n = absurd (n h)
still (gone k c o h g z) n = z
still (made k l c o h c' h' g b z) n = z

end_still : {C : Key → Type 0} {x : ℕ} {e e' : Entry} → Touch C x e e' → is_end (kind e) ≡ true → x ≡ 0
end_still t g = still t (λ h. false≢true (rw h at g))

pub live_still : {C : Key → Type 0} {x : ℕ} {e e' : Entry} (k : Key) → Touch C x e e' → holds k e ≡ true → x ≡ 0
live_still {e = e} k t g = still t (λ h. false≢true (sym (empty_holds k e h) ∙ g))

-- an entry of a key that may stand more than once is kept
pub spare : {C : Key → Type 0} {x : ℕ} {e e' : Entry} (k : Key) → once k ≡ false → Touch C x e e' → holds k e ≡ true → e' ≡ e
spare k s (keep h z) t = h
spare {e = e} k s (area h g) t = absurd (false≢true (sym (empty_holds k e h) ∙ t))
spare {e = e} k s (gone l c o h g z) t = absurd (true≢false (sym o ∙ ap once (one_key l k e h t) ∙ s))
spare {e = e} k s (made l m c o h c' h' g b z) t = absurd (true≢false (sym o ∙ ap once (one_key l k e h t) ∙ s))

-- no slot becomes tentative
tentative_less : {C : Key → Type 0} {x : ℕ} {e e' : Entry} → Touch C x e e' → is_tentative (kind e') ≡ true
    → is_tentative (kind e) ≡ true
tentative_less (keep h z) g = rw h at g
tentative_less (area h i) g = absurd (false≢true (rw i at g))
tentative_less (gone k c o h i z) g = absurd (false≢true (rw i at g))
tentative_less (made k l c o h c' h' i b z) g = absurd (false≢true (rw i at g))

-- rule 4. p, p': a tentative entry directly before; b, b': a long name; r, r': the slots after are bad
less : (p p' : Bool) → (p' ≡ true → p ≡ true) → p ≡ false → p' ≡ false
less p p' f h = never p' (λ t. true≢false (sym (f t) ∙ h))

or3 : (p p' b b' r r' : Bool) → (p' ≡ true → p ≡ true) → (r ≡ false → r' ≡ false) → b' ≡ false → p || b || r ≡ false
    → p' || b' || r' ≡ false
or3 p p' b b' r r' f g i h = let n = neither (p || b) r h in rw (less p p' f (neither p b n.0).0, i, g n.1)

short-name : (p b r : Bool) → p || b || r ≡ false → b ≡ false
short-name p b r h = (neither p b (neither (p || b) r h).0).1

by_kept : (k : Kind) (p p' b r r' : Bool) → (p' ≡ true → p ≡ true) → (r ≡ false → r' ≡ false) → bad_by k p b r ≡ false
    → bad_by k p' b r' ≡ false
by_kept Tentative p p' b r r' f g h = or3 p p' b b r r' f g (short-name p b r h) h
by_kept Empty p p' b r r' f g h = g h
by_kept Permanent p p' b r r' f g h = or3 p p' b b r r' f g (short-name p b r h) h
by_kept End p p' b r r' f g h = less p p' f h
by_kept Unknown p p' b r r' f g h = h

by_live : (k : Kind) (p b r : Bool) → (k ≡ Permanent) ⊎ (k ≡ Tentative) → bad_by k p b r ≡ false → p || b || r ≡ false
by_live k p b r (inl e) h = rw e at h
by_live k p b r (inr e) h = rw e at h

by_touch : {C : Key → Type 0} {x : ℕ} {e e' : Entry} → Touch C x e e' → (p p' r r' : Bool) → (p' ≡ true → p ≡ true)
    → (r ≡ false → r' ≡ false) → bad_by (kind e) p (long_named e) r ≡ false → bad_by (kind e') p' (long_named e') r' ≡ false
by_touch {e = e} (keep i z) p p' r r' f g h = rw i (by_kept (kind e) p p' (long_named e) r r' f g h)
by_touch (area i j) p p' r r' f g h = rw j (g (rw i at h))
by_touch {e = e} (gone k c o i j z) p p' r r' f g h =
    rw j (g (neither (p || long_named e) r (by_live (kind e) p (long_named e) r (holds-kind k e i) h)).1)
by_touch {e = e} {e' = e'} (made k l c o i c' i' j b z) p p' r r' f g h =
    rw j (or3 p p' (long_named e) (long_named e') r r' f g b (by_live (kind e) p (long_named e) r (holds-kind k e i) h))

-- the slots after one that is no marker are readable
pub by_rest : (k : Kind) (p b r : Bool) → is_end k ≡ false → bad_by k p b r ≡ false → r ≡ false
by_rest Tentative p b r e h = (neither (p || b) r h).1
by_rest Empty p b r e h = h
by_rest Permanent p b r e h = (neither (p || b) r h).1
by_rest End p b r e h = absurd (true≢false e)
by_rest Unknown p b r e h = absurd (true≢false h)

-- a row with its entry read anew and its first block fallen
abbrev pub shifted : (ℕ → ℕ) → (ℕ → Entry) → Row → Row
shifted δ f r = record { seg = r.seg; slot = r.slot; at = r.at; first = r.first - δ r.at; entry = f r.at }

-- what follows for the slots at the places of a grid
module _ (C : Key → Type 0) (δ : ℕ → ℕ) (w : ℕ) (f f' : ℕ → Entry) where
  pub slots_kept : (ps : List ℕ) (p p' : Bool) → (p' ≡ true → p ≡ true) → All (At C δ w f f') ps
      → scan_bad p (map f ps) ≡ false → scan_bad p' (map f' ps) ≡ false
  unfolding scan_bad
  slots_kept [] p p' i a h = h
  slots_kept (x ∷ ps) p p' i a h =
      by_touch a.0.touch p p' _ _ i (slots_kept ps _ _ (tentative_less a.0.touch) a.1) h

  -- by what the first slot's first block falls, the slots up to the marker grow
  pub total_kept : (n a : ℕ) (p : Bool) → All (At C δ w f f') (grid n w a) → scan_bad p (map f (grid n w a)) ≡ false
      → total (upto (map f' (grid n w a))) ≡ δ a + total (upto (map f (grid n w a)))
  unfolding grid scan_bad upto total
  total_kept zero a p t h = absurd (true≢false h)
  total_kept (suc n) a p t h = go (is_end (kind (f a))) refl (total_kept n (a + w))
    where
      after : List Entry
      after = upto (map f' (grid n w (a + w)))

      before : List Entry
      before = upto (map f (grid n w (a + w)))

      go : (x : Bool) → is_end (kind (f a)) ≡ x
          → ((q : Bool) → All (At C δ w f f') (grid n w (a + w)) → scan_bad q (map f (grid n w (a + w))) ≡ false
          → total after ≡ δ (a + w) + total before)
          → total (cond (is_end (kind (f' a))) [] (f' a ∷ after)) ≡ δ a + total (cond (is_end (kind (f a))) [] (f a ∷ before))
      go true x i = rw (end_same t.0.touch, x) (let z = end_still t.0.touch x in omega arith)
      go false x i =
          let j = i _ t.1 (by_rest (kind (f a)) p (long_named (f a)) _ x h) in
          let e = t.0.even in
          rw (end_same t.0.touch, x) (omega arith)

  pub rows-kept : (s n j a b b' : ℕ) → b ≡ b' + δ a → All (At C δ w f f') (grid n w a)
      → rows_in w s j a b' (upto (map f' (grid n w a))) ≡ map (shifted δ f') (rows_in w s j a b (upto (map f (grid n w a))))
  unfolding grid upto rows_in
  rows-kept s zero j a b b' e t = refl
  rows-kept s (suc n) j a b b' e t =
      let v = t.0.even in
      go (is_end (kind (f a))) refl
      (rows-kept s n (j + 1) (a + w) (b + blocks (f a)) (b' + blocks (f' a)) (omega arith) t.1)
    where
      after : List Entry
      after = upto (map f' (grid n w (a + w)))

      before : List Entry
      before = upto (map f (grid n w (a + w)))

      go : (x : Bool) → is_end (kind (f a)) ≡ x
          → rows_in w s (j + 1) (a + w) (b' + blocks (f' a)) after
          ≡ map (shifted δ f') (rows_in w s (j + 1) (a + w) (b + blocks (f a)) before)
          → rows_in w s j a b' (cond (is_end (kind (f' a))) [] (f' a ∷ after))
          ≡ map (shifted δ f') (rows_in w s j a b (cond (is_end (kind (f a))) [] (f a ∷ before)))
      go true x i = rw (end_same t.0.touch, x)
      go false x i =
          let y : b' ≡ b - δ a = omega arith in
          rw (end_same t.0.touch, x)
          (ap₂ (λ (r : Row) (rs : List Row). r ∷ rs) (rw y) i)
