-- Rule 6 by keys. An entry without a key may be left out of a list: it clashes with none, and none with it. And one that has a key
-- clashes with just the entries that have it too, if it may stand once, so that those of other keys need not be looked at. What `once`
-- says of a key is nowhere asked. Assumes nothing.
use Prim.Native.Nat.{ℕ, zero, suc, ◌<◌}
use mathlib.Core.Path.{◌≡◌, refl, sym}
use mathlib.Core.Bool.{Bool, true, false, cond, ◌&&◌, ◌||◌, and-false, true≢false, false≢true}
use mathlib.Core.List.{List, [], ◌∷◌}
use mathlib.Core.Option.{Option, none, some}
use native.Mathlib.Omega.{arith}
use lib.ListN.{get_or}
use Rattle.bools.proofs.Bools.{both, never}
use Rattle.meaning.specs.declared.Kind.{Kind}
use Rattle.meaning.specs.declared.Kind.TheVariants.{Tentative, Empty, Permanent, End, Unknown}
use Rattle.meaning.specs.declared.Key.{Key}
use Rattle.meaning.specs.declared.Key.TheVariants.{File, Open}
use Rattle.meaning.specs.Kinds.{is_tentative, is_permanent}
use Rattle.meaning.specs.Words.{Entry, kind, name_of, channel_of}
use Rattle.meaning.specs.Keys.{key_in, key_of, holds, once, clash_on, clash}
use Rattle.meaning.specs.Sound.{any, clashes}
use Rattle.walks.proofs.Lists.{none_any}
use Rattle.walks.proofs.Keyed.{has-key}
use Rattle.directory.specs.Candidates.{is_some, has_key, candidates}
use Rattle.directory.specs.Buckets.{seen}

-- an entry by what code reads of it: it has a key where it is permanent or tentative
module _ (e : Entry) where
  pub keyed-by : has_key e ≡ is_permanent (kind e) || is_tentative (kind e)
  unfolding has_key key_of
  keyed-by = go (kind e)
    where
      go : (k : Kind) → is_some (key_in k e) ≡ is_permanent k || is_tentative k
      go Tentative = refl
      go Empty = refl
      go Permanent = refl
      go End = refl
      go Unknown = refl

  -- the key of one that has any
  pub open_key : is_tentative (kind e) ≡ true → key_of e ≡ some (Open (channel_of e))
  unfolding key_of
  open_key h = go (kind e) h
    where
      go : (k : Kind) → is_tentative k ≡ true → key_in k e ≡ some (Open (channel_of e))
      go Tentative h = refl
      go Empty h = absurd (false≢true h)
      go Permanent h = absurd (false≢true h)
      go End h = absurd (false≢true h)
      go Unknown h = absurd (false≢true h)

  pub file-key : is_tentative (kind e) ≡ false → has_key e ≡ true → key_of e ≡ some (File (name_of e))
  unfolding has_key key_of
  file-key h has = go (kind e) h has
    where
      go : (k : Kind) → is_tentative k ≡ false → is_some (key_in k e) ≡ true → key_in k e ≡ some (File (name_of e))
      go Permanent h c = refl
      go Tentative h c = absurd (true≢false h)
      go Empty h c = absurd (false≢true c)
      go End h c = absurd (false≢true c)
      go Unknown h c = absurd (false≢true c)

-- an entry without a key
module _ (e f : Entry) (h : has_key e ≡ false) where
  no-first : clash e f ≡ false
  unfolding has_key clash
  no-first = go (key_of e) h
    where
      go : (o : Option Key) → is_some o ≡ false → clash_on o f ≡ false
      go none q = refl
      go (some k) q = absurd (true≢false q)

  no_second : clash f e ≡ false
  unfolding has_key clash
  no_second = go (key_of f)
    where
      go : (o : Option Key) → clash_on o e ≡ false
      go none = refl
      go (some k) =
          never (once k && holds k e)
          (λ q. true≢false (rw (has-key k e (both (once k) (holds k e) q).1) at h))

any-candidates : (f : Entry) (es : List Entry) → any (clash f) (candidates es) ≡ any (clash f) es
unfolding candidates any
any-candidates f [] = refl
any-candidates f (e ∷ es) = go (has_key e) refl (any-candidates f es)
  where
    go : (t : Bool) → has_key e ≡ t → any (clash f) (candidates es) ≡ any (clash f) es
        → any (clash f) (cond t (e ∷ candidates es) (candidates es)) ≡ clash f e || any (clash f) es
    go true q r = rw r
    go false q r = rw (no_second e f q) r

pub clashes-candidates : (es : List Entry) → clashes (candidates es) ≡ clashes es
unfolding candidates clashes
clashes-candidates [] = refl
clashes-candidates (e ∷ es) = go (has_key e) refl (clashes-candidates es)
  where
    go : (t : Bool) → has_key e ≡ t → clashes (candidates es) ≡ clashes es
        → clashes (cond t (e ∷ candidates es) (candidates es)) ≡ any (clash e) es || clashes es
    go true q r = rw (any-candidates e es, r)
    go false q r = rw (none_any (clash e) es [] (λ i l. no-first e (get_or es i []) q)) r

-- an entry that has this key, against others
module _ (key : Key) (e : Entry) (has : key_of e ≡ some key) where
  clash-holds : (f : Entry) → clash e f ≡ once key && holds key f
  unfolding clash
  clash-holds f = rw has

  pub any-clash : (es : List Entry) → any (clash e) es ≡ once key && any (holds key) es
  unfolding any
  any-clash [] = sym (and-false (once key))
  any-clash (f ∷ es) = rw (clash-holds f, any-clash es) (go (once key))
    where
      go : (o : Bool) → (o && holds key f) || (o && any (holds key) es) ≡ o && (holds key f || any (holds key) es)
      go true = refl
      go false = refl

-- fewer than two entries don't clash
pub few-seen : (d : List ℕ) (w : ℕ) (ps : List ℕ) (m n : ℕ) → n < 2 → clashes (seen d w ps m n) ≡ false
unfolding clashes seen any
few-seen d w ps m zero h = refl
few-seen d w ps m (suc zero) h = refl
few-seen d w ps m (suc (suc n)) h = absurd (omega arith)
