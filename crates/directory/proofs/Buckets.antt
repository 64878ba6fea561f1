-- The entries in buckets. From the latest entry of a bucket, each leads to the latest before it there; an entry that has a key is
-- in the key's bucket, so that a walk along these finds what a walk over all would find (`latest-any`). Of the hash no more is
-- known than that it is a function of the key. The table after k entries has all this for k, and no two of them clash.
-- Assumes nothing.
use Prim.Native.Nat.{ℕ, zero, suc, ◌+◌, ◌-◌, ◌≤◌, ◌<◌}
use mathlib.Core.Path.{◌≡◌, refl, sym, ap, ◌∙◌}
use mathlib.Core.Bool.{Bool, true, false, cond, ◌&&◌, ◌||◌, and-true, and-false, or-true}
use mathlib.Core.List.{List, ◌∷◌}
use mathlib.Core.Option.{some}
use native.Mathlib.Omega.{arith}
use native.Mathlib.Nat.{zero-add, suc-add}
use native.Mathlib.Numerals.{add-one}
use lib.ListN.{length, get_or, take, drop, set, length-set}
use lib.Seq.{get_or-set_same, get_or-set_other}
use lib.Dec.{eqb}
use borrow.Author.Tests.{eqb-true, eqb-false}
use Rattle.bools.proofs.Bools.{never}
use Rattle.meaning.specs.Keys.{key_of, holds, once, clash}
use Rattle.meaning.specs.Sound.{any, clashes}
use Rattle.meaning.specs.declared.Key.{Key}
use Rattle.directory.specs.Buckets.{numbered, seen, Places, bucket_of, bucket_on, bucket_at, latest, Threaded}
use Rattle.directory.specs.Candidates.{has_key}
use Rattle.directory.proofs.Clashing.{any-clash}
use Rattle.walks.proofs.Keyed.{has-key}

module _ (d : List ℕ) (w : ℕ) (ps : List ℕ) (n : ℕ) where
  -- one entry more, counted down and up
  seen_step : (k : ℕ) → 0 < k → seen d w ps n k ≡ numbered d w ps n k ∷ seen d w ps n (k - 1)
  unfolding seen
  seen_step zero h = absurd (omega arith)
  seen_step (suc k) h =
      let e : suc k - 1 ≡ k = omega arith in
      rw e

  seen_more : (k : ℕ) → seen d w ps n (k + 1) ≡ numbered d w ps n (k + 1) ∷ seen d w ps n k
  unfolding seen
  seen_more k = rw (add-one k)

  latest_more : (b k : ℕ) → latest d w ps n b (k + 1) ≡ cond (eqb (bucket_at d w ps n (k + 1)) b) (k + 1) (latest d w ps n b k)
  unfolding latest
  latest_more b k = rw (add-one k)

  -- the latest of a bucket is one of the entries, and in that bucket
  pub latest_le : (b k : ℕ) → latest d w ps n b k ≤ k
  unfolding latest
  latest_le b zero = omega arith
  latest_le b (suc k) = go (eqb (bucket_at d w ps n (suc k)) b) (latest_le b k)
    where
      go : (t : Bool) → latest d w ps n b k ≤ k → cond t (suc k) (latest d w ps n b k) ≤ suc k
      go true l = omega arith
      go false l = omega arith

  latest-bucket : (b k : ℕ) → 0 < latest d w ps n b k → bucket_at d w ps n (latest d w ps n b k) ≡ b
  unfolding latest
  latest-bucket b zero h = absurd (omega arith)
  latest-bucket b (suc k) h = go (eqb (bucket_at d w ps n (suc k)) b) refl (latest-bucket b k) h
    where
      go : (t : Bool) → eqb (bucket_at d w ps n (suc k)) b ≡ t
          → (0 < latest d w ps n b k → bucket_at d w ps n (latest d w ps n b k) ≡ b)
          → 0 < cond t (suc k) (latest d w ps n b k)
          → bucket_at d w ps n (cond t (suc k) (latest d w ps n b k)) ≡ b
      go true e r l = eqb-true (bucket_at d w ps n (suc k)) b e
      go false e r l = r l

  -- an entry of another bucket is not found by the key
  other_bucket : (key : Key) (k : ℕ) → eqb (bucket_at d w ps n k) (bucket_of key) ≡ false → holds key (numbered d w ps n k) ≡ false
  unfolding bucket_at
  other_bucket key k h =
      let e = numbered d w ps n k in
      never (holds key e) (λ q. eqb-false (bucket_on (key_of e)) (bucket_of key) h (ap bucket_on (has-key key e q)))

  -- so a search goes on from the latest of its bucket
  latest-any : (key : Key) (k : ℕ)
      → any (holds key) (seen d w ps n k) ≡ any (holds key) (seen d w ps n (latest d w ps n (bucket_of key) k))
  unfolding latest seen any
  latest-any key zero = refl
  latest-any key (suc k) = go (eqb (bucket_at d w ps n (suc k)) (bucket_of key)) refl (latest-any key k)
    where
      go : (t : Bool) → eqb (bucket_at d w ps n (suc k)) (bucket_of key) ≡ t
          → any (holds key) (seen d w ps n k) ≡ any (holds key) (seen d w ps n (latest d w ps n (bucket_of key) k))
          → any (holds key) (seen d w ps n (suc k))
          ≡ any (holds key) (seen d w ps n (cond t (suc k) (latest d w ps n (bucket_of key) k)))
      go true e r = refl
      go false e r = rw (other_bucket key (suc k) e) r

  -- a clash stays, however many entries follow
  clash_stays : (t k : ℕ) → clashes (seen d w ps n k) ≡ true → clashes (seen d w ps n (t + k)) ≡ true
  unfolding clashes seen
  clash_stays zero k c = rw (zero-add k) c
  clash_stays (suc t) k c = rw (suc-add t k, clash_stays t k c, or-true)

-- the walk along a bucket, at number j: what is found from j on is what is found among the entries 1 to k
pub record Walk (d : List ℕ) (w : ℕ) (ps : List ℕ) (n : ℕ) (key : Key) (k j : ℕ) : Type 0 where
  pub most : j ≤ k
  pub bucket : 0 < j → bucket_at d w ps n j ≡ bucket_of key
  pub same : any (holds key) (seen d w ps n j) ≡ any (holds key) (seen d w ps n k)

module _ {d : List ℕ} {w : ℕ} {ps : List ℕ} {n : ℕ} {key : Key} {k : ℕ} where
  walk-latest : (j : ℕ) → j ≤ k → any (holds key) (seen d w ps n j) ≡ any (holds key) (seen d w ps n k)
      → Walk d w ps n key k (latest d w ps n (bucket_of key) j)
  walk-latest j h e =
      let l = latest_le d w ps n (bucket_of key) j in
      record {
        most = omega arith;
        bucket = latest-bucket d w ps n (bucket_of key) j;
        same = sym (latest-any d w ps n key j) ∙ e;
      }

  pub walk_start : {j : ℕ} → j ≡ latest d w ps n (bucket_of key) k → Walk d w ps n key k j
  walk_start e = rw e (walk-latest k (omega arith) refl)

  module _ {j : ℕ} (v : Walk d w ps n key k j) where
    pub walk_end : j ≤ 0 → false ≡ once key && any (holds key) (seen d w ps n k)
    unfolding any seen
    walk_end h =
        let e : j ≡ 0 = omega arith in
        rw (← v.same, e) (sym (and-false (once key)))

    module _ (h : 0 < j) {found : Bool} (is : found ≡ holds key (numbered d w ps n j)) where
      here : any (holds key) (seen d w ps n j) ≡ found || any (holds key) (seen d w ps n (j - 1))
      unfolding any
      here = rw (seen_step d w ps n j h, is)

      pub walk_hit : found ≡ true → {r : Bool} → r ≡ once key → r ≡ once key && any (holds key) (seen d w ps n k)
      walk_hit e o = rw (← v.same, here, e) (o ∙ sym (and-true (once key)))

      pub walk_next : {earlier : List ℕ} → Threaded d w ps n earlier k → found ≡ false
          → Walk d w ps n key k (get_or earlier j 0)
      walk_next t e =
          let l : j ≤ k = v.most in
          rw (t.back j (omega arith) l, v.bucket h)
          (walk-latest (j - 1) (omega arith) (sym (rw e at here) ∙ v.same))

    pub walk_less : {earlier : List ℕ} → Threaded d w ps n earlier k → 0 < j → get_or earlier j 0 < j
    walk_less t h =
        let l : j ≤ k = v.most in
        omega (arith, t.back j (omega arith) l, latest_le d w ps n (bucket_at d w ps n j) (j - 1))

-- the table after k entries: the latest of each bucket, the one before each entry, and no clash
pub record Table (d : List ℕ) (w : ℕ) (ps : List ℕ) (n : ℕ) (latests earlier : List ℕ) (k : ℕ) : Type 0 where
  pub buckets : length latests ≡ 8192
  pub room : length earlier ≡ 2233
  pub heads : (b : ℕ) → b < 8192 → get_or latests b 0 ≡ latest d w ps n b k
  pub threaded : Threaded d w ps n earlier k
  pub none : clashes (seen d w ps n k) ≡ false

module _ {d : List ℕ} {w : ℕ} {ps : List ℕ} {n : ℕ} where
  pub table-start : {latests earlier : List ℕ} → length latests ≡ 8192 → length earlier ≡ 2233
      → ((b : ℕ) → b < 8192 → get_or latests b 0 ≡ 0)
      → Table d w ps n latests earlier 0
  unfolding latest seen clashes
  table-start a b f = record {
    buckets = a;
    room = b;
    heads = f;
    threaded = record { most = omega arith; back = λ j p q. absurd (omega arith) };
    none = refl;
  }

  -- where the walk along bucket x begins
  pub table-first : {latests earlier : List ℕ} {k b x : ℕ} → Table d w ps n latests earlier k → (b ≡ x) × (b < 8192)
      → (get_or latests b 0 ≡ latest d w ps n x k) × (get_or latests b 0 ≤ k)
  table-first {k = k} {b = b} t is =
      let e = t.heads b is.1 in
      (e ∙ ap (λ (z : ℕ). latest d w ps n z k) is.0, omega (arith, latest_le d w ps n b k))

  -- the next entry, which has this key: whether that is found among those before it, and may stand once, is whether it clashes with one
  module _ (g : Places d w ps n) (k : ℕ) (l : k < n) {key : Key} (e : key_of (numbered d w ps n (k + 1)) ≡ some key) where
    met-clash : {found : Bool} → found ≡ once key && any (holds key) (seen d w ps n k)
        → any (clash (numbered d w ps n (k + 1))) (seen d w ps n k) ≡ found
    met-clash h = any-clash key (numbered d w ps n (k + 1)) e (seen d w ps n k) ∙ sym h

    pub table-found : {found : Bool} → found ≡ once key && any (holds key) (seen d w ps n k) → found ≡ true
        → true ≡ clashes (seen d w ps n n)
    unfolding clashes
    table-found h f =
        let c : clashes (seen d w ps n (k + 1)) ≡ true = rw (seen_more d w ps n k, met-clash h, f) in
        let m : n - (k + 1) + (k + 1) ≡ n = omega arith in
        sym (rw m at (clash_stays d w ps n (n - (k + 1)) (k + 1) c))

    module _ {latests earlier : List ℕ} (t : Table d w ps n latests earlier k) {b : ℕ} (is : (b ≡ bucket_of key) × (b < 8192)) where
      in_bucket : b ≡ bucket_at d w ps n (k + 1)
      unfolding bucket_at
      in_bucket = is.0 ∙ sym (ap bucket_on e)

      heads_after : (x : ℕ) → x < 8192 → get_or (set latests b (k + 1)) x 0 ≡ latest d w ps n x (k + 1)
      heads_after x s = rw latest_more (go (eqb (bucket_at d w ps n (k + 1)) x) refl)
        where
          go : (y : Bool) → eqb (bucket_at d w ps n (k + 1)) x ≡ y
              → get_or (set latests b (k + 1)) x 0 ≡ cond y (k + 1) (latest d w ps n x k)
          go true q =
              let z : x ≡ b = sym (in_bucket ∙ eqb-true (bucket_at d w ps n (k + 1)) x q) in
              rw z (get_or-set_same latests b (k + 1) 0 (omega (arith, t.buckets, is.1)))
          go false q =
              get_or-set_other latests b x (k + 1) 0 (λ z. eqb-false (bucket_at d w ps n (k + 1)) x q (sym in_bucket ∙ sym z))
              ∙ t.heads x s

      back-after : (j : ℕ) → 1 ≤ j → j ≤ k + 1
          → get_or (set earlier (k + 1) (get_or latests b 0)) j 0 ≡ latest d w ps n (bucket_at d w ps n j) (j - 1)
      back-after j a m = go (eqb j (k + 1)) refl
        where
          go : (y : Bool) → eqb j (k + 1) ≡ y
              → get_or (set earlier (k + 1) (get_or latests b 0)) j 0 ≡ latest d w ps n (bucket_at d w ps n j) (j - 1)
          go true q =
              let z : j ≡ k + 1 = eqb-true j (k + 1) q in
              let m : j - 1 ≡ k = omega arith in
              rw (m, z)
              (get_or-set_same earlier (k + 1) (get_or latests b 0) 0 (omega (arith, t.room, g.few))
              ∙ t.heads b is.1
              ∙ ap (λ (x : ℕ). latest d w ps n x k) in_bucket)
          go false q =
              let z : (j ≡ k + 1 → ⊥) = eqb-false j (k + 1) q in
              get_or-set_other earlier (k + 1) j (get_or latests b 0) 0 z ∙ t.threaded.back j a (omega arith)

      -- it is put into its bucket
      pub table_more : {found : Bool} → found ≡ once key && any (holds key) (seen d w ps n k) → found ≡ false
          → Table d w ps n (set latests b (k + 1)) (set earlier (k + 1) (get_or latests b 0)) (k + 1)
      unfolding clashes
      table_more h f = record {
        buckets = length-set latests b (k + 1) ∙ t.buckets;
        room = length-set earlier (k + 1) (get_or latests b 0) ∙ t.room;
        heads = heads_after;
        threaded = record { most = omega arith; back = back-after };
        none = rw (seen_more d w ps n k, met-clash h, f) t.none;
      }

-- an entry by its number, as code cuts it out, and that it has a key
pub entry-is : (d : List ℕ) (w : ℕ) (ps : List ℕ) (n j : ℕ)
    → let p = get_or ps (n - j) 0 in
    take (p + w - p) (drop p d) ≡ numbered d w ps n j
unfolding numbered
entry-is d w ps n j =
    let e : get_or ps (n - j) 0 + w - get_or ps (n - j) 0 ≡ w = omega arith in
    rw e

pub entry-keyed : {d : List ℕ} {w : ℕ} {ps : List ℕ} {n j : ℕ} → Places d w ps n → 1 ≤ j → j ≤ n → has_key (numbered d w ps n j) ≡ true
unfolding numbered
entry-keyed {n = n} {j = j} g l h = (g.all (n - j) (omega arith)).keyed
