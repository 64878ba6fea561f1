-- Rule 3 of the meaning, `bad3`, is rule 3 of the laws. A number stands once in a chain exactly when the links reach it after one
-- number of steps, by induction on the chain; `each_once` says so of each of 1..H; and no visited segment differs from segment 1
-- exactly when each is alike. Assumes nothing.
use Prim.Native.Nat.{ℕ, zero, suc, ◌≤◌, ◌<◌, suc-le-suc}
use native.Mathlib.Nat.{le_of_suc-le-suc, not-suc-le-zero}
use native.Mathlib.Decide.{ℕ_discrete}
use native.Mathlib.Omega.{arith}
use mathlib.Core.Path.{◌≡◌, refl, ap}
use mathlib.Core.Bool.{true, false, ◌&&◌, not}
use mathlib.Core.List.{List}
use lib.Dec.{eqb}
use borrow.Author.Tests.{eqb-true, eq-eqb, ne_eqb, not-false}
use Rattle.bools.proofs.Bools.{both, neither}
use Rattle.meaning.specs.Words.{segment, total_of, extra_bytes_of, highest, chain_from, reached, chain}
use Rattle.meaning.specs.Sound.{any, times, each_once, differs, bad3}
use Rattle.rules.specs.Sound.{visit, VisitedOnce, Rule3}
use Rattle.walks.proofs.Lists.{next, any-visit, visit-any}
use Rattle.walks.proofs.Linked.{each-times}

-- one of the n visits from s on, and no other, is at k
pub record Once (n : ℕ) (d : List ℕ) (s k : ℕ) : Type 0 where
  pub at : ℕ
  pub within : at < n
  pub there : reached at d s ≡ k
  pub only : (j : ℕ) → j < n → reached j d s ≡ k → j ≡ at

module _ (d : List ℕ) (k : ℕ) where
  -- k stands nowhere in a chain: no visit is at k
  none-reached : (n s : ℕ) → times k (chain_from n d s) ≡ 0 → (j : ℕ) → j < n → reached j d s ≡ k → ⊥
  unfolding times chain_from reached
  none-reached zero s h j l e = not-suc-le-zero l
  none-reached (suc n) s h j l e = go (ℕ_discrete s k) (none-reached n (next d s)) j l e
    where
      go : Dec (s ≡ k) → (times k (chain_from n d (next d s)) ≡ 0 → (i : ℕ) → i < n → reached i d (next d s) ≡ k → ⊥)
          → (i : ℕ) → i < suc n → reached i d s ≡ k → ⊥
      go (yes q) f i m r = let z = rw (eq-eqb s k q) at h in omega arith
      go (no q) f zero m r = q r
      go (no q) f (suc i) m r = f (rw (ne_eqb s k q) at h) i (le_of_suc-le-suc m) r

  reached-none : (n s : ℕ) → ((j : ℕ) → j < n → reached j d s ≡ k → ⊥) → times k (chain_from n d s) ≡ 0
  unfolding times chain_from reached
  reached-none zero s f = refl
  reached-none (suc n) s f = rw (ne_eqb s k (f 0 (omega arith))) (reached-none n (next d s) (λ j l. f (suc j) (suc-le-suc l)))

  -- k stands once in a chain: one visit is at k, the first or a later one
  once-here : (n s : ℕ) → s ≡ k → times k (chain_from n d (next d s)) ≡ 0 → Once (suc n) d s k
  unfolding reached
  once-here n s q z = record { at = 0; within = omega arith; there = q; only = first }
    where
      first : (j : ℕ) → j < suc n → reached j d s ≡ k → j ≡ 0
      first zero l e = refl
      first (suc j) l e = absurd (none-reached n (next d s) z j (le_of_suc-le-suc l) e)

  once_later : (n s : ℕ) → (s ≡ k → ⊥) → Once n d (next d s) k → Once (suc n) d s k
  unfolding reached
  once_later n s q o = record { at = suc o.at; within = suc-le-suc o.within; there = o.there; only = same }
    where
      same : (j : ℕ) → j < suc n → reached j d s ≡ k → j ≡ suc o.at
      same zero l e = absurd (q e)
      same (suc j) l e = ap suc (o.only j (le_of_suc-le-suc l) e)

  pub once-reached : (n s : ℕ) → times k (chain_from n d s) ≡ 1 → Once n d s k
  unfolding times chain_from
  once-reached zero s h = absurd (omega arith)
  once-reached (suc n) s h = go (ℕ_discrete s k) (once-reached n (next d s))
    where
      go : Dec (s ≡ k) → (times k (chain_from n d (next d s)) ≡ 1 → Once n d (next d s) k) → Once (suc n) d s k
      go (yes q) f = let z = rw (eq-eqb s k q) at h in once-here n s q (omega arith)
      go (no q) f = once_later n s q (f (rw (ne_eqb s k q) at h))

  pub reached-once : (n s i : ℕ) → i < n → reached i d s ≡ k
      → ((j : ℕ) → j < n → reached j d s ≡ k → j ≡ i) → times k (chain_from n d s) ≡ 1
  unfolding times chain_from reached
  reached-once zero s i l e f = absurd (not-suc-le-zero l)
  reached-once (suc n) s zero l e f =
      rw (eq-eqb s k e, reached-none n (next d s) (λ j m r. let z = f (suc j) (suc-le-suc m) r in omega arith))
  reached-once (suc n) s (suc i) l e f =
      rw (ne_eqb s k (λ q. let z = f 0 (omega arith) q in omega arith))
      (reached-once n (next d s) i (le_of_suc-le-suc l) e (λ j m r. let z = f (suc j) (suc-le-suc m) r in omega arith))

pub times-each : (n : ℕ) (xs : List ℕ) → ((k : ℕ) → 1 ≤ k → k ≤ n → times k xs ≡ 1) → each_once n xs ≡ true
unfolding each_once
times-each zero xs f = refl
times-each (suc n) xs f = rw (f (suc n) (omega arith) (omega arith), times-each n xs (λ k a b. f k a (omega arith)))

-- a segment has segment 1's total and extra bytes
abbrev SameHeads : List ℕ → ℕ → Type 0
SameHeads d s = (total_of (segment d s) ≡ total_of d) × (extra_bytes_of (segment d s) ≡ extra_bytes_of d)

not-differs : (d : List ℕ) (s : ℕ) → differs d s ≡ false → SameHeads d s
unfolding differs
not-differs d s h =
    let t = eqb (total_of (segment d s)) (total_of d) in
    let x = eqb (extra_bytes_of (segment d s)) (extra_bytes_of d) in
    let p = both t x (not-false (t && x) h) in
    (eqb-true (total_of (segment d s)) (total_of d) p.0, eqb-true (extra_bytes_of (segment d s)) (extra_bytes_of d) p.1)

same_heads : (d : List ℕ) (s : ℕ) → SameHeads d s → differs d s ≡ false
unfolding differs
same_heads d s a =
    rw (eq-eqb (total_of (segment d s)) (total_of d) a.0, eq-eqb (extra_bytes_of (segment d s)) (extra_bytes_of d) a.1)

pub rule3-holds : (d : List ℕ) → bad3 d ≡ false → Rule3 d
unfolding bad3 chain
rule3-holds d h =
    let o = each_once (highest d) (chain d) in
    let z = eqb (visit d (highest d)) 0 in
    let p = neither (not (o && z)) (any (differs d) (chain d)) h in
    let q = both o z (not-false (o && z) p.0) in
    record {
      each = λ s a b. visited s (once-reached d s (highest d) 1 (each-times (highest d) (chain d) q.0 s a b));
      ends = eqb-true (visit d (highest d)) 0 q.1;
      totals = λ i l. (same p.1 i l).0;
      extras = λ i l. (same p.1 i l).1;
    }
  where
    visited : (s : ℕ) → Once (highest d) d 1 s → VisitedOnce d s
    visited s o = record { at = o.at; within = o.within; there = o.there; only = o.only }

    same : any (differs d) (chain d) ≡ false → (i : ℕ) → i < highest d → SameHeads d (visit d i)
    same e i l = not-differs d (visit d i) (any-visit (differs d) (highest d) d 1 e i l)

pub rule3-tested : (d : List ℕ) → Rule3 d → bad3 d ≡ false
unfolding bad3 chain
rule3-tested d r =
    rw (
      times-each (highest d) (chain d) (λ s a b. once s (r.each s a b)),
      r.ends,
      visit-any (differs d) (highest d) d 1 (λ i l. same_heads d (visit d i) (r.totals i l, r.extras i l)),
    )
  where
    once : (s : ℕ) → VisitedOnce d s → times s (chain_from (highest d) d 1) ≡ 1
    once s o = reached-once d s (highest d) 1 o.at o.within o.there o.only
