-- Rules 1, 2 and 5 as their tests say them. Rules 1 and 2 are numbers, which walks has. Rule 5: along the chain each segment is held
-- to the block that the one before it ended at, and the last end to V; by induction on how many segments follow. Assumes nothing.
use Prim.Native.Nat.{ℕ, zero, suc, ◌+◌, ◌-◌, ◌≤◌, ◌<◌}
use native.Mathlib.Omega.{arith}
use native.Mathlib.Numerals.{add-one}
use native.Mathlib.Nat.{le_of_suc-le-suc, not-suc-le-zero}
use mathlib.Core.Path.{◌≡◌, refl, sym, ap, ◌∙◌}
use mathlib.Core.Bool.{true, false, not}
use mathlib.Core.List.{List}
use lib.Dec.{eqb}
use borrow.Author.Tests.{eqb-true, eq-eqb, not-false}
use Rattle.bools.proofs.Bools.{both}
use Rattle.meaning.specs.Words.{first_data, segment, first_of, highest, entries, total, chain_from, reached, chain}
use Rattle.meaning.specs.Sound.{bad1, bad2, filled, bad5}
use Rattle.walks.proofs.Heads.{sized, sized_tested, headed, headed_tested}
use Rattle.walks.proofs.Lists.{next}
use Rattle.rules.specs.Sound.{Rule1, Rule2, end_of, Rule5}

-- rules 1 and 2, by their numbers
pub rule1-holds : (v : ℕ) (d : List ℕ) → bad1 v d ≡ false → Rule1 v d
rule1-holds v d h =
    let s = sized v d h in
    record { some = s.some; few = s.few; whole = s.whole; room = s.room; wide = s.wide }

pub rule1-tested : (v : ℕ) (d : List ℕ) → Rule1 v d → bad1 v d ≡ false
rule1-tested v d r =
    sized_tested v d (record { some = r.some; few = r.few; whole = r.whole; room = r.room; wide = r.wide })

pub rule2-holds : (d : List ℕ) → bad2 d ≡ false → Rule2 d
rule2-holds d h =
    let s = headed d h in
    record { total = s.total; used = s.used; within = s.within; even = s.even; few = s.few }

pub rule2-tested : (d : List ℕ) → Rule2 d → bad2 d ≡ false
rule2-tested d r =
    headed_tested d (record { total = r.total; used = r.used; within = r.within; even = r.even; few = r.few })

-- segment s begins at b, each of the n after it where the one before it ended, and the last ends at V
pub record Runs (v : ℕ) (d : List ℕ) (s b n : ℕ) : Type 0 where
  pub begins : first_of (segment d s) ≡ b
  pub meets : (i : ℕ) → i < n → first_of (segment d (reached (suc i) d s)) ≡ end_of d (reached i d s)
  pub ends : end_of d (reached n d s) ≡ v

filled_runs : (v : ℕ) (d : List ℕ) (n s b : ℕ) → filled v d b (chain_from (suc n) d s) ≡ true → Runs v d s b n
unfolding filled chain_from reached
filled_runs v d zero s b h =
    let p = both (eqb (first_of (segment d s)) b) (eqb (b + total (entries d s)) v) h in
    let e = eqb-true (first_of (segment d s)) b p.0 in
    record {
      begins = e;
      meets = λ i l. absurd (not-suc-le-zero l);
      ends = ap (λ (x : ℕ). x + total (entries d s)) e ∙ eqb-true (b + total (entries d s)) v p.1;
    }
filled_runs v d (suc n) s b h = more (filled_runs v d n (next d s) (b + total (entries d s)) p.1)
  where
    p : (eqb (first_of (segment d s)) b ≡ true) × (filled v d (b + total (entries d s)) (chain_from (suc n) d (next d s)) ≡ true)
    p = both (eqb (first_of (segment d s)) b) (filled v d (b + total (entries d s)) (chain_from (suc n) d (next d s))) h

    e : first_of (segment d s) ≡ b
    e = eqb-true (first_of (segment d s)) b p.0

    one : Runs v d (next d s) (b + total (entries d s)) n
        → (i : ℕ) → i < suc n → first_of (segment d (reached (suc i) d s)) ≡ end_of d (reached i d s)
    one r zero l = r.begins ∙ ap (λ (x : ℕ). x + total (entries d s)) (sym e)
    one r (suc i) l = r.meets i (le_of_suc-le-suc l)

    more : Runs v d (next d s) (b + total (entries d s)) n → Runs v d s b (suc n)
    more r = record { begins = e; meets = one r; ends = r.ends }

runs-filled : (v : ℕ) (d : List ℕ) (n s b : ℕ) → Runs v d s b n → filled v d b (chain_from (suc n) d s) ≡ true
unfolding filled chain_from reached
runs-filled v d zero s b r =
    rw (eq-eqb (first_of (segment d s)) b r.begins)
    (eq-eqb (b + total (entries d s)) v (ap (λ (x : ℕ). x + total (entries d s)) (sym r.begins) ∙ r.ends))
runs-filled v d (suc n) s b r =
    rw (
      eq-eqb (first_of (segment d s)) b r.begins,
      runs-filled v d n (next d s) (b + total (entries d s))
          (record {
            begins = r.meets 0 (omega arith) ∙ ap (λ (x : ℕ). x + total (entries d s)) r.begins;
            meets = λ i l. r.meets (suc i) (omega arith);
            ends = r.ends;
          }),
    )

-- with H = n + 1
by_count : (v : ℕ) (d : List ℕ) → 1 ≤ highest d → (n : ℕ) → highest d ≡ suc n
    → (bad5 v d ≡ false → Rule5 v d) × (Rule5 v d → bad5 v d ≡ false)
unfolding bad5 chain reached
by_count v d u n e = (holds, tested)
  where
    holds : not (filled v d (first_data d) (chain_from (highest d) d 1)) ≡ false → Rule5 v d
    holds h =
        let r = filled_runs v d n 1 (first_data d) (rw e at (not-false (filled v d (first_data d) (chain_from (highest d) d 1)) h)) in
        record {
          begins = r.begins;
          meets = λ i l. rw add-one (r.meets i (omega arith));
          ends = let q : highest d - 1 ≡ n = omega arith in rw q r.ends;
        }

    tested : Rule5 v d → not (filled v d (first_data d) (chain_from (highest d) d 1)) ≡ false
    tested r =
        let q : highest d - 1 ≡ n = omega arith in
        rw (
          e,
          runs-filled v d n 1 (first_data d)
              (record {
                begins = r.begins;
                meets = λ i l. rw add-one at (r.meets i (omega arith));
                ends = rw q at r.ends;
              }),
        )

is-suc : (h : ℕ) → 1 ≤ h → (n : ℕ) × (h ≡ suc n)
is-suc zero l = absurd (omega arith)
is-suc (suc n) l = (n, refl)

pub rule5-holds : (v : ℕ) (d : List ℕ) → 1 ≤ highest d → bad5 v d ≡ false → Rule5 v d
rule5-holds v d u = let m = is-suc (highest d) u in (by_count v d u m.0 m.1).0

pub rule5-tested : (v : ℕ) (d : List ℕ) → 1 ≤ highest d → Rule5 v d → bad5 v d ≡ false
rule5-tested v d u = let m = is-suc (highest d) u in (by_count v d u m.0 m.1).1
