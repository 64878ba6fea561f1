-- `fault v d` is 0 exactly when the six rules hold, and k exactly when rule k is the first that does not. The number is that of the first
-- test that is true (laws `past` and `stop` of one rule), and each test is false exactly when its rule holds (Rule3 to Rule6).
-- Assumes nothing.
use Prim.Native.Nat.{ℕ, ◌≤◌, ◌<◌}
use native.Mathlib.Omega.{arith}
use mathlib.Core.Path.{◌≡◌, refl, sym, ◌∙◌}
use mathlib.Core.Bool.{Bool, true, false, true≢false}
use mathlib.Core.Logic.{◌↔◌, ◌⊎◌, inl, inr, ⊎_elim}
use mathlib.Core.List.{List}
use Rattle.meaning.specs.Sound.{rule, bad1, bad2, bad3, bad4, bad5, bad6, fault}
use Rattle.rules.specs.Sound.{Rule1, Rule2, Rule3, Rule4, Rule5, Rule6, Rules, Exactly}
use Rattle.rules.proofs.Rule3.{rule3-holds, rule3-tested}
use Rattle.rules.proofs.Rule4.{rule4-holds, rule4-tested}
use Rattle.rules.proofs.Rule5.{rule1-holds, rule1-tested, rule2-holds, rule2-tested, rule5-holds, rule5-tested}
use Rattle.rules.proofs.Rule6.{rule6-holds, rule6-tested}

-- a number other than n comes from after rule n
past : (n m : ℕ) (t : Bool) (r : ℕ) → (n ≡ m → ⊥) → rule n t (λ _. r) ≡ m → (t ≡ false) × (r ≡ m)
past n m true r x h = absurd (x h)
past n m false r x h = (refl, h)

-- from rule n on comes 0, or a number from n on
on-from : (n m : ℕ) (t : Bool) (r : ℕ) → (r ≡ m → (m ≡ 0) ⊎ (n < m)) → rule n t (λ _. r) ≡ m → (m ≡ 0) ⊎ (n ≤ m)
on-from n m true r x h = inr (omega arith)
on-from n m false r x h = ⊎_elim inl (λ l. inr (omega arith)) (x h)

-- n itself comes from rule n, where what comes after it is 0 or greater
stop : (n : ℕ) (t : Bool) (r : ℕ) → 0 < n → (r ≡ n → (n ≡ 0) ⊎ (n < n)) → rule n t (λ _. r) ≡ n → t ≡ true
stop n true r z x h = refl
stop n false r z x h = ⊎_elim (λ e. absurd (omega arith)) (λ l. absurd (omega arith)) (x h)

-- a test that is not false is true
surely : (t : Bool) → (t ≡ false → ⊥) → t ≡ true
surely true x = refl
surely false x = absurd (x refl)

wrong : (t : Bool) → t ≡ true → t ≡ false → ⊥
wrong t p q = true≢false (sym p ∙ q)

module _ (v : ℕ) (d : List ℕ) where
  -- what the rules after the fifth, fourth, .. give
  after5 : ℕ
  after5 = rule 6 (bad6 d) λ _. 0

  after4 : ℕ
  after4 = rule 5 (bad5 v d) λ _. after5

  after3 : ℕ
  after3 = rule 4 (bad4 d) λ _. after4

  after2 : ℕ
  after2 = rule 3 (bad3 d) λ _. after3

  after1 : ℕ
  after1 = rule 2 (bad2 d) λ _. after2

  from6 : (m : ℕ) → after5 ≡ m → (m ≡ 0) ⊎ (6 ≤ m)
  unfolding after5
  from6 m = on-from 6 m (bad6 d) 0 (λ e. inl (sym e))

  from5 : (m : ℕ) → after4 ≡ m → (m ≡ 0) ⊎ (5 ≤ m)
  unfolding after4
  from5 m = on-from 5 m (bad5 v d) after5 (from6 m)

  from4 : (m : ℕ) → after3 ≡ m → (m ≡ 0) ⊎ (4 ≤ m)
  unfolding after3
  from4 m = on-from 4 m (bad4 d) after4 (from5 m)

  from3 : (m : ℕ) → after2 ≡ m → (m ≡ 0) ⊎ (3 ≤ m)
  unfolding after2
  from3 m = on-from 3 m (bad3 d) after3 (from4 m)

  from2 : (m : ℕ) → after1 ≡ m → (m ≡ 0) ⊎ (2 ≤ m)
  unfolding after1
  from2 m = on-from 2 m (bad2 d) after2 (from3 m)

  -- a number other than 1, .. k comes from after rule k
  to1 : (m : ℕ) → (1 ≡ m → ⊥) → fault v d ≡ m → (Rule1 v d) × (after1 ≡ m)
  unfolding fault after1 after2 after3 after4 after5
  to1 m x h = let p = past 1 m (bad1 v d) after1 x h in (rule1-holds v d p.0, p.1)

  to2 : (m : ℕ) → (2 ≡ m → ⊥) → after1 ≡ m → (Rule2 d) × (after2 ≡ m)
  unfolding after1
  to2 m x h = let p = past 2 m (bad2 d) after2 x h in (rule2-holds d p.0, p.1)

  to3 : (m : ℕ) → (3 ≡ m → ⊥) → after2 ≡ m → (Rule3 d) × (after3 ≡ m)
  unfolding after2
  to3 m x h = let p = past 3 m (bad3 d) after3 x h in (rule3-holds d p.0, p.1)

  to4 : (m : ℕ) → (4 ≡ m → ⊥) → after3 ≡ m → (Rule4 d) × (after4 ≡ m)
  unfolding after3
  to4 m x h = let p = past 4 m (bad4 d) after4 x h in (rule4-holds d p.0, p.1)

  to5 : (m : ℕ) → Rule2 d → (5 ≡ m → ⊥) → after4 ≡ m → (Rule5 v d) × (after5 ≡ m)
  unfolding after4
  to5 m r x h = let p = past 5 m (bad5 v d) after5 x h in (rule5-holds v d r.used p.0, p.1)

  is_none : (fault v d ≡ 0) ↔ Rules v d
  unfolding fault after5
  is_none = (
    λ h.
        let p = to1 0 (λ e. omega arith) h in
        let q = to2 0 (λ e. omega arith) p.1 in
        let r = to3 0 (λ e. omega arith) q.1 in
        let s = to4 0 (λ e. omega arith) r.1 in
        let t = to5 0 q.0 (λ e. omega arith) s.1 in
        record {
          rule1 = p.0;
          rule2 = q.0;
          rule3 = r.0;
          rule4 = s.0;
          rule5 = t.0;
          rule6 = rule6-holds d (past 6 0 (bad6 d) 0 (λ e. omega arith) t.1).0;
        },
    λ r.
        rw (
          rule1-tested v d r.rule1,
          rule2-tested d r.rule2,
          rule3-tested d r.rule3,
          rule4-tested d r.rule4,
          rule5-tested v d r.rule2.used r.rule5,
          rule6-tested d r.rule6,
        ),
  )

  is_one : (fault v d ≡ 1) ↔ (Rule1 v d → ⊥)
  unfolding fault after1 after2 after3 after4 after5
  is_one = (
    λ h r.
        wrong (bad1 v d)
        (stop 1 (bad1 v d) after1 (omega arith) (from2 1) h)
        (rule1-tested v d r),
    λ x. rw (surely (bad1 v d) (λ t. x (rule1-holds v d t))),
  )

  is_two : (fault v d ≡ 2) ↔ (Rule1 v d × (Rule2 d → ⊥))
  unfolding fault after1
  is_two = (
    λ h.
        let p = to1 2 (λ e. omega arith) h in (
          p.0,
          λ r.
              wrong (bad2 d)
              (stop 2 (bad2 d) after2 (omega arith) (from3 2) p.1)
              (rule2-tested d r),
        ),
    λ x.
        rw (rule1-tested v d x.0, surely (bad2 d) (λ t. x.1 (rule2-holds d t))),
  )

  is_three : (fault v d ≡ 3) ↔ (Rule1 v d × Rule2 d × (Rule3 d → ⊥))
  unfolding fault after2
  is_three = (
    λ h.
        let p = to1 3 (λ e. omega arith) h in
        let q = to2 3 (λ e. omega arith) p.1 in (
          p.0,
          q.0,
          λ r.
              wrong (bad3 d)
              (stop 3 (bad3 d) after3 (omega arith) (from4 3) q.1)
              (rule3-tested d r),
        ),
    λ x.
        rw (rule1-tested v d x.0, rule2-tested d x.1, surely (bad3 d) (λ t. x.2 (rule3-holds d t))),
  )

  is_four : (fault v d ≡ 4) ↔ (Rule1 v d × Rule2 d × Rule3 d × (Rule4 d → ⊥))
  unfolding fault after3
  is_four = (
    λ h.
        let p = to1 4 (λ e. omega arith) h in
        let q = to2 4 (λ e. omega arith) p.1 in
        let r = to3 4 (λ e. omega arith) q.1 in (
          p.0,
          q.0,
          r.0,
          λ x.
              wrong (bad4 d)
              (stop 4 (bad4 d) after4 (omega arith) (from5 4) r.1)
              (rule4-tested d x),
        ),
    λ x.
        rw (
          rule1-tested v d x.0,
          rule2-tested d x.1,
          rule3-tested d x.2,
          surely (bad4 d) (λ t. x.3 (rule4-holds d t)),
        ),
  )

  is_five : (fault v d ≡ 5) ↔ (Rule1 v d × Rule2 d × Rule3 d × Rule4 d × (Rule5 v d → ⊥))
  unfolding fault after4
  is_five = (
    λ h.
        let p = to1 5 (λ e. omega arith) h in
        let q = to2 5 (λ e. omega arith) p.1 in
        let r = to3 5 (λ e. omega arith) q.1 in
        let s = to4 5 (λ e. omega arith) r.1 in (
          p.0,
          q.0,
          r.0,
          s.0,
          λ x.
              wrong (bad5 v d)
              (stop 5 (bad5 v d) after5 (omega arith) (from6 5) s.1)
              (rule5-tested v d q.0.used x),
        ),
    λ x.
        rw (
          rule1-tested v d x.0,
          rule2-tested d x.1,
          rule3-tested d x.2,
          rule4-tested d x.3,
          surely (bad5 v d) (λ t. x.4 (rule5-holds v d x.1.used t)),
        ),
  )

  is_six : (fault v d ≡ 6) ↔ (Rule1 v d × Rule2 d × Rule3 d × Rule4 d × Rule5 v d × (Rule6 d → ⊥))
  unfolding fault after5
  is_six = (
    λ h.
        let p = to1 6 (λ e. omega arith) h in
        let q = to2 6 (λ e. omega arith) p.1 in
        let r = to3 6 (λ e. omega arith) q.1 in
        let s = to4 6 (λ e. omega arith) r.1 in
        let t = to5 6 q.0 (λ e. omega arith) s.1 in (
          p.0,
          q.0,
          r.0,
          s.0,
          t.0,
          λ x.
              wrong (bad6 d) (stop 6 (bad6 d) 0 (omega arith) (λ e. inl (sym e)) t.1) (rule6-tested d x),
        ),
    λ x.
        rw (
          rule1-tested v d x.0,
          rule2-tested d x.1,
          rule3-tested d x.2,
          rule4-tested d x.3,
          rule5-tested v d x.1.used x.4,
          surely (bad6 d) (λ t. x.5 (rule6-holds d t)),
        ),
  )

  pub exactly : Exactly v d
  exactly =
      record { sound = is_none; one = is_one; two = is_two; three = is_three; four = is_four; five = is_five; six = is_six }
