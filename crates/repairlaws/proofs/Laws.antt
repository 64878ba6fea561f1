-- The laws of the tool, by the cases of its tests: damage that it only answers, a sound directory, a proposal that passes, and none.
use Prim.Native.Nat.{ℕ}
use mathlib.Core.Path.{◌≡◌, refl, sym, ◌∙◌}
use mathlib.Core.Logic.{◌⊎◌, inl, inr}
use mathlib.Core.Bool.{Bool, true, false, cond, ◌||◌, true≢false}
use mathlib.Core.List.{List}
use native.Mathlib.Omega.{arith}
use lib.ListN.{length}
use lib.Dec.{eqb}
use borrow.Author.Tests.{eqb-true, eq-eqb}
use Rattle.bools.proofs.Bools.{never}
use Rattle.meaning.specs.Sound.{fault}
use Rattle.rules.proofs.Sound.{exactly}
use Rattle.rules.proofs.Soundness.{faultless}
use Rattle.repaired.specs.Kept.{kept_files, beyond, passes, accepts}
use Rattle.repaired.specs.Tool.{proposal, Repaired, repair}
use Rattle.repairlaws.specs.Reachable.{Reachable, Passing, Tests, Repairs}
use Rattle.repairlaws.proofs.Sorted.{same-files}
use Rattle.repairlaws.proofs.Multisets.{same_multiset}
use Rattle.repairlaws.proofs.Frames.{framed}
use Rattle.repairlaws.proofs.Complete.{passed, complete}
use Rattle.repairlaws.proofs.Reaches.{same_reachable, proposal_reachable}

-- a sound directory passes as it is
sound-accepts : (v : ℕ) (d : List ℕ) → fault v d ≡ 0 → accepts v d d ≡ 0
unfolding accepts beyond passes
sound-accepts v d h = rw (h, eq-eqb (length d) (length d) refl, same-files (kept_files d))

-- what the test says where the damage is not beyond repair
accepts-passes : (v : ℕ) (d w : List ℕ) → beyond (fault v d) ≡ false → accepts v d w ≡ 0 → passes v d w ≡ true
unfolding accepts
accepts-passes v d w b h = go (passes v d w) (rw b at h)
  where
    go : (x : Bool) → ◌≡◌ {A = ℕ} (cond x 0 22) 0 → x ≡ true
    go true e = refl
    go false e = absurd (omega arith)

passes-accepts : (v : ℕ) (d w : List ℕ) → beyond (fault v d) ≡ false → passes v d w ≡ true → accepts v d w ≡ 0
unfolding accepts
passes-accepts v d w b h = rw (b, h)

accepts-number : (v : ℕ) (d w : List ℕ) → beyond (fault v d) ≡ true → accepts v d w ≡ fault v d
unfolding accepts
accepts-number v d w b = rw b

-- the test, in plain terms
module _ (v : ℕ) (d w : List ℕ) where
  passes_passing : passes v d w ≡ true → Passing v d w
  passes_passing h =
      let p = passed v d w h in
      record {
        size = p.0;
        sound = (exactly v w).sound.0 (faultless v w p.1);
        files = (same_multiset (kept_files d) (kept_files w)).0 p.2;
      }

  passing_passes : Passing v d w → passes v d w ≡ true
  unfolding passes
  passing_passes p =
      rw (eq-eqb (length w) (length d) p.size, (exactly v w).sound.1 p.sound) ((same_multiset (kept_files d) (kept_files w)).1 p.files)

  pub tests : Tests v d w
  unfolding accepts
  tests =
      record {
        answered = accepts-number v d w;
        accepted = λ b. (λ h. passes_passing (accepts-passes v d w b h), λ p. passes-accepts v d w b (passing_passes p));
        rejected = λ b n. rw (b, never (passes v d w) (λ h. n (passes_passing h)));
      }

-- a sound directory comes back unchanged
sound-repair : (v : ℕ) (d : List ℕ) → fault v d ≡ 0 → repair v d ≡ record { number = 0; words = d }
unfolding repair beyond
sound-repair v d h = rw h

module _ (v : ℕ) (d : List ℕ) where
  -- what is to be shown of an outcome
  record Right (r : Repaired) : Type 0 where
    passes : r.number ≡ 0 → accepts v d r.words ≡ 0
    reached : r.number ≡ 0 → Reachable d r.words
    complete : (w : List ℕ) → Reachable d w → accepts v d w ≡ 0 → r.number ≡ 0
    sound : r.number ≡ 0 → fault v r.words ≡ 0
    refused : (r.number ≡ 0 → ⊥) → r.words ≡ d
    answered : beyond (fault v d) ≡ true → r.number ≡ fault v d
    numbers : beyond (fault v d) ≡ false → (r.number ≡ 0) ⊎ (r.number ≡ 22)

  -- its own number: damage that is answered, or 0
  answers : (beyond (fault v d) ≡ true) ⊎ (eqb (fault v d) 0 ≡ true) → Right (record { number = fault v d; words = d })
  answers c =
      record {
        passes = sound-accepts v d;
        reached = λ h. same_reachable d;
        complete = λ w r h. of_test w c h;
        sound = λ h. h;
        refused = λ h. refl;
        answered = λ h. refl;
        numbers = λ b. inl (no_damage b c);
      }
    where
      of_test : (w : List ℕ) → (beyond (fault v d) ≡ true) ⊎ (eqb (fault v d) 0 ≡ true) → accepts v d w ≡ 0 → fault v d ≡ 0
      of_test w (inl b) h = sym (accepts-number v d w b) ∙ h
      of_test w (inr e) h = eqb-true (fault v d) 0 e

      no_damage : beyond (fault v d) ≡ false → (beyond (fault v d) ≡ true) ⊎ (eqb (fault v d) 0 ≡ true) → fault v d ≡ 0
      no_damage b (inl e) = absurd (true≢false (sym e ∙ b))
      no_damage b (inr e) = eqb-true (fault v d) 0 e

  -- a proposal, or none
  module _ (b : beyond (fault v d) ≡ false) where
    proposes : passes v d (proposal v d) ≡ true → Right (record { number = 0; words = proposal v d })
    proposes p =
        record {
          passes = λ h. passes-accepts v d (proposal v d) b p;
          reached = λ h. proposal_reachable v d (framed v d b);
          complete = λ w r h. refl;
          sound = λ h. faultless v (proposal v d) (passed v d (proposal v d) p).1;
          refused = λ h. absurd (h refl);
          answered = λ h. absurd (true≢false (sym h ∙ b));
          numbers = λ h. inl refl;
        }

    refuses : passes v d (proposal v d) ≡ false → Right (record { number = 22; words = d })
    refuses p =
        record {
          passes = λ h. absurd (omega arith);
          reached = λ h. absurd (omega arith);
          complete = λ w r h. absurd (true≢false (sym (complete v d w (framed v d b) r (accepts-passes v d w b h)) ∙ p));
          sound = λ h. absurd (omega arith);
          refused = λ h. refl;
          answered = λ h. absurd (true≢false (sym h ∙ b));
          numbers = λ h. inr refl;
        }

  right : Right (repair v d)
  unfolding repair
  right = go (beyond (fault v d)) (eqb (fault v d) 0) (passes v d (proposal v d)) refl refl refl
    where
      go : (x y z : Bool) → beyond (fault v d) ≡ x → eqb (fault v d) 0 ≡ y → passes v d (proposal v d) ≡ z
          → Right
          (cond (x || y) (record { number = fault v d; words = d })
          (cond z (record { number = 0; words = proposal v d }) (record { number = 22; words = d })))
      go true y z b n p = answers (inl b)
      go false true z b n p = answers (inr n)
      go false false true b n p = proposes b p
      go false false false b n p = refuses b p

  -- 22, and what can be reached
  none_passes : (repair v d).number ≡ 22 → (w : List ℕ) → Reachable d w → accepts v d w ≡ 0 → ⊥
  none_passes e w a h = let z = right.complete w a h in omega arith

  only : ((repair v d).number ≡ 0) ⊎ ((repair v d).number ≡ 22) → ((w : List ℕ) → Reachable d w → accepts v d w ≡ 0 → ⊥) → (repair v d).number ≡ 22
  only (inl z) f = absurd (f (repair v d).words (right.reached z) (right.passes z))
  only (inr e) f = e

  pub repairs : Repairs v d
  repairs =
      let r = right in
      record {
        passes = r.passes;
        reached = r.reached;
        complete = r.complete;
        kept = sound-repair v d;
        again = λ h. sound-repair v (repair v d).words (r.sound h);
        refused = r.refused;
        answered = r.answered;
        numbers = r.numbers;
        hopeless = λ b. (none_passes, only (r.numbers b));
      }
