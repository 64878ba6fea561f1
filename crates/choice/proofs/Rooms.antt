-- Free slots as a number. Beside n entries a cost has room where it is at most what is left of C; and where a segment is spare, as for
-- any cost up to 2, two slots are as good as free. Assumes nothing.
use Prim.Native.Nat.{ℕ, ◌+◌, ◌-◌, ◌≤◌}
use mathlib.Core.Path.{◌≡◌, sym, ◌∙◌}
use mathlib.Core.Bool.{true, false, or-true, or-false}
use mathlib.Core.Logic.{⊎_elim}
use native.Mathlib.Omega.{arith}
use lib.Dec.{leb}
use borrow.Author.Tests.{le-leb, lt-leb}
use Rattle.bools.proofs.Bools.{either_side}
use Rattle.meaning.specs.Words.{slot_count}
use Rattle.choice.specs.Room.{FreeOf, Free}

-- two tests that hold together
same_test : (a b c e : ℕ) → (a ≤ b → c ≤ e) → (c ≤ e → a ≤ b) → leb a b ≡ leb c e
same_test a b c e f g =
    ⊎_elim (λ l. lt-leb a b l ∙ sym (⊎_elim (λ m. lt-leb c e m) (λ m. absurd (omega (arith, g m))) (either_side e c)))
    (λ l. le-leb a b l ∙ sym (le-leb c e (f l)))
    (either_side b a)

pub left-free : (n w : ℕ) → FreeOf (slot_count w - 1 - n) n w
left-free n w = record { is = λ c l. same_test c (slot_count w - 1 - n) (n + c) (slot_count w - 1) (λ m. omega arith) (λ m. omega arith) }

pub spare_free : (w n : ℕ) → Free 2 w true n
spare_free w n = record { is = λ c l m. le-leb c 2 m ∙ sym (or-true (leb (n + c) (slot_count w - 1))) }

pub counted-free : (r n w : ℕ) → FreeOf r n w → Free r w false n
counted-free r n w f = record { is = λ c l m. f.is c l ∙ sym (or-false (leb (n + c) (slot_count w - 1))) }
