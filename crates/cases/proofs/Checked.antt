-- The check, as a loop meets it: what is left of the words or bytes, with both sums so far, gives the check of all. A turn takes the first that is
-- left; at the end none is.
use Rattle.std.proofs.Common.{◌≡◌, ℕ, ◌+◌, ◌*◌, ◌<◌, ◌≤◌, List, length, get_or, drop, refl, add-one, arith, drop_of_length-le, drop-cons}
use Rattle.cases.specs.declared.output.Sums.{Sums}
use Rattle.cases.specs.Lines.{check_from, check, Added}

-- the sums before the i-th
pub record Checking (ws : List ℕ) (s : Sums) (i : ℕ) : Type 0 where
  pub within : i ≤ length ws
  pub a : s.a < 65521
  pub b : s.b < 65521
  pub left : check_from s.a s.b (drop i ws) ≡ check ws

pub begins : (ws : List ℕ) → Checking ws (record { a = 1; b = 0 }) 0
unfolding check
begins ws = record { within = omega arith; a = omega arith; b = omega arith; left = refl }

pub goes_on_lem : (ws : List ℕ) (s r : Sums) (i : ℕ) → i < length ws → Checking ws s i → Added s (get_or ws i 0) r → Checking ws r (i + 1)
unfolding check_from
goes_on_lem ws s r i h k e =
    record {
      within = omega arith;
      a = omega arith;
      b = omega arith;
      left = rw (add-one, e.b, e.a) (rw (drop-cons ws i 0 h) at k.left);
    }

pub ends : (ws : List ℕ) (s : Sums) (i : ℕ) → length ws ≤ i → Checking ws s i → s.b * 65536 + s.a ≡ check ws
unfolding check_from
ends ws s i h k = rw (drop_of_length-le ws h) at k.left
