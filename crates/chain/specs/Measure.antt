-- What rules 4 and 5 say together, of a directory that meets rules 1 to 3.
use Rattle.std.specs.Prelude.{ℕ, cond, List}
use Rattle.meaning.specs.Sound.{bad4, bad5}

-- 4 or 5, the first of the two that is broken, or 0
unfoldable pub measure_of : ℕ → List ℕ → ℕ
measure_of v d = cond (bad4 d) 4 (cond (bad5 v d) 5 0)
