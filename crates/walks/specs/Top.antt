-- The longest and the second longest of some lengths, as one pass from left to right meets them.
use Rattle.std.specs.Prelude.{ℕ, max, cond, List, [], ◌∷◌, leb}

-- the two longest so far, t, and a length more
abbrev pub better : ℕ × ℕ → ℕ → ℕ × ℕ
better t n = cond (leb t.0 n) (n, t.0) (t.0, max t.1 n)

unfoldable pub top : ℕ × ℕ → List ℕ → ℕ × ℕ
top t [] = t
top t (n ∷ ns) = top (better t n) ns
