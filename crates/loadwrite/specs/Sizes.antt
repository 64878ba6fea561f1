-- How many bytes a load file has, known before it is made.
use Rattle.std.specs.Prelude.{ℕ, ◌+◌, ◌*◌, ◌/◌, ◌%◌, cond, eqb}

-- of n data bytes: full blocks with seven bytes more each, the shorter one, and the end block
unfoldable pub file_size : ℕ → ℕ
file_size n = n / 128 * 135 + cond (eqb (n % 128) 0) 0 (n % 128 + 7) + 7
