-- A memory of 16-bit words as bytes, low byte first.
use Rattle.std.specs.Prelude.{ℕ, zero, suc, ◌+◌, ◌*◌, ◌/◌, ◌%◌, min, cond, List, [], ◌∷◌, length, get_or, set, eqb}

-- how many bytes it has for a load file: "at most its first 65,536 bytes"
unfoldable pub limit : List ℕ → ℕ
limit m = min (2 * length m) 65536

-- the byte at address a: the low half of its word at an even address, the high half at an odd one
unfoldable pub byte_at : List ℕ → ℕ → ℕ
byte_at m a = cond (eqb (a % 2) 0) (get_or m (a / 2) 0 % 256) (get_or m (a / 2) 0 / 256)

-- the word w with the byte b in the half that address a names
unfoldable pub with_byte : ℕ → ℕ → ℕ → ℕ
with_byte w a b = cond (eqb (a % 2) 0) (w / 256 * 256 + b) (w % 256 + 256 * b)

-- the memory m with the byte b at address a
unfoldable pub put_byte : ℕ → ℕ → List ℕ → List ℕ
put_byte a b m = set m (a / 2) (with_byte (get_or m (a / 2) 0) a b)

-- the n bytes from address a on
unfoldable pub bytes_at : List ℕ → ℕ → ℕ → List ℕ
bytes_at m a zero = []
bytes_at m a (suc n) = byte_at m a ∷ bytes_at m (a + 1) n

-- the memory m with the bytes ds from address a on
unfoldable pub puts : ℕ → List ℕ → List ℕ → List ℕ
puts a [] m = m
puts a (b ∷ ds) m = puts (a + 1) ds (put_byte a b m)
