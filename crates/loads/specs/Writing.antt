-- The writer of load files (document 02, Req 10): "data blocks of 128 bytes, the last shorter, with nothing between them, then the end block".
use Rattle.std.specs.Prelude.{ℕ, zero, suc, ◌+◌, ◌*◌, ◌-◌, ◌/◌, ◌%◌, cond, List, [], ◌∷◌, ◌++◌, length, drop, eqb, ltb}
use Rattle.loads.specs.Memory.{limit, bytes_at}
use Rattle.loads.specs.Blocks.{byte_sum}
use Rattle.loads.specs.declared.Saved.{Saved}

-- the byte "that makes the sum of all bytes 0 modulo 256"
unfoldable pub checksum : List ℕ → ℕ
checksum bs = (256 - byte_sum bs % 256) % 256

-- byte 1, byte 0, the count, the load address, low bytes first, and the data
unfoldable pub body : ℕ → List ℕ → List ℕ
body a ds = 1 ∷ 0 ∷ (6 + length ds) % 256 ∷ (6 + length ds) / 256 ∷ a % 256 ∷ a / 256 ∷ ds

unfoldable pub block : ℕ → List ℕ → List ℕ
block a ds = body a ds ++ checksum (body a ds) ∷ []

-- k data blocks of 128 bytes, from address a on
unfoldable pub full_blocks : List ℕ → ℕ → ℕ → List ℕ
full_blocks m a zero = []
full_blocks m a (suc k) = block a (bytes_at m a 128) ++ full_blocks m (a + 128) k

-- the last, shorter one of n bytes; none where none are left, as a block without data would be the end block
unfoldable pub short_block : List ℕ → ℕ → ℕ → List ℕ
short_block m a n = cond (eqb n 0) [] (block a (bytes_at m a n))

-- the load file of n bytes from address a on, with transfer address t
unfoldable pub load_file : List ℕ → ℕ → ℕ → ℕ → List ℕ
load_file m a n t = full_blocks m a (n / 128) ++ short_block m (a + n / 128 * 128) (n % 128) ++ block t []

-- "a range outside that memory gets 29, then too short an output 24. It answers the byte count."
unfoldable pub save_answer : List ℕ → ℕ → ℕ → ℕ → ℕ → Saved
save_answer m a n t room =
    cond (ltb (limit m) (a + n)) (record { number = 29; count = 0 })
    (cond (ltb room (length (load_file m a n t))) (record { number = 24; count = 0 })
    (record { number = 0; count = length (load_file m a n t) }))

-- what the lent room holds afterwards: the file and then its old bytes, or on a refusal its old bytes alone
unfoldable pub save_output : List ℕ → ℕ → ℕ → ℕ → List ℕ → List ℕ
save_output m a n t out =
    cond (eqb (save_answer m a n t (length out)).number 0) (load_file m a n t ++ drop (length (load_file m a n t)) out) out
