-- The blocks of a load file (document 02, Req 10): "A block is byte 1, byte 0, a 16-bit count covering the header and data, a 16-bit load
-- address, data, and a checksum byte that makes the sum of all bytes 0 modulo 256." What is said here of a stream, a list of bytes, is said of
-- the block that it begins with. Of a block's refusals "the first in the stream" decides: so they are asked for in the order of the bytes that
-- show them, and wherever the next bytes are missing it is "30 input ends before the end block is whole".
use Rattle.std.specs.Prelude.{ℕ, ◌+◌, ◌*◌, ◌-◌, ◌%◌, Bool, false, cond, List, [], ◌∷◌, length, get_or, take, drop, eqb, ltb}
use Rattle.loads.specs.declared.Part.{Part}
use Rattle.loads.specs.declared.Part.TheVariants.{Gap, Block, End, Refused}

-- a 16-bit number, low byte first
unfoldable pub pair_at : List ℕ → ℕ → ℕ
pair_at s k = get_or s k 0 + 256 * get_or s (k + 1) 0

unfoldable pub count_of : List ℕ → ℕ
count_of s = pair_at s 2

unfoldable pub address_of : List ℕ → ℕ
address_of s = pair_at s 4

-- the count covers the six bytes of the header
unfoldable pub data_count : List ℕ → ℕ
data_count s = count_of s - 6

unfoldable pub data_of : List ℕ → List ℕ
data_of s = take (data_count s) (drop 6 s)

-- the sum of bytes
unfoldable pub byte_sum : List ℕ → ℕ
byte_sum [] = 0
byte_sum (b ∷ bs) = b + byte_sum bs

-- header, data and checksum
unfoldable pub whole_block : List ℕ → List ℕ
whole_block s = take (count_of s + 1) s

-- the stream has fewer than n bytes
unfoldable pub is_short : ℕ → List ℕ → Bool
is_short n s = ltb (length s) n

-- 27 "a byte where a block should start that is neither 0 nor 1, or a 1 not followed by 0"; a 0 that starts no block is a part by itself, below
unfoldable pub start_number : List ℕ → ℕ
start_number s =
    cond (eqb (get_or s 0 0) 1) (cond (is_short 2 s) 30 (cond (eqb (get_or s 1 0) 0) 0 27)) 27

-- "28 count under 6"
unfoldable pub count_number : List ℕ → ℕ
count_number s = cond (is_short 4 s) 30 (cond (ltb (count_of s) 6) 28 0)

-- "Count 6 gives the transfer address and ends the file": such a block has no data, and its address may be any
unfoldable pub is_end_block : List ℕ → Bool
is_end_block s = eqb (count_of s) 6

-- data outside a memory of l bytes
unfoldable pub is_outside : ℕ → List ℕ → Bool
is_outside l s = cond (is_end_block s) false (ltb l (address_of s + data_count s))

-- "29 data outside the memory, judged from the header"
unfoldable pub address_number : ℕ → List ℕ → ℕ
address_number l s = cond (is_short 6 s) 30 (cond (is_outside l s) 29 0)

-- "31 bad checksum"
unfoldable pub sum_number : List ℕ → ℕ
sum_number s = cond (is_short (count_of s + 1) s) 30 (cond (eqb (byte_sum (whole_block s) % 256) 0) 0 31)

-- the first of two numbers that is a refusal
unfoldable pub first_refusal : ℕ → ℕ → ℕ
first_refusal a b = cond (eqb a 0) b a

-- the number of the block, 0 where it is whole and right
unfoldable pub block_number : ℕ → List ℕ → ℕ
block_number l s = first_refusal (start_number s) (first_refusal (count_number s) (first_refusal (address_number l s) (sum_number s)))

-- a right block
unfoldable pub right_block : List ℕ → Part
right_block s = cond (is_end_block s) (End (address_of s)) (Block (address_of s) (data_count s))

unfoldable pub block_by : ℕ → List ℕ → Part
block_by n s = cond (eqb n 0) (right_block s) (Refused n)

-- what a stream goes on with, over a memory of l bytes: "Zero bytes may stand between blocks."
unfoldable pub part_of : ℕ → List ℕ → Part
part_of l [] = Refused 30
part_of l (b ∷ s) = cond (eqb b 0) Gap (block_by (block_number l (b ∷ s)) (b ∷ s))
