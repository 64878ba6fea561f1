-- Small load files, written and read by the definitions: antt computes every row of the table. The answers are worked out from document 02's words,
-- Req 10, and written out here: a table that took them from the meaning would follow its slips.
use Prim.Native.Nat.{ℕ}
use mathlib.Core.Path.{◌≡◌, refl}
use mathlib.Core.List.{List, [], ◌∷◌, ◌++◌, map}
use Rattle.loads.specs.Memory.{limit, byte_at, with_byte, put_byte, bytes_at, puts}
use Rattle.loads.specs.Blocks.{pair_at, count_of, address_of, data_count, data_of, byte_sum, whole_block, is_short, is_end_block, is_outside, first_refusal}
use Rattle.loads.specs.Blocks.{start_number, count_number, address_number, sum_number, block_number, right_block, block_by, part_of}
use Rattle.loads.specs.Reading.{read_from, fill_from, load_answer, load_memory}
use Rattle.loads.specs.Writing.{checksum, body, block, full_blocks, short_block, load_file}

-- the bytes 41 42 43 at 0 with transfer address 1, and nothing with transfer address 512
three_bytes : List ℕ
three_bytes = 0x01 ∷ 0x00 ∷ 0x09 ∷ 0x00 ∷ 0x00 ∷ 0x00 ∷ 0x41 ∷ 0x42 ∷ 0x43 ∷ 0x30 ∷ 0x01 ∷ 0x00 ∷ 0x06 ∷ 0x00 ∷ 0x01 ∷ 0x00 ∷ 0xf8 ∷ []

no_bytes : List ℕ
no_bytes = 0x01 ∷ 0x00 ∷ 0x06 ∷ 0x00 ∷ 0x00 ∷ 0x02 ∷ 0xf7 ∷ []

-- number and transfer address of a stream, over a memory of l bytes
answered : ℕ → List ℕ → List ℕ
answered l s =
    let r = read_from l 0 s in
    r.number ∷ r.transfer ∷ []

-- what is asked, and what comes out. The two files, written; read, the second over no memory at all, as a transfer address is never outside it.
-- Refused: a byte 2 after zeros; a 1 not followed by 0; count 5; two bytes from address 3 on; a 1 at the very end; no input; a block that lacks its
-- checksum; the same with a wrong one, before another byte. And the memory after the first file with a byte behind it: its fourth byte stays
pub table : List (List ℕ × List ℕ)
table =
    (load_file (0x4241 ∷ 0x43 ∷ []) 0 3 1, three_bytes)
    ∷ (load_file [] 0 0 512, no_bytes)
    ∷ (answered 4 three_bytes, 0 ∷ 1 ∷ [])
    ∷ (answered 0 no_bytes, 0 ∷ 512 ∷ [])
    ∷ (answered 4 (0 ∷ 0 ∷ 2 ∷ []), 27 ∷ 0 ∷ [])
    ∷ (answered 4 (0 ∷ 1 ∷ 1 ∷ []), 27 ∷ 0 ∷ [])
    ∷ (answered 4 (1 ∷ 0 ∷ 5 ∷ 0 ∷ 0 ∷ []), 28 ∷ 0 ∷ [])
    ∷ (answered 4 (1 ∷ 0 ∷ 8 ∷ 0 ∷ 3 ∷ 0 ∷ 9 ∷ []), 29 ∷ 0 ∷ [])
    ∷ (answered 4 (0 ∷ 1 ∷ []), 30 ∷ 0 ∷ [])
    ∷ (answered 4 [], 30 ∷ 0 ∷ [])
    ∷ (answered 4 (1 ∷ 0 ∷ 8 ∷ 0 ∷ 2 ∷ 0 ∷ 9 ∷ 9 ∷ []), 30 ∷ 0 ∷ [])
    ∷ (answered 4 (1 ∷ 0 ∷ 8 ∷ 0 ∷ 2 ∷ 0 ∷ 9 ∷ 9 ∷ 0 ∷ 7 ∷ []), 31 ∷ 0 ∷ [])
    ∷ (load_memory (three_bytes ++ 9 ∷ []) (0xffff ∷ 0xffff ∷ []), 0x4241 ∷ 0xff43 ∷ [])
    ∷ []

pub examples : map (λ (row : List ℕ × List ℕ). row.0) table ≡ map (λ (row : List ℕ × List ℕ). row.1) table
unfolding table three_bytes no_bytes answered limit byte_at with_byte put_byte bytes_at puts pair_at count_of address_of data_count data_of byte_sum whole_block is_short
    is_end_block is_outside first_refusal start_number count_number address_number sum_number block_number right_block block_by part_of read_from fill_from load_answer
    load_memory checksum body block full_blocks short_block load_file
examples = refl
