-- Small load files in pieces: antt computes every row of the table. The answers are worked out from document 02's words, Req 11, and written out here.
use Prim.Native.Nat.{ℕ}
use mathlib.Core.Path.{◌≡◌, refl}
use mathlib.Core.List.{List, [], ◌∷◌, map}
use Rattle.loads.specs.Memory.{with_byte, put_byte}
use Rattle.loadsteps.specs.Step.{capped, up, after_start, after_one, after_count, after_header, after_sum, after_data, kept_by, moved, next}
use Rattle.loadsteps.specs.Run.{begin, read, fill, ended, answer_now}
use Rattle.loadsteps.specs.declared.Answer.{Answer}
use Rattle.loadsteps.specs.declared.Answer.TheVariants.{Provisional, Accepted, Refused}

-- the bytes 41 42 43 at 0 with transfer address 1
three_bytes : List ℕ
three_bytes = 0x01 ∷ 0x00 ∷ 0x09 ∷ 0x00 ∷ 0x00 ∷ 0x00 ∷ 0x41 ∷ 0x42 ∷ 0x43 ∷ 0x30 ∷ 0x01 ∷ 0x00 ∷ 0x06 ∷ 0x00 ∷ 0x01 ∷ 0x00 ∷ 0xf8 ∷ []

-- two pieces over a memory of four bytes, before the input has ended and after
open2 : List ℕ → List ℕ → Answer
open2 p q = answer_now (read 4 (read 4 begin p) q)

closed2 : List ℕ → List ℕ → Answer
closed2 p q = answer_now (ended (read 4 (read 4 begin p) q))

-- what is asked, and what comes out. The file above, with more bytes behind it, ended or not. Not ended: nothing yet; a block that lacks its checksum.
-- Refused: a byte 2 after zeros; a 1 not followed by 0; count 5, shown by the count's last byte; two bytes from address 3 on, shown by the address's
-- last byte; a 1 at the very end; no input; a block that lacks its checksum, with its two data bytes stored; the same with a wrong one, before another
-- byte; and a block over the one before it, so that four bytes were stored in two places
pub table : List (Answer × Answer)
table =
    (closed2 three_bytes (7 ∷ []), Accepted 1)
    ∷ (open2 (7 ∷ []) three_bytes, Refused 27 0 0)
    ∷ (open2 [] three_bytes, Accepted 1)
    ∷ (open2 [] [], Provisional)
    ∷ (open2 (1 ∷ 0 ∷ 8 ∷ 0 ∷ 2 ∷ []) (0 ∷ 9 ∷ 9 ∷ []), Provisional)
    ∷ (closed2 (0 ∷ 0 ∷ []) (2 ∷ 2 ∷ []), Refused 27 0 2)
    ∷ (open2 (0 ∷ 1 ∷ []) (1 ∷ []), Refused 27 0 2)
    ∷ (open2 (1 ∷ 0 ∷ 5 ∷ []) (0 ∷ 0 ∷ []), Refused 28 0 3)
    ∷ (open2 (1 ∷ 0 ∷ 8 ∷ 0 ∷ 3 ∷ []) (0 ∷ 9 ∷ []), Refused 29 0 5)
    ∷ (closed2 (0 ∷ 1 ∷ []) [], Refused 30 0 2)
    ∷ (closed2 [] [], Refused 30 0 0)
    ∷ (closed2 (1 ∷ 0 ∷ 8 ∷ 0 ∷ 2 ∷ 0 ∷ 9 ∷ []) (9 ∷ []), Refused 30 2 8)
    ∷ (closed2 (1 ∷ 0 ∷ 8 ∷ 0 ∷ 2 ∷ 0 ∷ 9 ∷ 9 ∷ []) (0 ∷ 7 ∷ []), Refused 31 2 8)
    ∷ (closed2 (1 ∷ 0 ∷ 8 ∷ 0 ∷ 2 ∷ 0 ∷ 9 ∷ 9 ∷ 0xe3 ∷ []) (1 ∷ 0 ∷ 8 ∷ 0 ∷ 2 ∷ 0 ∷ 8 ∷ 8 ∷ 0 ∷ []), Refused 31 4 17)
    ∷ []

pub examples : map (λ (row : Answer × Answer). row.0) table ≡ map (λ (row : Answer × Answer). row.1) table
unfolding table three_bytes open2 closed2 answer_now ended read begin next moved up capped after_start after_one after_count after_header after_sum after_data
examples = refl

-- and the memory of the last two: the data of a block whose checksum is wrong stand there
pub stored : fill 4 begin (1 ∷ 0 ∷ 8 ∷ 0 ∷ 2 ∷ 0 ∷ 8 ∷ 9 ∷ 0 ∷ 7 ∷ []) (0x1111 ∷ 0x2222 ∷ []) ≡ 0x1111 ∷ 0x0908 ∷ []
unfolding fill read begin next moved up capped kept_by put_byte with_byte after_start after_one after_count after_header after_sum after_data
stored = refl
