-- The map of a load file (document 02, Req 10) that a technician reads: "blocks, addresses, transfer address". Addresses are octal, as the manual
-- and the machine's panel have them; counts are decimal.
use Rattle.std.specs.Prelude.{ℕ, zero, suc, ◌+◌, ◌*◌, ◌-◌, ◌/◌, ◌%◌, Bool, cond, List, [], ◌∷◌, ◌++◌, length, drop, leb}
use Rattle.names.specs.Text.{bytes}
use Rattle.meaning.specs.Listing.{six_wide, refused_line}
use Rattle.loads.specs.Blocks.{part_of}
use Rattle.loads.specs.Reading.{goes_on, rest_of}
use Rattle.loads.specs.declared.Part.{Part}
use Rattle.loads.specs.declared.Part.TheVariants.{Gap, Block, End, Refused}
use Rattle.loads.specs.declared.Saved.{Saved}

-- the last octal digit of a number
unfoldable pub octal_digit : ℕ → ℕ
octal_digit n = 48 + n % 8

-- six octal digits
unfoldable pub octal : ℕ → List ℕ
octal n =
    octal_digit (n / 32768)
    ∷ octal_digit (n / 4096)
    ∷ octal_digit (n / 512)
    ∷ octal_digit (n / 64)
    ∷ octal_digit (n / 8)
    ∷ octal_digit n
    ∷ []

-- a data block: the addresses of its first and last byte, and how many bytes it has
unfoldable pub block_line : ℕ → ℕ → List ℕ
block_line a n = octal a ++ bytes "-" ++ octal (a + n - 1) ++ six_wide n ++ bytes "\n"

unfoldable pub transfer_line : ℕ → List ℕ
transfer_line t = bytes "TRANSFER " ++ octal t ++ bytes "\n"

-- what the map shows of a part
abbrev pub line_of : Part → List ℕ
line_of Gap = []
line_of (Block a n) = block_line a n
line_of (End t) = transfer_line t
line_of (Refused k) = refused_line k

-- the lines of a stream, up to the part that ends it, over all 65,536 addresses. Its first k bytes belong to the part before
unfoldable pub map_from : ℕ → List ℕ → List ℕ
map_from k [] = line_of (Refused 30)
map_from (suc k) (b ∷ s) = map_from k s
map_from zero (b ∷ s) =
    let part = part_of 65536 (b ∷ s) in
    let r = map_from (rest_of part) s in
    line_of part ++ cond (goes_on part) r []

unfoldable pub map_text : List ℕ → List ℕ
map_text s = map_from 0 s

-- room that is enough for the map of any stream of n bytes: a block of a line of 20 bytes has at least 8, and a last line has at most 16
unfoldable pub map_fits : ℕ → ℕ → Bool
map_fits n room = leb (3 * n + 16) room

-- too short an output is 24; else it answers the byte count
unfoldable pub map_answer : List ℕ → ℕ → Saved
map_answer s room =
    cond (map_fits (length s) room) (record { number = 0; count = length (map_text s) }) (record { number = 24; count = 0 })

-- the map and then the room's old bytes, or on a refusal its old bytes alone
unfoldable pub map_output : List ℕ → List ℕ → List ℕ
map_output s out = cond (map_fits (length s) (length out)) (map_text s ++ drop (length (map_text s)) out) out
