-- What one byte of a load file does (document 02, Req 10: "A block is byte 1, byte 0, a 16-bit count covering the header and data, a 16-bit load
-- address, data, and a checksum byte that makes the sum of all bytes 0 modulo 256").
use Rattle.std.specs.Prelude.{ℕ, ◌+◌, ◌*◌, ◌-◌, ◌%◌, min, Bool, true, false, cond, List, eqb, ltb}
use Rattle.loads.specs.Memory.{put_byte}
use Rattle.loadsteps.specs.declared.Phase.{Phase}
use Rattle.loadsteps.specs.declared.Phase.TheVariants.{Start, Zero, CountLow, CountHigh, AddressLow, AddressHigh, Data, EndSum, Accepted, Refused}
use Rattle.loadsteps.specs.declared.Role.{Role}
use Rattle.loadsteps.specs.declared.Role.TheVariants.{Passing, Storing}
use Rattle.loadsteps.specs.declared.Role.TheVariants as roles
use Rattle.loadsteps.specs.declared.Reader.{Reader}

-- a counter has 64 bits, and stops at its largest value
unfoldable pub capped : ℕ → ℕ
capped n = min n 18446744073709551615

-- the counter t, n higher
unfoldable pub up : ℕ → ℕ → ℕ
up n t = capped (t + n)

-- where a block should start: "Zero bytes may stand between blocks"; 27 a byte "that is neither 0 nor 1"
unfoldable pub after_start : ℕ → Phase
after_start b = cond (eqb b 0) Start (cond (eqb b 1) Zero (Refused 27))

-- 27 "a 1 not followed by 0"
unfoldable pub after_one : ℕ → Phase
after_one b = cond (eqb b 0) CountLow (Refused 27)

-- "28 count under 6"; the count covers the six bytes of the header
unfoldable pub after_count : ℕ → Phase
after_count n = cond (ltb n 6) (Refused 28) (AddressLow (n - 6))

-- of n data bytes from address a on, in a memory of l bytes: "Count 6 gives the transfer address and ends the file"; "29 data outside the memory,
-- judged from the header"
unfoldable pub after_header : ℕ → ℕ → ℕ → Phase
after_header l n a = cond (eqb n 0) (EndSum a) (cond (ltb l (a + n)) (Refused 29) (Data a n))

-- "31 bad checksum", where s is the sum with the checksum in it; and else what is due next
unfoldable pub after_sum : ℕ → Phase → Phase
after_sum s next = cond (eqb s 0) next (Refused 31)

-- n data bytes were due, from address a on: with none due the byte was the checksum. A data byte that has no place is 29 too: this can't be where the
-- header was judged by the same memory, only where a caller lends a shorter one for a later piece
unfoldable pub after_data : ℕ → ℕ → ℕ → ℕ → Phase
after_data l a n s = cond (eqb n 0) (after_sum s Start) (cond (ltb a l) (Data (a + 1) (n - 1)) (Refused 29))

-- which byte is due after the byte b, where s is the sum of all bytes so far, b included. As a checksum makes a block's sum 0, and zeros add nothing,
-- the sum of all bytes is that of the block's
abbrev pub due : ℕ → Phase → ℕ → ℕ → Phase
due l Start s b = after_start b
due l Zero s b = after_one b
due l CountLow s b = CountHigh b
due l (CountHigh low) s b = after_count (low + 256 * b)
due l (AddressLow n) s b = AddressHigh n b
due l (AddressHigh n low) s b = after_header l n (low + 256 * b)
due l (Data a n) s b = after_data l a n s
due l (EndSum t) s b = after_sum s (Accepted t)
due l (Accepted t) s b = Accepted t
due l (Refused k) s b = Refused k

-- what a phase comes to
abbrev pub role_of : Phase → Role
role_of Start = Passing
role_of Zero = Passing
role_of CountLow = Passing
role_of (CountHigh low) = Passing
role_of (AddressLow n) = Passing
role_of (AddressHigh n low) = Passing
role_of (Data a n) = Storing a n
role_of (EndSum t) = Passing
role_of (Accepted t) = roles.Accepted t
role_of (Refused k) = roles.Refused k

-- accepted or refused: "Later pieces change nothing."
abbrev pub decided_by : Role → Bool
decided_by Passing = false
decided_by (Storing a n) = false
decided_by (roles.Accepted t) = true
decided_by (roles.Refused k) = true

-- the next byte is a data byte, and a memory of l bytes has its place
abbrev pub is_data : ℕ → Role → Bool
is_data l Passing = false
is_data l (Storing a n) = cond (eqb n 0) false (ltb a l)
is_data l (roles.Accepted t) = false
is_data l (roles.Refused k) = false

-- the place of the next data byte
abbrev pub data_place : Role → ℕ
data_place Passing = 0
data_place (Storing a n) = a
data_place (roles.Accepted t) = 0
data_place (roles.Refused k) = 0

-- how many bytes are passed by a byte that led to this: the one that shows a fault is not
abbrev pub passed_by : Role → ℕ
passed_by Passing = 1
passed_by (Storing a n) = 1
passed_by (roles.Accepted t) = 1
passed_by (roles.Refused k) = 0

abbrev pub decided : Reader → Bool
decided r = decided_by (role_of r.phase)

-- the memory m after the byte b: a data byte is stored at once
unfoldable pub kept_by : ℕ → Role → ℕ → List ℕ → List ℕ
kept_by l k b m = cond (is_data l k) (put_byte (data_place k) b m) m

-- the reader r after a byte that made the sum s, and after which p is due
unfoldable pub moved : ℕ → Reader → Phase → ℕ → Reader
moved l r p s = record {
  phase = p;
  sum = s;
  stored = up (cond (is_data l (role_of r.phase)) 1 0) r.stored;
  offset = up (passed_by (role_of p)) r.offset;
}

-- the reader r after the byte b, over a memory of l bytes
unfoldable pub next : ℕ → Reader → ℕ → Reader
next l r b = cond (decided r) r (moved l r (due l r.phase ((r.sum + b) % 256) b) ((r.sum + b) % 256))
