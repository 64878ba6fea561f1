-- The parts of a record (docs/CASES.md): numbers, names and requests as they stand in its bytes.
use Rattle.std.specs.Prelude.{ℕ, ◌+◌, ◌-◌, ◌*◌, Bool, cond, ◌&&◌, List, ℤ, pos, negsuc, ◌==◌, nat_le, nat_lt}
use Rattle.meaning.specs.declared.Name.{Name}
use Rattle.meaning.specs.declared.Op.{Op}
use Rattle.meaning.specs.declared.Op.TheVariants.{Lookup, Enter, Close, Abandon, Delete, Rename, Protect, Unprotect}
use Rattle.meaning.specs.declared.Request.{Request}
use Rattle.meaning.specs.Listing.{word_at}

-- a number of 32 bits is two words, low word first
unfoldable pub long_at : List ℕ → ℕ → ℕ
long_at bs k = word_at bs k + 65536 * word_at bs (k + 2)

-- in two's complement: from 2,147,483,648 on it stands for 4,294,967,296 less
unfoldable pub signed_of : ℕ → ℤ
signed_of n = cond (nat_lt n 2147483648) (pos n) (negsuc (4294967295 - n))

abbrev pub signed_at : List ℕ → ℕ → ℤ
signed_at bs k = signed_of (long_at bs k)

abbrev pub name_at : List ℕ → ℕ → Name
name_at bs k = record { first = word_at bs k; second = word_at bs (k + 2); extension = word_at bs (k + 4) }

-- the number that asks for each request; whoever takes a number that is none stops before
unfoldable pub is_request : ℕ → Bool
is_request n = nat_le 1 n && nat_le n 8

unfoldable pub op_of : ℕ → Op
op_of n =
    cond (n == 1) Lookup
    (cond (n == 2) Enter
    (cond (n == 3) Close
    (cond (n == 4) Abandon
    (cond (n == 5) Delete
    (cond (n == 6) Rename
    (cond (n == 7) Protect Unprotect))))))

-- fourteen words: op, name, new name, job, channel, size, final length, date
unfoldable pub request_at : List ℕ → ℕ → Request
request_at bs k =
    record {
      op = op_of (word_at bs k);
      name = name_at bs (k + 2);
      new_name = name_at bs (k + 8);
      job = word_at bs (k + 14);
      channel = word_at bs (k + 16);
      size = signed_at bs (k + 18);
      final_length = signed_at bs (k + 22);
      date = word_at bs (k + 26);
    }
