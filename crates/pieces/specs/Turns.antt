-- A turn of the reader's loop: one byte, a whole header, or all data bytes that the piece has of a block, stored at once.
use Rattle.std.specs.Prelude.{ℕ, ◌+◌, ◌-◌, ◌*◌, ◌%◌, ◌≤◌, ◌<◌, min, ◌≡◌, false, List, length, get_or, take}
use Rattle.loads.specs.Blocks.{byte_sum, count_of, address_of}
use Rattle.loadsteps.specs.Step.{up, decided}
use Rattle.loadsteps.specs.Run.{read, fill}
use Rattle.loadsteps.specs.declared.Phase.TheVariants.{Data}
use Rattle.loadsteps.specs.declared.Reader.{Reader}

-- how many of k bytes are data with a place, where n data bytes are due from address a on, in a memory of l bytes
unfoldable pub run_length : ℕ → ℕ → ℕ → ℕ → ℕ
run_length l a n k = min k (min n (l - a))

-- the reader r, which n data bytes were due to from address a on, behind the bytes ds of them
unfoldable pub behind : Reader → ℕ → ℕ → List ℕ → Reader
behind r a n ds = record {
  phase = Data (a + length ds) (n - length ds);
  sum = (r.sum + byte_sum ds) % 256;
  stored = up (length ds) r.stored;
  offset = up (length ds) r.offset;
}

-- a header of n data bytes stands first in s, whole, and a memory of l bytes has their places
pub record DataHeader (l n : ℕ) (s : List ℕ) : Type 0 where
  pub whole : 6 ≤ length s
  pub first : get_or s 0 0 ≡ 1
  pub second : get_or s 1 0 ≡ 0
  pub some : 0 < n
  pub counts : count_of s ≡ n + 6
  pub fits : address_of s + n ≤ l

-- the reader r behind this header
unfoldable pub behind_header : Reader → ℕ → List ℕ → Reader
behind_header r n s = record {
  phase = Data (address_of s) n;
  sum = (r.sum + byte_sum (take 6 s)) % 256;
  stored = r.stored;
  offset = up 6 r.offset;
}

-- what a turn needs: a memory of l bytes, a byte, and a reader that is not decided
pub record Ready (l : ℕ) (r : Reader) (s m : List ℕ) : Type 0 where
  pub room : l ≤ 2 * length m
  pub small : l ≤ 65536
  pub some : 0 < length s
  pub undecided : decided r ≡ false

-- a turn passed the first n bytes of s, none of which is stored
pub record PassedOver (l : ℕ) (r : Reader) (s : List ℕ) (n : ℕ) (r' : Reader) : Type 0 where
  pub some : 0 < n
  pub within : n ≤ length s
  pub state : r' ≡ read l r (take n s)
  pub memory : (m : List ℕ) → fill l r (take n s) m ≡ m

-- a turn took the first n bytes of s: they made the reader r and the memory m what they are now, r' and m'
pub record Took (l : ℕ) (r : Reader) (s m : List ℕ) (n : ℕ) (r' : Reader) (m' : List ℕ) : Type 0 where
  pub some : 0 < n
  pub within : n ≤ length s
  pub state : r' ≡ read l r (take n s)
  pub memory : m' ≡ fill l r (take n s) m
