-- Room for the new entry, as numbers: the slots that an area costs, and those that a segment has free.
use Rattle.std.specs.Prelude.{ℕ, ◌+◌, ◌-◌, ◌≤◌, ◌≡◌, Bool, ◌&&◌, ◌||◌, leb}
use Rattle.meaning.specs.Words.{slot_count}
use Rattle.meaning.specs.Enter.{cost_after}

-- the cost r: 1 or 2
pub record Cost (r : ℕ) (tentative : Bool) : Type 0 where
  pub is : r ≡ cost_after tentative
  pub some : 1 ≤ r
  pub small : r ≤ 2

-- whether so many slots are free
abbrev pub room_for : ℕ → ℕ → Bool
room_for free cost = leb cost free

-- whether an area of n blocks is eligible; p: a tentative entry stands directly before it
unfoldable pub eligible_by : ℕ → Bool → ℕ → Bool
eligible_by free p n = leb 1 n && room_for free (cost_after p)

-- r slots are free beside n entries, where slots have w words: what costs a slot has room where it and the entries are at most C
pub record FreeOf (r n w : ℕ) : Type 0 where
  pub is : (c : ℕ) → 1 ≤ c → room_for r c ≡ leb (n + c) (slot_count w - 1)

-- the room beside n entries: they and the cost are at most C, or a segment is spare
abbrev pub room_by : ℕ → Bool → ℕ → ℕ → Bool
room_by w spare n cost = leb (n + cost) (slot_count w - 1) || spare

-- r slots are free beside n entries: what costs 1 or 2 has room just where there is room
pub record Free (r w : ℕ) (spare : Bool) (n : ℕ) : Type 0 where
  pub is : (c : ℕ) → 1 ≤ c → c ≤ 2 → room_for r c ≡ room_by w spare n c
