-- What a squeeze counts before it writes, entry by entry: the next free block, the moves, the entries of the segment made anew.
use Rattle.std.specs.Prelude.{ℕ, ◌+◌, ◌≤◌, ◌≡◌, cond, List, [], ◌∷◌, eqb}
use Rattle.meaning.specs.Words.{Entry, blocks, slots, upto}
use Rattle.squeezed.specs.Moves.{idle}
use Rattle.squeezed.specs.Squeeze.{is_file, new_place}
use Rattle.tally.specs.declared.tally.Tally.{Tally}
use Rattle.tally.specs.Walks.{Walkable}

-- one move for blocks that change place
abbrev pub move_count : ℕ → ℕ → ℕ → ℕ
move_count b q n = cond (idle (record { source = b; to = q; length = n })) 0 1

-- the file itself, and what is left over before it
abbrev pub entry_count : ℕ → ℕ → ℕ
entry_count p q = cond (eqb p q) 1 2

-- a file of n blocks that stands at block b goes to block q
abbrev pub file_tallied : ℕ → Tally → ℕ → ℕ → Tally
file_tallied b t q n =
    record { free = q + n; moves = t.moves + move_count b q n; entries = t.entries + entry_count t.free q }

-- an entry that stands at block b
unfoldable pub tally_after : ℕ → Tally → Entry → Tally
tally_after b t e = cond (is_file e) (file_tallied b t (new_place b t.free e) (blocks e)) t

-- entries, the first of which stands at block b
unfoldable pub tallied : ℕ → Tally → List Entry → Tally
tallied b t [] = t
tallied b t (e ∷ es) = tallied (b + blocks e) (tally_after b t e) es

-- what the tally of an entry at block b presumes: no file has passed it, and no sum wraps
pub record EntryTallyable (b : ℕ) (t : Tally) : Type 0 where
  pub low : t.free ≤ b
  pub high : b ≤ 65535
  pub few : t.moves ≤ 100000
  pub many : t.entries ≤ 100000

-- what that of a segment presumes, which begins at block b
pub record Tallyable (w : ℕ) (g : List ℕ) (b : ℕ) (t : Tally) : Type 0 where
  pub walk : Walkable w g b t.free
  pub few : t.moves ≤ 65535
  pub many : t.entries ≤ 65535

-- what the tally t becomes
pub record TalliedTo (w : ℕ) (g : List ℕ) (b : ℕ) (t r : Tally) : Type 0 where
  pub is : r ≡ tallied b t (upto (slots w g))
  pub moves : r.moves ≤ t.moves + 507
  pub entries : r.entries ≤ t.entries + 1014
