-- What the mending of a segment in place promises, slot by slot: w is how many words a slot has, fs are the first blocks that are left.
use Rattle.std.specs.Prelude.{ℕ, ◌+◌, ◌-◌, ◌≤◌, ◌≡◌, cond, List, length, drop}
use Rattle.meaning.specs.Kinds.{is_permanent}
use Rattle.meaning.specs.Words.{segment, Entry, kind, blocks, slots, upto, total}
use Rattle.meaning.specs.Enter.{with_segment}
use Rattle.repaired.specs.Tool.{emptied, next_first, mend, files_among, with_slots}
use Rattle.mending.specs.declared.LaidTo.{LaidTo}

-- an entry before the marker, mended: a file stays, any other is empty up to where the next file begins
abbrev pub laid_entry : ℕ → ℕ → List ℕ → Entry → Entry
laid_entry v b fs e = cond (is_permanent (kind e)) e (emptied (next_first v fs - b) e)

-- how many first blocks it takes
abbrev pub dealt : Entry → ℕ
dealt e = cond (is_permanent (kind e)) 1 0

-- a slot of the words e laid from x on
pub record SlotLaid (v : ℕ) (x : LaidTo) (e after : List ℕ) (r : LaidTo) : Type 0 where
  pub words : after ≡ laid_entry v x.block x.firsts.now e
  pub block : r.block ≡ x.block + blocks (laid_entry v x.block x.firsts.now e)
  pub firsts : r.firsts.now ≡ drop (dealt e) x.firsts.now
  pub high : r.block ≤ x.block + 65535

-- the slots of a segment g, mended from x on
abbrev pub mended_slots : ℕ → ℕ → LaidTo → List ℕ → List Entry
mended_slots v w x g = mend v x.block x.firsts.now (slots w g)

-- what the words of the segment become, and how far its entries are laid
pub record MendedSegment (v w : ℕ) (x : LaidTo) (g after : List ℕ) (r : LaidTo) : Type 0 where
  pub words : after ≡ with_slots w x.block (mended_slots v w x g) g
  pub block : r.block ≡ x.block + total (upto (mended_slots v w x g))
  pub firsts : r.firsts.now ≡ drop (files_among (upto (mended_slots v w x g))) x.firsts.now

-- segment s of d, mended and put into t
pub record RenewedIn (v w : ℕ) (x : LaidTo) (s : ℕ) (d t after : List ℕ) (r : LaidTo) : Type 0 where
  pub words : after ≡ with_segment t s (with_slots w x.block (mended_slots v w x (segment d s)) (segment d s))
  pub block : r.block ≡ x.block + total (upto (mended_slots v w x (segment d s)))
  pub firsts : r.firsts.now ≡ drop (files_among (upto (mended_slots v w x (segment d s)))) x.firsts.now
  pub long : length after ≡ length t
