-- What a damaged directory asks to be kept, and the test that accepts a proposal, from any source (document 02, Req 09).
use Rattle.std.specs.Prelude.{ℕ, ◌+◌, Bool, true, false, cond, ◌&&◌, ◌||◌, List, [], ◌∷◌, ◌++◌, length, get_or, eqb, leb}
use Rattle.meaning.specs.declared.Name.{Name}
use Rattle.meaning.specs.Kinds.{is_permanent, is_end, is_unknown}
use Rattle.meaning.specs.Words.{segment, first_of, slot_words, Entry, status_word, kind, blocks, date_of, name_of, same_name, slots, chain}
use Rattle.meaning.specs.Sound.{any, fault}

-- the slots before a segment's marker or first unreadable status; all of them where it has neither
unfoldable pub legible : List Entry → List Entry
legible [] = []
legible (e ∷ es) = let r = legible es in cond (is_end (kind e) || is_unknown (kind e)) [] (e ∷ r)

-- what a permanent entry keeps: its status, name, length, date and first block
pub record KeptFile : Type 0 where
  pub status : ℕ
  pub name : Name
  pub length : ℕ
  pub date : ℕ
  pub first : ℕ

abbrev pub kept_at : ℕ → Entry → KeptFile
kept_at b e = record { status = get_or e status_word 0; name = name_of e; length = blocks e; date = date_of e; first = b }

-- the permanent ones among entries, the first of which begins at block b, in exact sums
unfoldable pub kept_from : ℕ → List Entry → List KeptFile
kept_from b [] = []
kept_from b (e ∷ es) = let r = kept_from (b + blocks e) es in cond (is_permanent (kind e)) (kept_at b e ∷ r) r

-- those of a segment, from its stored start; w is how many words a slot has
unfoldable pub kept_in : ℕ → List ℕ → List KeptFile
kept_in w g = kept_from (first_of g) (legible (slots w g))

unfoldable pub kept_of : ℕ → List ℕ → List ℕ → List KeptFile
kept_of w d [] = []
kept_of w d (s ∷ ss) = kept_in w (segment d s) ++ kept_of w d ss

-- every permanent entry in the chain before each segment's marker or first unreadable status. (Of a sound directory these are all its
-- permanent entries, with their first blocks.)
unfoldable pub kept_files : List ℕ → List KeptFile
kept_files d = kept_of (slot_words d) d (chain d)

unfoldable pub same_file : KeptFile → KeptFile → Bool
same_file f g =
    eqb f.status g.status
    && same_name f.name g.name
    && eqb f.length g.length
    && eqb f.date g.date
    && eqb f.first g.first

-- The same files, each as often, in whatever order: each one of the first list is taken out of the second once, and none is left there
unfoldable pub taken_out : KeptFile → List KeptFile → List KeptFile
taken_out f [] = []
taken_out f (g ∷ gs) = let r = taken_out f gs in cond (same_file f g) gs (g ∷ r)

abbrev pub none_left : List KeptFile → Bool
none_left [] = true
none_left (g ∷ gs) = false

unfoldable pub same_files : List KeptFile → List KeptFile → Bool
same_files [] gs = none_left gs
same_files (f ∷ fs) gs = let r = same_files fs (taken_out f gs) in any (same_file f) gs && r

-- damage 1 to 3 or 6, which test and tool answer with its number
unfoldable pub beyond : ℕ → Bool
beyond n = (leb 1 n && leb n 3) || eqb n 6

-- The test: a proposal w passes exactly when it is sound for the same N and V, every permanent entry keeps what it is to keep, and it holds
-- no other permanent entry
unfoldable pub passes : ℕ → List ℕ → List ℕ → Bool
passes v d w = eqb (length w) (length d) && eqb (fault v w) 0 && same_files (kept_files d) (kept_files w)

-- it rejects with 22
unfoldable pub accepts : ℕ → List ℕ → List ℕ → ℕ
accepts v d w = cond (beyond (fault v d)) (fault v d) (cond (passes v d w) 0 22)
