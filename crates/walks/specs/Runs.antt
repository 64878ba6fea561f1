-- Enter's tidy of one segment's entries, as a machine meets them from left to right.
use Rattle.std.specs.Prelude.{ℕ, ◌+◌, ◌<◌, Bool, cond, ◌&&◌, not, List, [], ◌∷◌, ◌++◌, length, set, eqb}
use Rattle.meaning.specs.Kinds.{is_tentative}
use Rattle.meaning.specs.Words.{Entry, length_word, kind, blocks}
use Rattle.meaning.specs.Enter.{is_area}

-- Either no run is open, and p says whether a tentative entry stands directly before; or a run of neighbouring empty entries is
-- open: its first entry e, the sum t of its lengths so far, and p as it was before the run
pub data RunSoFar : Type 0 where
  calm : Bool → RunSoFar
  within : Entry → ℕ → Bool → RunSoFar

-- an empty entry more
abbrev pub absorb : RunSoFar → Entry → RunSoFar
absorb (calm p) f = within f (blocks f) p
absorb (within e t p) f = within e (t + blocks f) p

-- what is written for a run that has ended: its first entry with all its blocks, or nothing where it has none and is not needed
abbrev pub flushed : RunSoFar → List Entry
flushed (calm p) = []
flushed (within e t p) = cond (eqb t 0 && not p) [] (set e length_word t ∷ [])

unfoldable pub tidy_from : RunSoFar → List Entry → List Entry
tidy_from r [] = flushed r
tidy_from r (f ∷ fs) =
    let a = tidy_from (absorb r f) fs in
    let b = tidy_from (calm (is_tentative (kind f))) fs in
    cond (is_area f) a (flushed r ++ f ∷ b)

-- every entry has a length word, so that it can be set
abbrev pub Long : List Entry → Type 0
Long [] = Unit
Long (e ∷ es) = (length_word < length e) × Long es
