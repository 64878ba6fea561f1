-- What squeeze keeps (document 02, Req 05): a squeeze leaves a sound directory sound for the same V; each file keeps its segment, its order, its
-- words and, once the moves are done, its content at its new place; FILE.BAD keeps its blocks; the free blocks are as many as before; a
-- second squeeze gives no moves and the same words; where no file is FILE.BAD, all free blocks are one area (proofs/Kept.antt,
-- proofs/Content.antt, proofs/Whole.antt).
use Rattle.std.specs.Prelude.{ℕ, ◌≤◌, ◌<◌, ◌≡◌, Bool, true, false, cond, List, [], ◌∷◌, ◌++◌, ℤ, pos, negsuc, length, take, drop}
use Rattle.meaning.specs.declared.Name.{Name}
use Rattle.meaning.specs.Kinds.{is_empty}
use Rattle.meaning.specs.Words.{first_data, slot_words, Entry, blocks, Row, rows, all_entries}
use Rattle.meaning.specs.Sound.{fault}
use Rattle.meaning.specs.Requests.{empty_entry}
use Rattle.meaning.specs.Enter.{enter}
use Rattle.meaning.specs.Listing.{blocks_of}
use Rattle.walks.specs.Lists.{All}
use Rattle.squeezed.specs.Moves.{Move, block, applied}
use Rattle.squeezed.specs.Squeeze.{is_file, is_bad, moves, squeeze}

-- the rows of files
unfoldable pub files : List Row → List Row
files [] = []
files (r ∷ rs) = let l = files rs in cond (is_file r.entry) (r ∷ l) l

-- the free blocks: those of the empty entries, as a listing adds them up
abbrev pub free_blocks : List Entry → ℕ
free_blocks es = blocks_of is_empty es

-- two lists agree, element by element
module _ {A : Type 0} (R : A → A → Type 0) where
  abbrev pub Pairs : List A → List A → Type 0
  Pairs [] [] = Unit {0}
  Pairs [] (y ∷ ys) = ⊥
  Pairs (x ∷ xs) [] = ⊥
  Pairs (x ∷ xs) (y ∷ ys) = R x y × Pairs xs ys

-- a file's row before and after, on the volume vol that became `after`
module _ {A : Type 0} (vol after : List A) where
  pub record FileKept (r r' : Row) : Type 0 where
    pub seg : r'.seg ≡ r.seg
    pub words : r'.entry ≡ r.entry
    pub down : r'.first ≤ r.first
    pub fixed : is_bad r.entry ≡ true → r'.first ≡ r.first
    pub content : take (blocks r.entry) (drop r'.first after) ≡ take (blocks r.entry) (drop r.first vol)

-- the moves, done in list order, lowest block first, leave each file's content intact at its new place
abbrev pub ContentKept : {A : Type 0} → A → ℕ → List ℕ → List ℕ → List A → Type 0
ContentKept blank v d room vol =
    length vol ≡ v → (squeeze v d room).number ≡ 0
    → Pairs (FileKept vol (applied blank (moves d) vol)) (files (rows d)) (files (rows (squeeze v d room).words))

-- and change no block before the data blocks: boot block, label and directory
abbrev pub HeadKept : {A : Type 0} → A → ℕ → List ℕ → List A → Type 0
HeadKept blank v d vol =
    fault v d ≡ 0 → (i : ℕ) → i < first_data d → block blank (applied blank (moves d) vol) i ≡ block blank vol i

-- of a squeeze that is carried out
pub record KeptBySqueeze (v : ℕ) (d room : List ℕ) : Type 0 where
  pub sound : fault v (squeeze v d room).words ≡ 0
  pub freed : free_blocks (all_entries (squeeze v d room).words) ≡ free_blocks (all_entries d)
  pub again : (other : List ℕ) → squeeze v (squeeze v d room).words other
      ≡ record { number = 0; count = 0; list = other; words = (squeeze v d room).words }

-- no file is FILE.BAD
abbrev pub NoBad : List ℕ → Type 0
NoBad d = All (λ e. is_file e ≡ true → is_bad e ≡ false) (all_entries d)

-- an enter of this size, whatever else it asks for, is not refused with 11: some area is long enough
abbrev pub NotEleven : ℕ → List ℕ → ℤ → Type 0
NotEleven v d size = (name : Name) (job channel date : ℕ) → (enter v d name size job channel date).answer.number ≡ 11 → ⊥

-- n blocks are free, in one area behind all files: an enter finds all of them there, asked for by their number or as the longest area
pub record OneArea (v n : ℕ) (d : List ℕ) : Type 0 where
  pub files : List Entry
  pub permanent : All (λ e. is_file e ≡ true) files
  pub are : all_entries d ≡ files ++ empty_entry (slot_words d) n ∷ []
  pub whole : NotEleven v d (pos n)
  pub longest : NotEleven v d (negsuc 0)

-- a squeeze of a volume with no FILE.BAD leaves all free blocks, if there are any, in one area
abbrev pub AllFree : ℕ → List ℕ → List ℕ → Type 0
AllFree v d room =
    (squeeze v d room).number ≡ 0 → NoBad d → 1 ≤ free_blocks (all_entries d)
    → OneArea v (free_blocks (all_entries d)) (squeeze v d room).words
