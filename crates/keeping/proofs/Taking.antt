-- A file taken out of a table, and then all of them. The first alike is found by its position, and the rows before it are handed on, so that a file
-- taken out of the table is taken out of the list; and two lists of unequal length never hold the same files. Assumes nothing.
use Prim.Native.Nat.{ℕ, suc, ◌+◌, ◌-◌, ◌≤◌, ◌<◌}
use mathlib.Core.Path.{◌≡◌, refl, sym, ap, ◌∙◌}
use mathlib.Core.Bool.{Bool, true, false, cond, ◌&&◌, ◌||◌, true≢false}
use mathlib.Core.List.{List, [], ◌∷◌, ◌++◌, map, append_assoc}
use native.Mathlib.Omega.{arith}
use borrow.Rule.Slice.PartMut.{put_mid, same_len_mid}
use lib.ListN.{length, get_or, take, drop, set, drop_of_length-le}
use lib.Seq.{drop-cons, drop-drop, take-suc, set-append_seam, get_or-append_seam}
use Rattle.std.proofs.lemmas.List.{length-take-le}
use Rattle.std.specs.Prelude.{Some, None}
use Rattle.std.specs.List.{position_from}
use Rattle.bools.proofs.Bools.{both, never}
use Rattle.meaning.specs.Sound.{any}
use Rattle.walks.specs.Lists.{All}
use Rattle.repaired.specs.Kept.{KeptFile, same_file, taken_out, same_files}
use Rattle.keeping.specs.declared.File.{File}
use Rattle.keeping.specs.Tables.{file_of, Within, first_out, alike, TakenFrom}
use Rattle.keeping.proofs.Parts.{part-all, drop-put}

-- none of a list, and the first of it, by its position
module _ (p : File → Bool) where
  pub none_at : (i : ℕ) (xs : List File) → position_from p i xs ≡ None → any p xs ≡ false
  unfolding any
  none_at i [] h = refl
  none_at i (x ∷ xs) h = go (none_at (i + 1) xs) (p x) refl h
    where
      go : (position_from p (i + 1) xs ≡ None → any p xs ≡ false)
          → (b : Bool) → p x ≡ b → cond b (Some i) (position_from p (i + 1) xs) ≡ None → p x || any p xs ≡ false
      go f true e k = absurd (cc)
      go f false e k = rw e (f k)

  pub record First (i k : ℕ) (xs : List File) : Type 0 where
    pub low : i ≤ k
    pub inside : k < i + length xs
    pub found : any p xs ≡ true
    pub out : first_out p xs ≡ take (k - i) xs ++ drop (k - i + 1) xs

  pub first_at : (i k : ℕ) (xs : List File) → position_from p i xs ≡ Some k → First i k xs
  unfolding any first_out
  first_at i k [] h = absurd (cc)
  first_at i k (x ∷ xs) h = go (first_at (i + 1) k xs) (p x) refl h
    where
      go : (position_from p (i + 1) xs ≡ Some k → First (i + 1) k xs)
          → (b : Bool) → p x ≡ b → cond b (Some i) (position_from p (i + 1) xs) ≡ Some k → First i k (x ∷ xs)
      go n true e j =
          let s : i ≡ k = cc in
          let z : k - i ≡ 0 = omega arith in
          record { low = omega arith; inside = omega arith; found = rw e refl; out = rw (e, z) refl }
      go n false e j =
          let f = n j in
          let up : k - i ≡ suc (k - (i + 1)) = omega (arith, f.low) in
          let more : suc (k - (i + 1)) + 1 ≡ suc (k - (i + 1) + 1) = omega arith in
          record {
            low = omega (arith, f.low);
            inside = omega (arith, f.inside);
            found = rw (e, f.found) refl;
            out = rw (e, up, more, f.out) refl;
          }

-- The loop that hands rows on, each to the next place: k places hold the row l and the first rows, and the row that goes next is carried
pub record HandedOn (l : File) (xs t : List File) (c : File) (k : ℕ) : Type 0 where
  pub rows : t ≡ take k (l ∷ xs) ++ drop k xs
  pub carried : (z : File) → get_or (l ∷ xs) k z ≡ c

pub handed-first : (xs : List File) (z : File) → 0 < length xs → HandedOn (get_or xs 0 z) xs xs (get_or xs 0 z) 1
handed-first [] z h = absurd (omega arith)
handed-first (x ∷ xs) z h = record { rows = refl; carried = λ y. refl }

module _ {l : File} {xs t : List File} {c : File} {k : ℕ} (h : HandedOn l xs t c k) (inside : k < length xs) where
  abbrev before : List File
  before = take k (l ∷ xs)

  abbrev behind : List File
  behind = drop (suc k) xs

  place : length before ≡ k
  place = length-take-le k (l ∷ xs) (omega arith)

  rows-now : (z : File) → t ≡ before ++ get_or xs k z ∷ behind
  rows-now z = h.rows ∙ ap (λ (r : List File). before ++ r) (drop-cons xs k z inside)

  grown : before ++ c ∷ [] ≡ take (suc k) (l ∷ xs)
  grown = ap (λ (y : File). before ++ y ∷ []) (sym (h.carried c)) ∙ sym (take-suc (l ∷ xs) k c (omega arith))

  row-put : set (before ++ get_or xs k c ∷ behind) k c ≡ before ++ c ∷ behind
  row-put = rw place at (set-append_seam before (get_or xs k c) behind c)

  row-read : (y z : File) → get_or (before ++ get_or xs k y ∷ behind) k z ≡ get_or xs k y
  row-read y z = rw place at (get_or-append_seam before (get_or xs k y) behind z)

  pub handed_more : (z : File) → HandedOn l xs (set t k c) (get_or t k z) (k + 1)
  handed_more z =
      let one : k + 1 ≡ suc k = omega arith in
      rw one
      (record {
        rows =
            ap (λ (r : List File). set r k c) (rows-now c)
            ∙ row-put
            ∙ sym (append_assoc before (c ∷ []) behind)
            ∙ ap (λ (r : List File). r ++ behind) grown;
        carried = λ y. sym (ap (λ (r : List File). get_or r k z) (rows-now y) ∙ row-read y z);
      })

pub handed-over : (xs t : List File) (z c : File) (k : ℕ) → k < length xs → HandedOn (get_or xs 0 z) xs t c (k + 1)
    → t ≡ take 1 xs ++ (take k xs ++ drop (k + 1) xs)
handed-over [] t z c k i h = absurd (omega arith)
handed-over (x ∷ xs) t z c k i h =
    let one : k + 1 ≡ suc k = omega arith in
    rw one (rw one at h.rows)

-- the rows behind the front
pub behind-front : (xs r : List File) (k : ℕ) → k < length xs → drop 1 (take 1 xs ++ r) ≡ r
behind-front [] r k i = absurd (omega arith)
behind-front (x ∷ xs) r k i = refl

-- the first alike taken out of the rows is taken out of the files that they list
module _ (d : List ℕ) (x : File) (w : List ℕ) where
  by_out : (b : Bool) (y : File) (ys zs : List File) (gs : List KeptFile) → map (file_of w) zs ≡ gs
      → map (file_of w) (cond b ys (y ∷ zs)) ≡ cond b (map (file_of w) ys) (file_of w y ∷ gs)
  by_out true y ys zs gs e = refl
  by_out false y ys zs gs e = ap (λ (r : List KeptFile). file_of w y ∷ r) e

  pub out-files : (ys : List File) → map (file_of w) (first_out (alike d x w) ys) ≡ taken_out (file_of d x) (map (file_of w) ys)
  unfolding first_out taken_out
  out-files [] = refl
  out-files (y ∷ ys) = by_out (alike d x w y) y ys (first_out (alike d x w) ys) _ (out-files ys)

  pub any-files : (ys : List File) → any (alike d x w) ys ≡ any (same_file (file_of d x)) (map (file_of w) ys)
  unfolding any
  any-files [] = refl
  any-files (y ∷ ys) = ap (λ (r : Bool). alike d x w y || r) (any-files ys)

-- what is left fits as before
by_all : (P : File → Type 0) (b : Bool) (y : File) (ys zs : List File) → P y → All P ys → All P zs → All P (cond b ys (y ∷ zs))
by_all P true y ys zs h a r = a
by_all P false y ys zs h a r = (h, r)

pub out-all : (P : File → Type 0) (p : File → Bool) (ys : List File) → All P ys → All P (first_out p ys)
unfolding first_out
out-all P p [] a = tt
out-all P p (y ∷ ys) a = by_all P (p y) y ys (first_out p ys) a.0 a.1 (out-all P p ys a.1)

-- lists of unequal length
by_length : (b : Bool) (g : KeptFile) (gs hs : List KeptFile) (r : Bool) → (r ≡ true → suc (length hs) ≡ length gs)
    → b || r ≡ true → suc (length (cond b gs (g ∷ hs))) ≡ suc (length gs)
by_length true g gs hs r f h = refl
by_length false g gs hs r f h = ap suc (f h)

out-length : (f : KeptFile) (gs : List KeptFile) → any (same_file f) gs ≡ true → suc (length (taken_out f gs)) ≡ length gs
unfolding any taken_out
out-length f [] h = absurd (true≢false (sym h))
out-length f (g ∷ gs) h = by_length (same_file f g) g gs (taken_out f gs) (any (same_file f) gs) (out-length f gs) h

same_length : (fs gs : List KeptFile) → same_files fs gs ≡ true → length fs ≡ length gs
unfolding same_files
same_length [] [] h = refl
same_length [] (g ∷ gs) h = absurd (true≢false (sym h))
same_length (f ∷ fs) gs h =
    let b = both (any (same_file f) gs) (same_files fs (taken_out f gs)) h in
    ap suc (same_length fs (taken_out f gs) b.1) ∙ out-length f gs b.0

mapped_length : (d : List ℕ) (l : List File) → length (map (file_of d) l) ≡ length l
mapped_length d [] = refl
mapped_length d (x ∷ l) = ap suc (mapped_length d l)

pub unlike_length : (d : List ℕ) (files : List File) (w : List ℕ) (table : List File) → (length files ≡ length table → ⊥)
    → false ≡ same_files (map (file_of d) files) (map (file_of w) table)
unlike_length d files w table ne =
    sym
    (never (same_files (map (file_of d) files) (map (file_of w) table))
    (λ h. ne (sym (mapped_length d files) ∙ same_length _ _ h ∙ mapped_length w table)))

-- The loop over all files of d: those before place i are taken out, and what is left is as before
pub record Matching (d : List ℕ) (files : List File) (w : List ℕ) (before table : List File) (i : ℕ) : Type 0 where
  pub size : length table ≡ length files
  pub all : All (Within d) (drop i files)
  pub others : All (Within w) (drop i table)
  pub same :
      same_files (map (file_of d) (drop i files)) (map (file_of w) (drop i table))
      ≡ same_files (map (file_of d) files) (map (file_of w) before)

pub matching : (d : List ℕ) (files : List File) (w : List ℕ) (table : List File) → length table ≡ length files → All (Within d) files
    → All (Within w) table → Matching d files w table table 0
matching d files w table e a b = record { size = e; all = a; others = b; same = refl }

module _ {d : List ℕ} {files : List File} {w : List ℕ} {before table : List File} {i : ℕ} (m : Matching d files w before table i) where
  pub match_over : length files ≤ i → true ≡ same_files (map (file_of d) files) (map (file_of w) before)
  unfolding same_files
  match_over h =
      let k : length table ≤ i = omega (arith, m.size) in
      rw (drop_of_length-le files h, drop_of_length-le table k) at m.same

  module _ (h : i < length files) (z : File) where
    abbrev x : File
    x = get_or files i z

    front : drop i files ≡ x ∷ drop (suc i) files
    front = drop-cons files i z h

    all_here : Within d x × All (Within d) (drop (suc i) files)
    all_here = rw front at m.all

    pub file-fits : Within d x
    file-fits = all_here.0

    pub others-fit : All (Within w) (take (length table - i) (drop i table))
    others-fit = rw (part-all table i) m.others

    step :
        any (alike d x w) (drop i table)
        && same_files (map (file_of d) (drop (suc i) files)) (map (file_of w) (first_out (alike d x w) (drop i table)))
        ≡ same_files (map (file_of d) files) (map (file_of w) before)
    unfolding same_files
    step = rw (any-files d x w (drop i table), out-files d x w (drop i table)) (rw front at m.same)

    module _ {after : List File} {r : Bool} (t : TakenFrom d x w (take (length table - i) (drop i table)) after r) where
      taken : TakenFrom d x w (drop i table) after r
      taken = rw (part-all table i) at t

      pub match_none : r ≡ false → false ≡ same_files (map (file_of d) files) (map (file_of w) before)
      match_none e = rw (← taken.found, e) at step

      pub match_on : r ≡ true → Matching d files w before (put_mid i (length table - i) table after) (i + 1)
      match_on e =
          let one : i + 1 ≡ suc i = omega arith in
          let out : List File = first_out (alike d x w) (drop i table) in
          let rest : drop (suc i) (put_mid i (length table - i) table after) ≡ out =
          rw (← one) (sym (drop-drop 1 i (put_mid i (length table - i) table after)) ∙ ap (drop 1) (drop-put table after i (omega (arith, m.size))) ∙ taken.others e) in
          rw one
          (record {
            size = same_len_mid i (length table - i) table after t.size ∙ m.size;
            all = all_here.1;
            others = rw rest (out-all (Within w) (alike d x w) (drop i table) m.others);
            same = rw rest (rw (← taken.found, e) at step);
          })
