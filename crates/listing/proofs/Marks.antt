-- What a good head tells of its file: it is five tests, of which each can be had back. Both versions' heads are such, by their numbers. Assumes
-- nothing.
use Prim.Native.Nat.{ℕ, ◌+◌, ◌-◌, ◌%◌, ◌≤◌}
use mathlib.Core.Path.{◌≡◌, refl}
use mathlib.Core.Bool.{true, ◌&&◌}
use mathlib.Core.List.{List}
use lib.ListN.{length, take}
use lib.Dec.{eqb, leb}
use borrow.Author.Tests.{leb-true}
use Rattle.bools.proofs.Bools.{both}
use Rattle.names.specs.Text.{same_bytes}
use Rattle.meaning.specs.Listing.{word_at, mark, head_bytes, good_head}
use Rattle.listing.specs.HeadFiles.{good_second}
use Rattle.listing.specs.Bounds.{good_head_of}

pub head_first : (file : List ℕ) → good_head_of 1 head_bytes file ≡ good_head file
unfolding good_head good_head_of
head_first file = refl

pub head-second : (file : List ℕ) → good_head_of 2 519 file ≡ good_second file
unfolding good_second good_head_of
head-second file = refl

-- there is a V to read, and the directory is of at most 31 segments
pub record Good (first : ℕ) (file : List ℕ) : Type 0 where
  pub long : first ≤ length file
  pub within : length file ≤ first + 31744

pub good-parts : (version first : ℕ) (file : List ℕ) → good_head_of version first file ≡ true → Good first file
unfolding good_head_of
good-parts version first file h =
    let a = leb first (length file) in
    let b = leb (length file) (first + 31744) in
    let c = same_bytes (take 3 file) mark in
    let d = eqb (word_at file 3) version in
    let e = eqb ((length file - first) % 2) 0 in
    let p = both (a && b && c && d) e h in
    let q = both (a && b && c) d p.0 in
    let r = both (a && b) c q.0 in
    let s = both a b r.0 in
    record { long = leb-true first (length file) s.0; within = leb-true (length file) (first + 31744) s.1 }
