-- The search along the chain. What is found in the rows of a segment and of those after it is what is found in the first, or else
-- in the others; so the walk keeps one equation: what is found in the segments ahead is what is found in all. Assumes nothing.
use Prim.Native.Nat.{ℕ, ◌+◌, ◌*◌, ◌-◌, ◌≤◌, ◌<◌}
use mathlib.Core.Path.{◌≡◌, refl, sym, ◌∙◌}
use mathlib.Core.Bool.{Bool, true, false, cond}
use mathlib.Core.List.{List, [], ◌∷◌, ◌++◌}
use mathlib.Core.Option.{Option, some}
use native.Mathlib.Omega.{arith}
use lib.ListN.{length, get_or, take, drop}
use Rattle.meaning.specs.Words.{Entry, Row, segment, slot_words, slots, upto, entries, highest, chain_from, chain}
use Rattle.meaning.specs.Words.{rows_in, segment_rows, rows_of, rows}
use Rattle.meaning.specs.Answers.{find}
use Rattle.walks.specs.Links.{linked}
use Rattle.segment.specs.Finder.{Found, found_of, Inside}
use Rattle.meaning.specs.declared.Key.{Key}
use Rattle.meaning.specs.Keys.{holds}
use Rattle.segment.specs.declared.finder.Place.{Place}
use Rattle.std.proofs.Common.{Some, None}
use Rattle.segment.proofs.Searching.{place_inside}
use Rattle.chain.specs.Chained.{Chained}
use Rattle.chain.proofs.Links.{part-is, link_at, chain_next, next}
use Rattle.walks.proofs.Words.{base, header}
use Rattle.walks.proofs.Lists.{chain-over}

-- the first of two answers
abbrev pub or_else : Found → Found → Found
or_else (Some p) f = Some p
or_else None f = f

by_test : (x : Bool) (r : Row) (f g : Option Row) (h : Found) → found_of g ≡ or_else (found_of f) h
    → found_of (cond x (some r) g) ≡ or_else (found_of (cond x (some r) f)) h
by_test true r f g h e = refl
by_test false r f g h e = e

-- what is found in two lists of rows
pub find-append : (P : Entry → Bool) (xs ys : List Row)
    → found_of (find P (xs ++ ys)) ≡ or_else (found_of (find P xs)) (found_of (find P ys))
unfolding find
find-append P [] ys = refl
find-append P (x ∷ xs) ys = by_test (P x.entry) x (find P xs) (find P (xs ++ ys)) (found_of (find P ys)) (find-append P xs ys)

-- what is found with n segments ahead, from s on
abbrev pub found_from : Key → ℕ → List ℕ → ℕ → Found
found_from key n d s = found_of (find (holds key) (rows_of d (chain_from n d s)))

-- what is found in segment s, where its words are g
abbrev pub found_here : Key → List ℕ → ℕ → List ℕ → Found
found_here key d s g =
    found_of (find (holds key) (rows_in (slot_words d) s 1 (base s + 5) (get_or d (base s + 4) 0) (upto (slots (slot_words d) g))))

-- one turn of the walk, where r is what is found in segment s
pub turn : (key : Key) (n : ℕ) (d : List ℕ) (s : ℕ) (r : Found) → 0 < n → r ≡ found_here key d s (segment d s)
    → found_from key n d s ≡ or_else r (found_from key (n - 1) d (link_at d s))
unfolding rows_of segment_rows entries
turn key n d s r h e = rw (chain_next n d s h, e, ← header d s 4 (omega arith)) (find-append (holds key) _ _)

-- its end
pub turned : (key : Key) (n : ℕ) (d : List ℕ) (s : ℕ) → n ≤ 0 → found_from key n d s ≡ None
unfolding rows_of find
turned key n d s h = rw (chain-over n d s h)

-- the walk's invariant: left segments are ahead, from s on; the segment at hand, if any, is one of 1..H
pub record Finding (d : List ℕ) (key : Key) (left s : ℕ) : Type 0 where
  pub links : linked left d s ≡ true
  pub low : 0 < left → 1 ≤ s
  pub most : 0 < left → s ≤ 31
  pub within : 0 < left → 512 * s ≤ length d
  pub same : found_from key left d s ≡ found_of (find (holds key) (rows d))

finding : (d : List ℕ) (key : Key) (left s : ℕ) → Chained d → linked left d s ≡ true
    → found_from key left d s ≡ found_of (find (holds key) (rows d))
    → Finding d key left s
finding d key left s c e f = record {
  links = e;
  low = λ h. (next left d s c h e).low;
  most = λ h. (next left d s c h e).most;
  within = λ h. (next left d s c h e).inside;
  same = f;
}

pub starts : (d : List ℕ) (key : Key) → Chained d → Finding d key (highest d) 1
unfolding rows chain
starts d key c = finding d key (highest d) 1 c c.links refl

-- a turn that finds nothing leaves the same to find
pub passes : (d : List ℕ) (key : Key) (left s : ℕ) → Chained d → 0 < left → Finding d key left s
    → None ≡ found_here key d s (segment d s)
    → Finding d key (left - 1) (link_at d s)
passes d key left s c h v e =
    finding d key (left - 1) (link_at d s) c (next left d s c h v.links).rest (sym (turn key left d s None h e) ∙ v.same)

-- what is found in a part of the slice is found in the segment that it is
pub found_part : (key : Key) (d : List ℕ) (s : ℕ) (r : Found)
    → r ≡ found_here key d s (take (base s + 512 - base s) (drop (base s) d))
    → r ≡ found_here key d s (segment d s)
found_part key d s r e = rw (part-is d s) at e

-- a slot inside a segment that ends at word m is inside the directory
pub widen : (r : Found) (p : Place) (w m n : ℕ) → r ≡ Some p → Inside r w m → m ≤ n → p.at + w ≤ n
widen r p w m n e h b = let g = place_inside r p w m e h in omega arith
