-- What the choice among a directory's areas promises.
use Rattle.std.specs.Prelude.{ℕ, ◌+◌, ◌*◌, ◌-◌, ◌≤◌, ◌<◌, ◌≡◌, true, List, length, get_or, Option, Some, None}
use Rattle.std.proofs.Math.Option as maybe
use Rattle.std.proofs.Math.Option.{none, some}
use Rattle.meaning.specs.Words.{segment, first_of, highest, slot_words, length_word, entries, total, chain}
use Rattle.meaning.specs.Enter.{Area, has_room, areas, eligibles, first_fit}
use Rattle.choice.specs.declared.choose.AreaPlace.{AreaPlace}

-- the areas of a directory, in chain order
abbrev pub all_areas : List ℕ → List Area
all_areas t = areas t (chain t)

-- an area's place, where slots have w words: they stand from word 5 of the segment
abbrev pub place_of_area : ℕ → Area → AreaPlace
place_of_area w a = record {
  seg = a.seg;
  before = a.before;
  at = 512 * (a.seg - 1) + 5 + a.before * w;
  first = a.first;
  size = a.size;
  cost = a.cost;
}

-- what a choice answers: the place of the area that it finds, if any
abbrev pub chosen_of : ℕ → maybe.Option Area → Option AreaPlace
chosen_of w none = None
chosen_of w (some a) = Some (place_of_area w a)

-- a place p chosen in t, for a length of n. Its segment is in use, its slot lies in the segment and is an entry's, its length is
-- the slot's length word, and its blocks are among the segment's; it is long enough and at least 1, and it costs 1 or 2 slots,
-- for which there is room
pub record Stands (p : AreaPlace) (t : List ℕ) (n : ℕ) : Type 0 where
  pub low : 1 ≤ p.seg
  pub high : p.seg ≤ highest t
  pub inside : p.at + slot_words t ≤ 512 * p.seg
  pub among : p.before < length (entries t p.seg)
  pub word : p.size ≡ get_or t (p.at + length_word) 0
  pub ends : p.first + p.size ≤ first_of (segment t p.seg) + total (entries t p.seg)
  pub long : n ≤ p.size
  pub some : 1 ≤ p.size
  pub costs : 1 ≤ p.cost
  pub cheap : p.cost ≤ 2
  pub roomy : has_room t (entries t p.seg) p.cost ≡ true

abbrev pub Standing : Option AreaPlace → List ℕ → ℕ → Type 0
Standing (Some p) t n = Stands p t n
Standing None t n = Unit {0}

-- the answer r: of the areas that may be taken the first that has n blocks
pub record Fitted (r : Option AreaPlace) (t : List ℕ) (n : ℕ) : Type 0 where
  pub is : r ≡ chosen_of (slot_words t) (first_fit n (eligibles (all_areas t)))
  pub stands : Standing r t n
