-- What the insertion and the split presume and promise.
use Rattle.std.specs.Prelude.{ℕ, ◌+◌, ◌*◌, ◌-◌, ◌≤◌, ◌<◌, ◌≡◌, true, cond, List, [], ◌∷◌, length, get_or, take, drop, set, ltb}
use Rattle.meaning.specs.declared.Position.{Position}
use Rattle.meaning.specs.Words.{Entry, blocks, segments, segment, link_of, first_of, highest, slot_words, slots, upto, entries, total}
use Rattle.meaning.specs.Requests.{render}
use Rattle.meaning.specs.Enter.{Area, inserted, has_room, new_after}
use Rattle.chain.specs.Chained.{Chained}
use Rattle.insert.specs.declared.place.Spot.{Spot}
use Rattle.render.specs.Halves.{KeptOf}

-- the area of a spot: enter asks the area that it chose for nothing else
abbrev pub area_of : Spot → Area
area_of p = record { seg = p.seg; before = p.before; first = 0; size = 0; cost = p.cost; eligible = true }

-- the spot is that of an entry of at least n blocks, in an open segment of the directory t
pub record Chosen (t : List ℕ) (p : Spot) (n : ℕ) : Type 0 where
  pub low : 1 ≤ p.seg
  pub high : p.seg ≤ highest t
  pub there : p.before < length (entries t p.seg)
  pub place : p.word ≡ 5 + p.before * slot_words t
  pub costs : 1 ≤ p.cost
  pub cheap : p.cost ≤ 2
  pub fits : n ≤ blocks (get_or (entries t p.seg) p.before [])

-- a segment more can be had, and the first block of each half of segment s is a word, as in a sound directory
pub record Splittable (t : List ℕ) (s : ℕ) : Type 0 where
  pub more : highest t < segments t
  pub sums : first_of (segment t s) + total (entries t s) ≤ 65535

-- what is known of an area that is chosen in a sound directory
pub record Enterable (t : List ℕ) (p : Spot) (n : ℕ) : Type 0 where
  pub chained : Chained t
  pub chosen : Chosen t p n
  pub room : has_room t (entries t p.seg) p.cost ≡ true
  pub sums : first_of (segment t p.seg) + total (entries t p.seg) ≤ 65535

-- the same of the words g of the segment, with the new entry
pub record Slot (g : List ℕ) (new : Entry) (p : Spot) : Type 0 where
  pub full : length g ≡ 512
  pub wide : 7 ≤ length new
  pub narrow : length new ≤ 23
  pub there : p.before < length (upto (slots (length new) g))
  pub place : p.word ≡ 5 + p.before * length new
  pub fits : blocks new ≤ blocks (get_or (upto (slots (length new) g)) p.before [])

-- and of a split that keeps h entries
pub record Half (g : List ℕ) (new : Entry) (p : Spot) (h : ℕ) : Type 0 where
  pub slot : Slot g new p
  pub kept : KeptOf h (upto (slots (length new) g))
  pub sums : first_of g + total (upto (slots (length new) g)) ≤ 65535

-- the segment with the new entry
unfoldable pub whole_segment : List ℕ → Entry → Spot → List ℕ
whole_segment g new p =
    render (take 5 g) (inserted (length new) new (blocks new) p.cost p.before (upto (slots (length new) g)))

-- the old segment of a split, linked to the next
unfoldable pub old_segment : List ℕ → Entry → Spot → ℕ → ℕ → List ℕ
old_segment g new p h next =
    let low = take h (upto (slots (length new) g)) in
    render (set (take 5 g) 1 next)
    (cond (ltb p.before h) (inserted (length new) new (blocks new) p.cost p.before low) low)

-- the new segment of a split; all and extra are the words of segment 1's header
unfoldable pub fresh_segment : List ℕ → Entry → Spot → ℕ → ℕ → ℕ → List ℕ
fresh_segment g new p h all extra =
    let es = upto (slots (length new) g) in
    let high = drop h es in
    render (all ∷ link_of g ∷ 0 ∷ extra ∷ (first_of g + total (take h es)) ∷ [])
    (cond (ltb p.before h) high (inserted (length new) new (blocks new) p.cost (p.before - h) high))

-- what is promised of a directory that gets the new entry: where that is, and the words after
pub record Put (r : Position) (after : List ℕ) (p : Position) (d : List ℕ) : Type 0 where
  pub position : r ≡ p
  pub words : after ≡ d

-- where the new entry is after a split that keeps h entries, with the segment that follows
unfoldable pub half_at : Spot → ℕ → ℕ → Position
half_at p h next = cond (ltb p.before h) (new_after p.seg p.before p.cost) (new_after next (p.before - h) p.cost)
