-- What the choice in one segment promises, entry by entry.
use Rattle.std.specs.Prelude.{ℕ, ◌+◌, ◌*◌, ◌-◌, ◌≤◌, ◌<◌, ◌≡◌, Bool, true, false, ◌&&◌, List, length, get_or, leb, Option, Some, None}
use Rattle.meaning.specs.declared.Kind.{Kind}
use Rattle.meaning.specs.Kinds.{is_empty}
use Rattle.meaning.specs.Words.{Entry, first_of, slots, upto, kind, blocks, length_word, total}
use Rattle.meaning.specs.Enter.{Area, cost_after, areas_in, eligibles, first_fit}
use Rattle.choice.specs.Choice.{chosen_of}
use Rattle.choice.specs.Room.{eligible_by}
use Rattle.choice.specs.declared.choose.AreaPlace.{AreaPlace}

-- the area that an entry e of segment s is, after k others, from block b on
abbrev pub area_from : ℕ → ℕ → ℕ → ℕ → Bool → Entry → Area
area_from free s k b p e = record {
  seg = s;
  before = k;
  first = b;
  size = blocks e;
  cost = cost_after p;
  eligible = eligible_by free p (blocks e);
}

-- whether an entry is an eligible area of at least m blocks
unfoldable pub fitting : ℕ → ℕ → Bool → Kind → ℕ → Bool
fitting m free p κ n = is_empty κ && (eligible_by free p n && leb m n)

-- whether an entry is an area of at least m blocks, eligible or not
unfoldable pub long : ℕ → Kind → ℕ → Bool
long m κ n = is_empty κ && leb m n

abbrev pub long_entry : ℕ → Entry → Bool
long_entry m e = long m (kind e) (blocks e)

-- a place p chosen in segment s, whose words are g, for a length of m, where a cost has room by a test
pub record StandsIn (p : AreaPlace) (g : List ℕ) (w s : ℕ) (room : ℕ → Bool) (m : ℕ) : Type 0 where
  pub seg : p.seg ≡ s
  pub low : 512 * (s - 1) ≤ p.at
  pub inside : p.at + w ≤ 512 * (s - 1) + 512
  pub among : p.before < length (upto (slots w g))
  pub word : p.size ≡ get_or g (p.at - 512 * (s - 1) + length_word) 0
  pub ends : p.first + p.size ≤ first_of g + total (upto (slots w g))
  pub long : m ≤ p.size
  pub some : 1 ≤ p.size
  pub costs : 1 ≤ p.cost
  pub cheap : p.cost ≤ 2
  pub roomy : room p.cost ≡ true

abbrev pub StandingIn : Option AreaPlace → List ℕ → ℕ → ℕ → (ℕ → Bool) → ℕ → Type 0
StandingIn (Some p) g w s room m = StandsIn p g w s room m
StandingIn None g w s room m = Unit {0}

-- the answer r for segment s
pub record FitIn (r : Option AreaPlace) (g : List ℕ) (w s : ℕ) (room : ℕ → Bool) (m : ℕ) : Type 0 where
  pub is : r ≡ chosen_of w (first_fit m (eligibles (areas_in room s 0 (first_of g) false (upto (slots w g)))))
  pub stands : StandingIn r g w s room m
