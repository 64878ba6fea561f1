-- What moves must be like to leave all content intact, and what "intact" says (proofs/Intact.antt).
use Rattle.std.specs.Prelude.{ℕ, ◌+◌, ◌≤◌, ◌<◌, ◌≡◌, List, [], ◌∷◌, length, take, drop}
use Rattle.walks.specs.Lists.{All}
use Rattle.squeezed.specs.Moves.{Move, needed, block, applied}

-- moves that pack a volume of `size` blocks: no move goes up, each is from the blocks after the last one's source, from f on, to blocks after
-- the last one's, from b on, and within the volume. So no destination reaches into a later source
abbrev pub Packed : ℕ → ℕ → ℕ → List Move → Type 0
Packed size b f [] = Unit {0}
Packed size b f (m ∷ ms) =
    (b ≤ m.to)
    × (f ≤ m.source)
    × (m.to ≤ m.source)
    × (m.source + m.length ≤ size)
    × Packed size (m.to + m.length) (m.source + m.length) ms

-- block i is none of the blocks that a move writes
abbrev pub Beside : ℕ → Move → Type 0
Beside i m = m.to ≤ i → i < m.to + m.length → ⊥

module _ {A : Type 0} (blank : A) where
  -- the blocks at the new place are those that stood at the old place
  abbrev pub Intact : List A → List A → Move → Type 0
  Intact vol after m = take m.length (drop m.to after) ≡ take m.length (drop m.source vol)

  -- of a packed list, moves that change no place included, the needed ones are done: every move's blocks arrive, and a block that none
  -- writes stays
  pub record Kept (ms : List Move) (vol : List A) : Type 0 where
    pub size : length (applied blank (needed ms) vol) ≡ length vol
    pub content : All (Intact vol (applied blank (needed ms) vol)) ms
    pub others : (i : ℕ) → All (Beside i) (needed ms) → block blank (applied blank (needed ms) vol) i ≡ block blank vol i
