-- The entries ahead of a walk, which has the words of the slots that are left: they end where those words are no whole slot, or at the
-- marker; else they are the slot at hand and those ahead of the next. The walk over entries goes by these laws alone. Assumes nothing.
use Prim.Native.Nat.{ℕ, ◌+◌, ◌-◌, ◌/◌, ◌≤◌, ◌<◌}
use mathlib.Core.Path.{◌≡◌, ◌∙◌}
use mathlib.Core.Bool.{true, false, cond}
use mathlib.Core.List.{List, [], ◌∷◌}
use native.Mathlib.Nat.{div-eq_of_lt, div-eq-sub-div}
use native.Mathlib.Omega.{arith}
use lib.ListN.{length, take, drop, length-drop}
use Rattle.meaning.specs.Kinds.{is_end}
use Rattle.meaning.specs.Words.{kind, chunks, slots, upto}
use Rattle.segment.specs.Entries.{ahead}
use Rattle.walks.proofs.Slots.{chunks_step}

-- no whole slot is left
pub none_ahead : (w : ℕ) (l : List ℕ) → length l < w → ahead w l ≡ []
unfolding ahead chunks upto
none_ahead w l h = rw (div-eq_of_lt h)

module _ (w : ℕ) (l : List ℕ) (some : 0 < w) (whole : w ≤ length l) where
  slots-count : length l / w ≡ length (drop w l) / w + 1
  slots-count = div-eq-sub-div some whole ∙ rw (length-drop w l)

  ahead_step : ahead w l ≡ cond (is_end (kind (take w l))) [] (take w l ∷ ahead w (drop w l))
  unfolding ahead upto
  ahead_step =
      let e : length l / w - 1 ≡ length (drop w l) / w = omega (arith, slots-count) in
      rw (chunks_step (length l / w) w l (omega (arith, slots-count)), e)

  -- the slot at hand is the marker
  pub marker_ahead : is_end (kind (take w l)) ≡ true → ahead w l ≡ []
  marker_ahead e = ahead_step ∙ rw e

  -- the slot at hand is an entry
  pub entry_ahead : is_end (kind (take w l)) ≡ false → ahead w l ≡ take w l ∷ ahead w (drop w l)
  entry_ahead e = ahead_step ∙ rw e

-- at first all entries of the segment are ahead
pub all_ahead : (w : ℕ) (g : List ℕ) → length g ≡ 512 → upto (slots w g) ≡ ahead w (drop 5 g)
unfolding ahead slots
all_ahead w g h =
    let e : length (drop 5 g) ≡ 507 = length-drop 5 g ∙ omega (arith, h) in
    rw e
