-- What stays in a directory. Writes in place touch only entries of keys that may stand once, so the row of each FILE.BAD is the same
-- afterwards. What keeps first blocks and entries, as an enter does, keeps every FILE.BAD.
use Prim.Native.Nat.{ℕ, ◌-◌}
use native.Mathlib.Omega.{arith}
use mathlib.Core.Path.{◌≡◌, refl, sym, ap, ◌∙◌}
use mathlib.Core.Logic.{inl, inr}
use mathlib.Core.Bool.{Bool, true, false, cond}
use mathlib.Core.List.{List, [], ◌∷◌, map}
use Rattle.meaning.specs.declared.Key.{Key}
use Rattle.meaning.specs.declared.Key.TheVariants.{File}
use Rattle.meaning.specs.Words.{slot_words, Entry, Row, rows}
use Rattle.meaning.specs.Keys.{holds, file_bad, once}
use Rattle.laws.specs.Kept.{AllStay, BadStays}
use Rattle.laws.specs.Order.{every}
use Rattle.walks.specs.Lists.{All}
use Rattle.rules.proofs.Keys.{once-bad}
use Rattle.rules.proofs.Grid.{entry_at}
use Rattle.rules.proofs.Soundness.{Sound}
use Rattle.rules.proofs.Rows.{Stand, standing}
use Rattle.rules.proofs.Touch.{live_still, spare, shifted}
use Rattle.laws.proofs.Move.{Move, rows-moved}
use Rattle.laws.proofs.Living.{Live, face}

-- one more among the rows where they stay; rows that are the same but for their slots
all-stay_skip : (rs : List Row) (s : Row) (ss : List Row) → AllStay rs ss → AllStay rs (s ∷ ss)
all-stay_skip [] s ss h = tt
all-stay_skip (r ∷ rs) s ss h = inr h

pub faces_stay : (rs ss : List Row) → map face rs ≡ map face ss → AllStay rs ss
faces_stay [] ss h = tt
faces_stay (r ∷ rs) [] h = absurd (let z : ◌≡◌ {A = ℕ} 0 1 = cc in omega arith)
faces_stay (r ∷ rs) (s ∷ ss) h =
    let f : face r ≡ face s = cc in
    let t : map face rs ≡ map face ss = cc in
    inl (ap (λ (l : Live). l.first) f, ap (λ (l : Live). l.entry) f, faces_stay rs ss t)

pub all_stay : (rs : List Row) → AllStay rs rs
all_stay rs = faces_stay rs rs refl

-- writes in place
module _ (v : ℕ) (C : Key → Type 0) (δ : ℕ → ℕ) (d d' : List ℕ) (s : Sound v d) (m : Move C δ d d') where
  abbrev f' : ℕ → Entry
  f' p = entry_at d' (slot_words d) p

  -- the rows of a key that may stand more than once, and perhaps one that came
  stays_in : (k : Key) → once k ≡ false → (rs : List Row) → All (Stand d) rs
      → AllStay (every (holds k) rs) (every (holds k) (map (shifted δ f') rs))
  unfolding every
  stays_in k o [] a = tt
  stays_in k o (r ∷ rs) a = go (holds k r.entry) refl (stays_in k o rs a.1)
    where
      after : List Row
      after = every (holds k) (map (shifted δ f') rs)

      came : (b : Bool) → AllStay (every (holds k) rs) after → AllStay (every (holds k) rs) (cond b (shifted δ f' r ∷ after) after)
      came true i = all-stay_skip (every (holds k) rs) (shifted δ f' r) after i
      came false i = i

      go : (b : Bool) → holds k r.entry ≡ b → AllStay (every (holds k) rs) after
          → AllStay (cond b (r ∷ every (holds k) rs) (every (holds k) rs)) (cond (holds k (f' r.at)) (shifted δ f' r ∷ after) after)
      go true h i =
          let t = (m.at r.at a.0.slot.on).touch in
          let g : holds k (entry_at d (slot_words d) r.at) ≡ true = rw a.0.is at h in
          let z = live_still k t g in
          let y : r.first ≡ r.first - δ r.at = omega arith in
          let e : f' r.at ≡ r.entry = spare k o t g ∙ sym a.0.is in
          rw (e, h) (inl (y, refl, i))
      go false h i = came (holds k (f' r.at)) i

  pub stays : BadStays d d'
  stays = rw (rows-moved C δ d d' m) (stays_in (File file_bad) once-bad (rows d) (standing v d s))
