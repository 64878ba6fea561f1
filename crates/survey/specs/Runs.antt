-- Runs of empty entries as code meets them: an open run is known by its sum, and whether a tentative entry stands before it.
use Rattle.std.specs.Prelude.{ℕ, ◌+◌, ◌≤◌, ◌≡◌, Bool, cond, ◌&&◌, not, List, [], ◌∷◌, length, eqb}
use Rattle.meaning.specs.declared.Kind.{Kind}
use Rattle.meaning.specs.Kinds.{is_tentative, is_empty}
use Rattle.meaning.specs.Words.{Entry, kind, blocks}
use Rattle.meaning.specs.Enter.{tidy}
use Rattle.survey.specs.declared.runs.Outline.{Outline}
use Rattle.survey.specs.declared.runs.OpenRun.{OpenRun}
use Rattle.survey.specs.declared.runs.OpenRun.TheVariants.{Calm, Within}

-- the sum of the open run
abbrev pub sum_so_far : OpenRun → ℕ
sum_so_far (Calm p) = 0
sum_so_far (Within t p) = t

-- an empty entry of n blocks more
abbrev pub absorbed : OpenRun → ℕ → OpenRun
absorbed (Calm p) n = Within n p
absorbed (Within t p) n = Within (t + n) p

-- after a slot of a kind and n blocks
unfoldable pub after : OpenRun → Kind → ℕ → OpenRun
after run κ n = cond (is_empty κ) (absorbed run n) (Calm (is_tentative κ))

-- whether a run leaves no area: it has no blocks, and no tentative entry needs it
abbrev pub dropped : ℕ → Bool → Bool
dropped t p = eqb t 0 && not p

-- how many entries a run becomes
abbrev pub leaves : OpenRun → ℕ
leaves (Calm p) = 0
leaves (Within t p) = cond (dropped t p) 0 1

pub record LeftBy (r : ℕ) (run : OpenRun) : Type 0 where
  pub is : r ≡ leaves run
  pub few : r ≤ 1

-- how many entries a slot of a kind lets out
unfoldable pub lets : OpenRun → Kind → ℕ
lets run κ = cond (is_empty κ) 0 (leaves run + 1)

pub record LetOut (r : ℕ) (run : OpenRun) (κ : Kind) : Type 0 where
  pub is : r ≡ lets run κ
  pub few : r ≤ 2

-- how many entries there are in all, after n others
unfoldable pub count_runs : ℕ → OpenRun → List Entry → ℕ
count_runs n run [] = n + leaves run
count_runs n run (e ∷ es) = count_runs (n + lets run (kind e)) (after run (kind e) (blocks e)) es

-- the outline r of the entries es
pub record Outlined (r : Outline) (es : List Entry) : Type 0 where
  pub count : r.count ≡ length (tidy es)
  pub entries : r.entries ≡ length es
