-- Demand 2 of enter, on every sound directory: *Room* (Room) and *Kept* (EnterKept) together. Both go by the ways an enter can end
-- (Entering) and by the tidied directory, which is sound, with the same chain and the same living entries (TidiedSound).
use Prim.Native.Nat.{ℕ}
use mathlib.Core.Path.{◌≡◌}
use mathlib.Core.List.{List}
use Rattle.meaning.specs.Sound.{fault}
use Rattle.laws.specs.Room.{EnterLaws}
use Rattle.laws.proofs.EnterKept.{enter_kept}
use Rattle.laws.proofs.Room.{room}

pub enter_laws : (v : ℕ) (d : List ℕ) → fault v d ≡ 0 → EnterLaws v d
enter_laws v d h = record { room = room v d h; kept = enter_kept v d h }
