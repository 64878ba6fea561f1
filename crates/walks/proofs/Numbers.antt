-- A signed number that is not below 0 is a length, and fits the word that held it: by its sign. Assumes nothing.
use native.Mathlib.Omega.{arith}
use mathlib.Core.Path.{◌≡◌, refl}
use mathlib.Core.Bool.{false, true≢false}
use lib.IntN.{ℤ, pos, negsuc, nat_abs}
use lib.Signed.{lt_z, non_neg}
use lib.Dec.{T}
use mir.Syntax.{w32}
use mir.Val.{Fits, SFits}
