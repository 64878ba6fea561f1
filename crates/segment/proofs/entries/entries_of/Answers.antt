-- `entries_of` meets its contract: the words behind the header hold the segment's slots, by `all_ahead`.
use Prim.Native.Nat.{ℕ, ◌-◌}
use native.Mathlib.Omega.{arith}
use mathlib.Core.List.{List}
use Rattle.meaning.specs.Words.{slots, upto}
use Rattle.walks.proofs.Slots.{entries-count, most-slots}
use mathlib.Core.Path.{◌≡◌, sym, ap}
use lib.ListN.{length, take, drop, length-drop}
use lib.Seq.{take-length}
use Rattle.segment.specs.Entries.{ahead}
use Rattle.segment.proofs.Passing.{all_ahead}
use Rattle.segment.proofs.entries.entries_of.Goals as goal

-- the words from word 5 to the segment's end are all that stand behind word 5
same : (g : List ℕ) (w : ℕ) → length g ≡ 512 → ahead w (take (length g - 5) (drop 5 g)) ≡ upto (slots w g)
same g w h = rw (← length-drop 5 g, take-length (drop 5 g)) (sym (all_ahead w g h))

pub returns-clause-left : goal.returns-clause-left
returns-clause-left c = same c.args.segment.now c.args.width c.requires.0

pub returns-clause-few : goal.returns-clause-few
returns-clause-few c =
    let a = c.args in
    let e = same a.segment.now a.width c.requires.0 in
    omega (arith, ap length e, entries-count a.width a.segment.now, most-slots a.width c.requires.1)
