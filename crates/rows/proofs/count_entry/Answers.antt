-- `count_entry` meets its contract: each arm adds to the total of its kind (laws `count_open` to `count_unknown`).
use mathlib.Core.Logic.{⊎_elim}
use Rattle.rows.proofs.Sums.{count_open, count-free, count-file, count_end, count_unknown}
use Rattle.rows.proofs.count_entry.Goals as goal

pub returns-in-Tentative : goal.returns-in-Tentative
returns-in-Tentative c = let a = c.args in count_open a.totals a.seen.length c.in-Tentative.is

pub returns-in-Empty : goal.returns-in-Empty
returns-in-Empty c = let a = c.args in count-free a.totals a.seen.length c.in-Empty.is

pub returns-in-Permanent : goal.returns-in-Permanent
returns-in-Permanent c = let a = c.args in count-file a.totals a.seen.length c.in-Permanent.is

pub returns-in-End : goal.returns-in-End
returns-in-End c = let a = c.args in ⊎_elim (count_end a.totals a.seen.length) (count_unknown a.totals a.seen.length) c.in-End.is
