-- `is_passing` meets its contract: another length, a fault or other files make a proposal fail.
use mathlib.Core.Path.{◌≡◌, refl}
use borrow.Author.Tests.{eq-eqb, ne_eqb}
use Rattle.chain.proofs.Chains.{fault-chained}
use Rattle.repair.proofs.Judged.{right, sound-fault, by_files, not_right}
use Rattle.repair.proofs.is_passing.Goals.{Joined-w-d, then-w-d, else-w-d}
use Rattle.repair.proofs.is_passing.Goals as goal

-- whether length and fault are right
is_right : (c : Joined-w-d) → c.if-w-d.value ≡ right c.args.v c.args.d.now c.args.w.now
is_right c = elim c.if-w-d.branch [
  | then-w-d w ↦ rw (w.value-is, eq-eqb _ _ w.if-w-d.true, w.fault_of.ensures) refl
  | else-w-d w ↦ rw (w.value-is, ne_eqb _ _ w.if-w-d.false) refl
]

pub keeps_files-requires : goal.keeps_files-requires
keeps_files-requires c =
    let a = c.args in
    (c.requires, fault-chained a.v a.w.now (sound-fault a.v a.d.now a.w.now (is_right (goal.at.keeps_files-requires c).Joined-w-d) c.if-fault_of-eq0.true))

pub returns-then-fault_of-eq0 : goal.returns-then-fault_of-eq0
returns-then-fault_of-eq0 c =
    let a = c.args in
    by_files a.v a.d.now a.w.now (is_right (goal.at.returns-then-fault_of-eq0 c).Joined-w-d) c.if-fault_of-eq0.true c.keeps_files.ensures

pub returns-else-fault_of-eq0 : goal.returns-else-fault_of-eq0
returns-else-fault_of-eq0 c =
    let a = c.args in
    not_right a.v a.d.now a.w.now (is_right (goal.at.returns-else-fault_of-eq0 c).Joined-w-d) c.if-fault_of-eq0.false
