-- `flush` meets its contract: a run is dropped or not, as its sum and the entry before it say.
use mathlib.Core.Path.{◌≡◌}
use mathlib.Core.Bool.{false, ◌&&◌, not}
use lib.Dec.{eqb}
use lib.ListN.{length-set}
use Rattle.meaning.specs.Requests.{flat}
use Rattle.segment.proofs.Writes.{none_written}
use Rattle.tidy.proofs.Runs.{dropped, needed, some-sum, left-nothing, left-entry}
use Rattle.tidy.proofs.tidy.flush.Goals.{else-sum-eq0-via-then-sum-eq0+else-not-held, else-sum-eq0-via-else-sum-eq0}
use Rattle.tidy.proofs.tidy.flush.Goals as goal

pub returns-in-Calm : goal.returns-in-Calm
unfolding flat
returns-in-Calm c = rw c.in-Calm.is (none_written c.args.out.now c.args.place)

pub returns-then-not-held : goal.returns-then-not-held
returns-then-not-held c =
    let w = c.in-Within in
    rw (w.is, left-nothing _ _ (dropped w.sum w.held c.if-sum-eq0.true c.if-not-held.true)) (none_written c.args.out.now c.args.place)

pub put_run-requires : goal.put_run-requires
put_run-requires c =
    let w = c.in-Within in
    let kept : eqb w.sum 0 && not w.held ≡ false =
    elim c.else-sum-eq0.branch [
      | else-sum-eq0-via-then-sum-eq0+else-not-held b ↦ needed w.sum w.held b.if-not-held.false
      | else-sum-eq0-via-else-sum-eq0 b ↦ some-sum w.sum w.held b.if-sum-eq0.false
    ] in
    let fits = rw (w.is, left-entry _ _ kept, length-set) at c.requires in
    fits

pub returns-else-sum-eq0 : goal.returns-else-sum-eq0
returns-else-sum-eq0 c =
    let w = c.in-Within in
    let kept : eqb w.sum 0 && not w.held ≡ false =
    elim c.else-sum-eq0.branch [
      | else-sum-eq0-via-then-sum-eq0+else-not-held b ↦ needed w.sum w.held b.if-not-held.false
      | else-sum-eq0-via-else-sum-eq0 b ↦ some-sum w.sum w.held b.if-sum-eq0.false
    ] in
    rw (w.is, left-entry _ _ kept) c.put_run.ensures
