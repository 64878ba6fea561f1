-- `scan_slots` meets its contract: each way through the loop's body is one case of what the slot at hand says.
use native.Mathlib.Omega.{arith}
use mathlib.Core.Path.{◌≡◌, sym, ap, ◌∙◌}
use mathlib.Core.List.{◌++◌}
use lib.ListN.{length}
use Rattle.segment.specs.Steps.{slot_step}
use Rattle.segment.proofs.Scanning.{bad, ends, goes, over}
use Rattle.segment.proofs.scan.scan_slots.Goals.{After-slot_step}
use Rattle.segment.proofs.scan.scan_slots.Goals as goal

-- what the code says of the slot at hand is said of the words that the iterator gave
said : (c : After-slot_step) → c.slot_step.result ≡ slot_step c.loop-words.owed c.in-Some.words.now
said c = c.slot_step.ensures ∙ ap (λ b. slot_step c.loop-words.owed b.now) c.new.ensures

-- what the iterator gave: a slot in front of the words that are left
gave : (c : After-slot_step)
    → (c.loop-words.words-iterator.rest.now ≡ c.in-Some.words.now ++ c.next.new.self.rest.now) × (length c.in-Some.words.now ≡ c.args.width)
gave c = let steps = c.in-Some.ensures.steps in (steps.1.0, steps.1.1 ∙ c.loop-words.invariant.size)

pub returns-in-Bad : goal.returns-in-Bad
returns-in-Bad c =
    let d = (goal.at.returns-in-Bad c).After-slot_step in
    let g = gave d in
    bad c.loop-words.invariant.scanning _ _ g.0 g.1 (omega arith) (sym c.in-Bad.is ∙ said d)

pub returns-in-Marker : goal.returns-in-Marker
returns-in-Marker c =
    let d = (goal.at.returns-in-Marker c).After-slot_step in
    let g = gave d in
    ends c.loop-words.invariant.scanning _ _ g.0 g.1 (omega arith) (sym c.in-Marker.is ∙ said d)

pub loop-words-preserved : goal.loop-words-preserved
loop-words-preserved c =
    let d = (goal.at.loop-words-preserved c).After-slot_step in
    let g = gave d in
    record {
      size = c.in-Some.ensures.steps.0 ∙ c.loop-words.invariant.size;
      scanning = goes c.loop-words.invariant.scanning _ _ g.0 g.1 (omega arith) _ _ (sym c.in-Next.is ∙ said d) (omega arith);
    }

pub returns : goal.returns
returns c = over c.loop-words.invariant.scanning (omega (arith, c.loop-words.invariant.size, c.in-None.ensures.steps.1.0))
