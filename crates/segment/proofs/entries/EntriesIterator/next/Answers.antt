-- `next` meets its contract: each way out is one of the laws of the entries ahead.
use native.Mathlib.Omega.{arith}
use mathlib.Core.Path.{◌≡◌, sym, ap, ◌∙◌}
use mathlib.Core.Bool.{false}
use mathlib.Core.List.{◌∷◌}
use lib.ListN.{length, get_or, take}
use Rattle.meaning.specs.Kinds.{kind_of, is_end}
use Rattle.segment.specs.Entries.{ahead}
use Rattle.segment.proofs.Passing.{none_ahead, marker_ahead, entry_ahead}
use Rattle.segment.proofs.entries.EntriesIterator.next.Goals.{After-is_marker}
use Rattle.segment.proofs.entries.EntriesIterator.next.Goals as goal

pub returns-then-self-clause-steps : goal.returns-then-self-clause-steps
returns-then-self-clause-steps c =
    let s = c.args.self.now in
    let e = none_ahead s.width s.rest.now c.if-self.true in
    (e, e)

-- the entry at hand has the next slot's words
slot_words : (c : After-is_marker) → c.new-entry.result.words.now ≡ take c.args.self.now.width c.args.self.now.rest.now
slot_words c = ap (λ b. b.now) c.new-entry.ensures ∙ c.split_at.ensures.front

-- its kind, as the code tells it
kind_told : (c : After-is_marker) → c.is_marker.result ≡ is_end (kind_of (get_or (take c.args.self.now.width c.args.self.now.rest.now) 0 0))
kind_told c = rw (← slot_words c, ← c.status.ensures) c.is_marker.ensures

pub returns-then-is_marker-clause-steps : goal.returns-then-is_marker-clause-steps
returns-then-is_marker-clause-steps c =
    let s = c.args.self.now in
    let told = kind_told (goal.at.returns-then-is_marker-clause-steps c).After-is_marker in
    let e = marker_ahead s.width s.rest.now (omega (arith, s.wide)) c.if-self.false (sym told ∙ c.if-is_marker.true) in
    (e, e)

passes : (c : After-is_marker) → c.is_marker.result ≡ false
    → ahead c.args.self.now.width c.args.self.now.rest.now ≡ c.new-entry.result.words.now ∷ ahead c.args.self.now.width c.split_at.result.1.now
passes c e =
    let s = c.args.self.now in
    rw (slot_words c, c.split_at.ensures.back)
    (entry_ahead s.width s.rest.now (omega (arith, s.wide)) c.if-self.false (sym (kind_told c) ∙ e))

pub returns-clause-steps : goal.returns-clause-steps
returns-clause-steps c = passes (goal.at.returns-clause-steps c).After-is_marker c.if-is_marker.false

pub returns-clause-goes : goal.returns-clause-goes
returns-clause-goes c =
    let e = ap length (passes (goal.at.returns-clause-goes c).After-is_marker c.if-is_marker.false) in
    record { on = λ _. (tt, tt, omega (arith, e)); keeps = tt; rests = λ _. tt }
