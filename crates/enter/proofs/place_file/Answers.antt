-- `place_file` meets its contract: some area is chosen (`somewhere`), it is one where an entry may be put (`enterable`), and the outcome
-- is the meaning's (`placed_at`).
use native.Mathlib.Omega.{arith}
use mathlib.Core.Path.{ap}
use Rattle.meaning.specs.Answers.{granted, success}
use Rattle.std.specs.Prelude.{Some}
use Rattle.choice.specs.Choice.{Fitted}
use Rattle.insert.specs.Spots.{Enterable}
use Rattle.enter.proofs.Placing.{t, spot_at, tidied-chained, somewhere, enterable, placed_at, first_small}
use Rattle.enter.proofs.place_file.Goals.{In_ok-area}
use Rattle.enter.proofs.place_file.Goals as goal

-- where an area was chosen on the tidied words, an entry may be put into it
chosen_at : (c : In_ok-area) → let a = c.args in Fitted (Some c.in_ok-area.area) (t a.v a.d.now c.requires.0 a.new.length) a.new.length
chosen_at c = rw (← c.in_ok-area.ensures.ok_part) (rw c.tidy_if.ensures at c.first_fit.ensures)

enterable-at : (c : In_ok-area)
    → let a = c.args in Enterable (t a.v a.d.now c.requires.0 a.new.length) (spot_at c.in_ok-area.area) a.new.length
enterable-at c = enterable c.args.v c.args.d.now c.requires.0 c.args.new.length _ (chosen_at c)

pub first_fit-requires : goal.first_fit-requires
first_fit-requires c = rw c.tidy_if.ensures (tidied-chained c.args.v c.args.d.now c.requires.0)

pub returns-in_err-area : goal.returns-in_err-area
returns-in_err-area c =
    absurd
    (somewhere c.args.v c.args.d.now c.requires.0 c.args.new.length
    (rw (← c.in_err-area.ensures.ok_part) (rw c.tidy_if.ensures at c.first_fit.ensures))
    c.requires.2)

pub enter_area-position-requires : goal.enter_area-position-requires
enter_area-position-requires c = rw c.tidy_if.ensures (enterable-at (goal.at.enter_area-position-requires c).In_ok-area)

pub overflow_cast-result : goal.overflow_cast-result
overflow_cast-result c =
    let x = first_small c.args.v c.args.d.now c.requires.0 c.args.new.length _ (chosen_at (goal.at.overflow_cast-result c).In_ok-area) in
    record { fits = omega arith }

pub returns : goal.returns
unfolding success
returns c =
    let a = c.args in
    let e = c.tidy_if.ensures in
    rw (placed_at a.v a.d.now c.requires.0 a.new.length _ (chosen_at (goal.at.returns c).In_ok-area) a.new.name a.new.channel a.new.date)
    (record {
      answer = ap (granted _ _ _) (rw e at c.enter_area-position.ensures.position);
      words = rw e at c.enter_area-position.ensures.words;
    })
