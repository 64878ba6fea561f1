-- `judge` meets its contract: a return for each test (`is_open_lem`, `is-short`, `is-over`), and one where none holds.
use mathlib.Core.Path.{sym, ◌∙◌}
use Rattle.chain.proofs.Chains.{fault-chained}
use Rattle.squeeze.proofs.Judged.{is_open_lem, is-short, is-over, is_right}
use Rattle.squeeze.proofs.judge.Goals as goal

pub open_chain-requires : goal.open_chain-requires
open_chain-requires c = fault-chained _ _ c.requires

pub returns-then-open_chain : goal.returns-then-open_chain
returns-then-open_chain c =
    is_open_lem c.args.v c.args.d.now c.args.room (sym c.open_chain.ensures ∙ c.if-open_chain.true)

pub returns-then-room-survey : goal.returns-then-room-survey
returns-then-room-survey c =
    let a = c.args in
    let calm = sym c.open_chain.ensures ∙ c.if-open_chain.false in
    is-short a.v a.d.now a.room calm c.survey_chain-survey.ensures.moves c.if-room-survey.true

pub returns-then-survey : goal.returns-then-survey
returns-then-survey c =
    let a = c.args in
    let calm = sym c.open_chain.ensures ∙ c.if-open_chain.false in
    let y = c.survey_chain-survey.ensures in
    is-over a.v a.d.now a.room calm y.moves c.if-room-survey.false y.over c.if-survey.true

pub returns : goal.returns
returns c =
    let a = c.args in
    let calm = sym c.open_chain.ensures ∙ c.if-open_chain.false in
    let y = c.survey_chain-survey.ensures in
    is_right a.v a.d.now a.room calm y.moves c.if-room-survey.false y.over c.if-survey.false
