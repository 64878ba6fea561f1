-- `run` meets its contract: a turn serves its request (`next`), and where none is left all are served (`ran`).
use Rattle.batch.proofs.Fold.{next, ran, refused}
use Rattle.batch.proofs.run.Goals as goal

pub returns-then-requests-answers : goal.returns-then-requests-answers
returns-then-requests-answers c =
    let a = c.args in
    refused a.v a.d.now a.requests.now a.answers.now c.if-requests-answers.true

pub loop-i-preserved : goal.loop-i-preserved
loop-i-preserved c =
    let a = c.args in
    let l = c.loop-i in
    let e = c.serve_known.ensures in
    let turn = next a.v a.d.now a.requests.now l.invariant.2 c.loop-i-test.true c.serve_known.result c.serve_known.new.d e.answer e.words in
    (l.invariant.0, l.invariant.1, turn)

pub returns : goal.returns
returns c =
    let a = c.args in
    let l = c.loop-i in
    ran a.v a.d.now a.requests.now l.invariant.2 a.answers.now l.invariant.0 c.loop-i-test.false
