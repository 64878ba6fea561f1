-- `squeeze` meets its contract: a fault and a refusal are reported and nothing is written (`faulty`, `refused`); else the list and the words are
-- those of the pass that writes (`carried-out`).
use mathlib.Core.Path.{refl, sym, ◌∙◌}
use Rattle.squeeze.proofs.Judged.{faulty, refusing, refused, list-room, segments-room, carried-out}
use Rattle.squeeze.proofs.squeeze.Goals as goal

pub returns-then-number-ne0 : goal.returns-then-number-ne0
returns-then-number-ne0 c =
    faulty c.args.v _ c.args.d.now c.args.list.now c.fault_of-number.ensures c.if-number-ne0.true

pub returns-in-Err : goal.returns-in-Err
returns-in-Err c =
    let known = sym c.fault_of-number.ensures ∙ c.if-number-ne0.false in
    rw c.into.ensures
    (refused c.args.v c.args.d.now c.args.list.now known c.in-Err.ensures (refusing c.in-Err.refusal))

pub pack_chain-requires : goal.pack_chain-requires
pack_chain-requires c =
    let a = c.args in
    let known = sym c.fault_of-number.ensures ∙ c.if-number-ne0.false in
    (known, segments-room a.v a.d.now a.list.now known c.in-Ok.ensures refl, list-room a.v a.d.now a.list.now known c.in-Ok.ensures refl)

pub returns-in-Ok : goal.returns-in-Ok
returns-in-Ok c =
    let a = c.args in
    let known = sym c.fault_of-number.ensures ∙ c.if-number-ne0.false in
    carried-out a.v a.d.now a.list.now known c.in-Ok.ensures refl c.pack_chain.ensures.0 c.pack_chain.ensures.1
