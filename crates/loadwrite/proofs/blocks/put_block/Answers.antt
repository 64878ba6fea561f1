-- `put_block` meets its contract: header and data are the body, which is what is summed, and its checksum comes last.
use native.Mathlib.Omega.{arith}
use Rattle.loads.specs.Memory.{bytes_at}
use Rattle.loads.proofs.Bytes.{length-bytes}
use Rattle.loadwrite.proofs.Parts.{a_body, a_block}
use Rattle.loadwrite.proofs.blocks.put_block.Goals as goal

pub checksum_of-check-requires : goal.checksum_of-check-requires
checksum_of-check-requires c =
    let a = c.args in
    omega (arith, length-bytes a.words.now a.address a.count)

pub put-requires : goal.put-requires
put-requires c =
    let a = c.args in
    omega (arith, length-bytes a.words.now a.address a.count)

pub returns : goal.returns
returns c =
    let a = c.args in
    let m = a.words.now in
    let h = c.put_header-filled.ensures in
    let d = c.put_data-end.ensures in
    let k = c.checksum_of-check.ensures in
    a_block a.address (bytes_at m a.address a.count) (a_body m a.address a.count h d) k c.put.ensures
