-- `dotted` meets its contract: its three writes add up, the last of the three characters that are left (law `dotted-text`).
use native.Mathlib.Omega.{arith}
use lib.ListN.{length-set}
use Rattle.lines.proofs.Shown.{dotted-text}
use Rattle.lines.proofs.dotted.Goals as goal

pub put_bytes-requires : goal.put_bytes-requires
put_bytes-requires c = rw length-set (omega arith)

pub shape_of-out : goal.shape_of-out
shape_of-out c =
    omega (arith, length-set c.put_bytes-dot.new.out c.put_bytes-dot.result 46)

pub returns : goal.returns
returns c =
    dotted-text c.args.text.now c.requires.0 c.put_bytes-dot.ensures c.put_bytes.ensures
