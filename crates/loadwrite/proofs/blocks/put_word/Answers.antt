-- `put_word` meets its contract: two writes, one after the other.
use Rattle.std.proofs.Common.{rules, ◌≡◌, ◌%◌, ◌/◌, get_or}
use Rattle.lines.proofs.Writes.{both}
use Rattle.loadwrite.proofs.blocks.put_word.Goals as goal

pub returns : goal.returns
returns c =
    let w = both c.put-next.ensures c.put.ensures in
    let low : get_or c.to_le_bytes.result 0 0 ≡ c.args.word % 256 = search rules in
    let high : get_or c.to_le_bytes.result 1 0 ≡ c.args.word / 256 = search rules in
    rw (low, high) at w
