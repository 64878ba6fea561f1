-- `put_entry` meets its contract: seven words and those behind them are one write of the entry (`entry-copied`).
use Rattle.packing.proofs.Copying.{entry-copied}
use Rattle.packing.proofs.entries.put_entry.Goals as goal

pub returns : goal.returns
returns c =
    let s = c.split_at.ensures in
    let p = c.copy_from_slice.ensures in
    entry-copied _ _ _ _ _ _ c.args.at _ c.requires s.front s.back s.front_len p.after p.len c.put_words.ensures
