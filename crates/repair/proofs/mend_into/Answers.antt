-- `mend_into` meets its contract: the table lists what is kept, the sorted first blocks are those of its files, and what is mended was a copy.
use Rattle.repair.proofs.Judged.{mended-copy}
use Rattle.repair.proofs.mend_into.Goals as goal

pub returns : goal.returns
returns c =
    let a = c.args in
    mended-copy a.v a.d.now _ c.list_files-count.ensures.lists c.sort_firsts.ensures c.copy_from_slice.ensures.after c.mend_all.ensures
