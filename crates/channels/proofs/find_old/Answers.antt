-- `find_old` meets its contract: to a FILE.BAD no file gives way, and to any other name the file that is found by it.
use mathlib.Core.Path.{sym, ap, ◌∙◌}
use Rattle.segment.specs.Finder.{found_of}
use Rattle.rules.proofs.Keys.{no_old, old-file}
use Rattle.channels.proofs.find_old.Goals as goal

pub returns-then-is_spared : goal.returns-then-is_spared
returns-then-is_spared c =
    let a = c.args in
    record { is = sym (ap found_of (no_old a.d.now a.name (sym c.is_spared.ensures ∙ c.if-is_spared.true))); inside = tt }

pub returns : goal.returns
returns c =
    let a = c.args in
    let e = c.find_entry.ensures in
    record {
      is = e.is ∙ sym (ap found_of (old-file a.d.now a.name (sym c.is_spared.ensures ∙ c.if-is_spared.false)));
      inside = e.inside;
    }
