-- `label_line` meets its contract: its three writes add up, bracketed as the meaning has them (law `and_both`).
use borrow.Author.Rules.{rules}
use native.Mathlib.Omega.{arith}
use mathlib.Core.Path.{◌≡◌}
use lib.ListN.{length}
use Rattle.names.specs.Text.{bytes}
use Rattle.lines.specs.Pieces.{label_by}
use Rattle.lines.proofs.Writes.{and_both}
use Rattle.lines.proofs.label_line.Goals.{Start}
use Rattle.lines.proofs.label_line.Goals as goal

pub returns-then-not-labelled : goal.returns-then-not-labelled
unfolding label_by bytes
returns-then-not-labelled c =
    rw (c.if-not-labelled.true)
    (record { wrote = c.put_bytes.ensures; short = omega (arith, c.put_bytes.ensures.ends) })

-- name and owner are twelve bytes
twelve-at : (s : Start) → (length s.args.name ≡ 12) × (length s.args.owner ≡ 12)
twelve-at s = search rules

pub returns : goal.returns
unfolding label_by bytes
returns c =
    let a = c.args in
    let name = and_both a.name (bytes " ") c.put_bytes-next.ensures c.put_ended-next.ensures.wrote in
    let owner = and_both a.owner (bytes "\n") name c.put_ended.ensures.wrote in
    let first = c.put_bytes-next.ensures.ends in
    rw (c.if-not-labelled.false) (record {
      wrote = owner;
      short = omega (arith, first, c.put_ended-next.ensures.short, c.put_ended.ensures.short, twelve-at (goal.at.returns c).Start);
    })
