-- `same_file` meets its contract: the first block, then the words that a file keeps, are compared, each where all before it are the same.
use mathlib.Core.Path.{◌≡◌, refl}
use mathlib.Core.Bool.{◌&&◌}
use lib.Dec.{eqb}
use lib.ListN.{get_or}
use borrow.Author.Tests.{eq-eqb, ne_eqb}
use Rattle.meaning.specs.Words.{name_of, same_name, blocks}
use Rattle.keeping.proofs.Alike.{alike_by}
use Rattle.keeping.proofs.matching.same_file.Goals.{Joined-x-y, Joined-status, Joined-is_named}
use Rattle.keeping.proofs.matching.same_file.Goals.{then-x-y, else-x-y, then-status, else-status, then-is_named, else-is_named}
use Rattle.keeping.proofs.matching.same_file.Goals as goal

statuses : (c : Joined-x-y)
    → c.if-x-y.value
    ≡ eqb c.args.x.now.first c.args.y.now.first && eqb (get_or c.entry-p.result.words.now 0 0) (get_or c.entry-q.result.words.now 0 0)
statuses c = elim c.if-x-y.branch [
  | then-x-y w ↦ rw (w.value-is, eq-eqb _ _ w.if-x-y.true, w.status.ensures, w.status-then-x-y.ensures) refl
  | else-x-y w ↦ rw (w.value-is, ne_eqb _ _ w.if-x-y.false) refl
]

names : (c : Joined-status)
    → c.if-status.value ≡ c.if-x-y.value && same_name (name_of c.entry-p.result.words.now) (name_of c.entry-q.result.words.now)
names c = elim c.if-status.branch [
  | then-status w ↦
      rw (w.value-is, w.if-status.true, w.is_named.ensures, w.name.ensures) refl
  | else-status w ↦ rw (w.value-is, w.if-status.false) refl
]

lengths : (c : Joined-is_named)
    → c.if-is_named.value ≡ c.if-status.value && eqb (blocks c.entry-p.result.words.now) (blocks c.entry-q.result.words.now)
lengths c = elim c.if-is_named.branch [
  | then-is_named w ↦ rw (w.value-is, w.if-is_named.true, w.blocks-then-is_named.ensures, w.blocks-then-is_named-2.ensures) refl
  | else-is_named w ↦ rw (w.value-is, w.if-is_named.false) refl
]

four : (c : Joined-is_named)
    → c.if-is_named.value
    ≡ ((eqb c.args.x.now.first c.args.y.now.first && eqb (get_or c.entry-p.result.words.now 0 0) (get_or c.entry-q.result.words.now 0 0))
    && same_name (name_of c.entry-p.result.words.now) (name_of c.entry-q.result.words.now))
    && eqb (blocks c.entry-p.result.words.now) (blocks c.entry-q.result.words.now)
four c =
    let s = (goal.at.Joined-is_named c).Joined-status in
    let x = (goal.at.Joined-status s).Joined-x-y in
    rw (lengths c, names s, statuses x) refl

pub returns-then-blocks : goal.returns-then-blocks
returns-then-blocks c =
    let a = c.args in
    rw (
      c.date.ensures,
      c.date-then-blocks.ensures,
      ← alike_by a.d.now a.x.now a.w.now a.y.now c.entry-p.result.words.now c.entry-q.result.words.now c.entry-p.ensures c.entry-q.ensures,
      ← four (goal.at.returns-then-blocks c).Joined-is_named,
      c.if-blocks.true,
    ) refl

pub returns-else-blocks : goal.returns-else-blocks
returns-else-blocks c =
    let a = c.args in
    rw (
      ← alike_by a.d.now a.x.now a.w.now a.y.now c.entry-p.result.words.now c.entry-q.result.words.now c.entry-p.ensures c.entry-q.ensures,
      ← four (goal.at.returns-else-blocks c).Joined-is_named,
      c.if-blocks.false,
    ) refl
