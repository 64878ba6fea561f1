-- `close_at` meets its contract. What the place's words, the next slot and the sum ask for is the law `ready`; the writes of both steps
-- are those of the meaning (`closed-words`), unless what was found is protected (`over-protected`).
use native.Mathlib.Omega.{arith}
use mathlib.Core.Path.{◌≡◌, refl, sym, ap, ◌∙◌}
use mathlib.Core.List.{List}
use Prim.Native.Nat.{ℕ, ◌+◌, ◌-◌}
use lib.ListN.{get_or, take, drop}
use Rattle.meaning.specs.Words.{slot_words, length_word, name_of}
use Rattle.meaning.specs.Answers.{refuse, write}
use Rattle.meaning.specs.Requests.{gives_way}
use Rattle.segment.specs.Finder.{found_of}
use Rattle.chain.specs.Chained.{Chained}
use Rattle.chain.proofs.Chains.{fault-chained}
use Rattle.channels.specs.Closing.{replacing_at}
use Rattle.find.proofs.Behind.{over-protected}
use Rattle.channels.proofs.Closes.{Ready, ready, old-key, closed-words, closed-over, closed_on_lem}
use Rattle.channels.proofs.close_at.Goals.{After-find_old-old, Start}
use Rattle.channels.proofs.close_at.Goals as goal

-- the place and the row behind it, and the chain, as the start knows them
ready_at : (s : Start) → Ready s.args.d.now s.args.place s.requires.1.row
ready_at s = ready s.args.v s.args.d.now s.requires.0 s.args.word s.args.place s.requires.1

chained-at : (s : Start) → Chained s.args.d.now
chained-at s = fault-chained s.args.v s.args.d.now s.requires.0

-- where the old file was looked for
abbrev start : After-find_old-old → Start
start f = (goal.at.After-find_old-old f).Start

old-at : (f : After-find_old-old)
    → f.find_old-old.result ≡ found_of (gives_way (start f).args.d.now (name_of (start f).requires.1.row.entry))
old-at f =
    let s = start f in
    let d = s.args.d.now in
    let at = s.args.place.at in
    let w : at + slot_words d - at ≡ slot_words d = omega arith in
    let name = f.name-name.ensures ∙ ap (λ b. name_of b.now) f.new.ensures ∙ ap (λ (n : ℕ). name_of (take n (drop at d))) w in
    old-key d s.args.place s.requires.1.row (ready_at s) (slot_words d) (omega arith) _ _ name f.find_old-old.ensures.is

pub bounds-d-3 : goal.bounds-d-3
bounds-d-3 c =
    let k = chained-at (goal.at.bounds-d-3 c).Start in
    omega arith

pub overflow_add-next : goal.overflow_add-next
overflow_add-next c =
    let q = ready_at (goal.at.overflow_add-next c).Start in
    let k = chained-at (goal.at.overflow_add-next c).Start in
    omega arith

pub offset_bounds-d-place : goal.offset_bounds-d-place
offset_bounds-d-place c =
    let q = ready_at (goal.at.offset_bounds-d-place c).Start in
    let k = chained-at (goal.at.offset_bounds-d-place c).Start in
    omega arith

pub slice_bounds-new-end : goal.slice_bounds-new-end
slice_bounds-new-end c =
    let q = ready_at (goal.at.slice_bounds-new-end c).Start in
    omega arith

pub find_old-old-requires : goal.find_old-old-requires
find_old-old-requires c = chained-at (goal.at.find_old-old-requires c).Start

pub returns-then-is_protected : goal.returns-then-is_protected
unfolding refuse
returns-then-is_protected c =
    let s = start (goal.at.returns-then-is_protected c).After-find_old-old in
    let d = s.args.d.now in
    let o = s.requires.1 in
    let u = over-protected d (name_of o.row.entry) _ _ (old-at (goal.at.returns-then-is_protected c).After-find_old-old) (sym c.if-is_protected.true ∙ c.is_protected.ensures) in
    rw (closed-over d s.args.word s.args.size s.args.place o u) (record { answer = refl; words = refl })

pub make_permanent-requires : goal.make_permanent-requires
make_permanent-requires c =
    let s = start (goal.at.make_permanent-requires c).After-find_old-old in
    let q = ready_at s in
    let k = chained-at s in
    let b : get_or s.args.d.now (s.args.place.at + length_word) 0 ≡ s.args.place.length = q.word 4 (omega arith) ∙ q.length' in
    (omega arith, omega arith, omega arith, omega arith)

pub granted_with-requires : goal.granted_with-requires
granted_with-requires c = (ready_at (start (goal.at.granted_with-requires c).After-find_old-old)).small

pub returns : goal.returns
returns c =
    let s = start (goal.at.returns c).After-find_old-old in
    let a = s.args in
    let d = a.d.now in
    let o = s.requires.1 in
    let q = ready_at s in
    let u = over-protected d (name_of o.row.entry) _ _ (old-at (goal.at.returns c).After-find_old-old) (sym c.if-is_protected.false ∙ c.is_protected.ensures) in
    let w = ap (λ (z : List ℕ). write z (replacing_at c.find_old-old.result)) c.make_permanent.ensures in
    rw (closed_on_lem d a.word a.size a.place o q u, c.granted_with.ensures)
    (record {
      answer = refl;
      words = c.empty_old.ensures ∙ w ∙ closed-words d a.place o.row a.size _ q (old-at (goal.at.returns c).After-find_old-old);
    })
