-- `put_pairs` meets its contract: each turn leaves what `Filling` says (laws `fill_word`, `fill_byte`, `fill_ends`).
use native.Mathlib.Omega.{arith}
use Rattle.std.proofs.Common.{◌≡◌, ◌*◌, ◌/◌, ◌<◌, ◌≤◌, ◌%◌, drop, length, get_or}
use mathlib.Core.Path.{ap, ◌∙◌}
use native.Mathlib.Nat.{add-zero}
use mathlib.Core.List.{[]}
use Rattle.std.proofs.lemmas.List.{get_or-drop}
use Rattle.std.specs.Simd.{first_chunks}
use Rattle.loads.proofs.Bytes.{fill_word, fill_byte, fill_ends}
use Rattle.loads.proofs.memory.put_pairs.Goals as goal

pub loop-i-preserved : goal.loop-i-preserved
loop-i-preserved c =
    let ds = c.args.bytes.now in
    let l = c.loop-i in
    let front : c.as_chunks.result.0.now ≡ first_chunks 2 (length ds / 2) ds = c.as_chunks.ensures.front in
    let count : length c.as_chunks.result.0.now ≡ length ds / 2 = c.as_chunks.ensures.front_len in
    fill_word _ _ l.invariant c.requires.0 (omega arith) c.requires.1 (omega (arith, c.type_inv.bytes (2 * l.i)))
    (ap (λ ps. get_or ps l.i []) front) c.from_le_bytes.ensures

pub returns-in-Some : goal.returns-in-Some
returns-in-Some c =
    let ds = c.args.bytes.now in
    let l = c.loop-i in
    let count : length c.as_chunks.result.0.now ≡ length ds / 2 = c.as_chunks.ensures.front_len in
    let over : length c.as_chunks.result.1.now ≡ length ds % 2 = c.as_chunks.ensures.back_len in
    let back : c.as_chunks.result.1.now ≡ drop (length ds / 2 * 2) ds = c.as_chunks.ensures.back in
    let first : c.in-Some.byte.now ≡ get_or c.as_chunks.result.1.now 0 0 = c.in-Some.ensures.item.3.1 0 in
    let some : 0 < length c.as_chunks.result.1.now = c.in-Some.ensures.item.3.0 in
    let place : length ds / 2 * 2 ≡ 2 * l.i = omega arith in
    let byte : c.in-Some.byte.now ≡ get_or ds (2 * l.i) 0 = first ∙ rw (back, place, get_or-drop (2 * l.i) ds 0 0, add-zero) in
    let turns : length c.as_chunks.result.0.now ≡ l.i = omega arith in
    (fill_byte _ l.invariant (omega arith) (omega arith) (rw (← byte, ← turns) c.put_byte.ensures)).0

pub returns-in_default : goal.returns-in_default
returns-in_default c =
    let ds = c.args.bytes.now in
    let count : length c.as_chunks.result.0.now ≡ length ds / 2 = c.as_chunks.ensures.front_len in
    let over : length c.as_chunks.result.1.now ≡ length ds % 2 = c.as_chunks.ensures.back_len in
    let none : length c.as_chunks.result.1.now ≤ 0 = c.in_default.ensures.item.3 in
    fill_ends c.loop-i.invariant (omega arith)
