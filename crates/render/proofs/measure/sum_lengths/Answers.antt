-- `sum_lengths` meets its contract. The loop's invariant: the sum so far and the lengths ahead are the whole sum.
use native.Mathlib.Omega.{arith}
use mathlib.Core.Path.{◌≡◌, ap, ◌∙◌}
use mathlib.Core.List.{◌++◌}
use Prim.Native.Nat.{◌≤◌}
use lib.ListN.{length}
use Rattle.meaning.specs.Words.{blocks}
use Rattle.render.proofs.Counting.{summing, sum-fits, sum-next, summed}
use Rattle.render.proofs.measure.sum_lengths.Goals.{After-blocks-in-loop-words}
use Rattle.render.proofs.measure.sum_lengths.Goals as goal

pub loop-words-init : goal.loop-words-init
loop-words-init c =
    let a = c.args in
    let e = c.into_iter-words-iterator.ensures.into_iter_gives in
    record {
      size = ap (λ i. i.size) e ∙ c.chunks_exact-words-items.ensures.size;
      summing =
          rw (e, c.chunks_exact-words-items.ensures.rest)
          (summing a.segment.now a.width a.count c.requires.1 c.requires.0 c.requires.2);
    }

-- what the iterator gave: a slot in front of the words that are left, and its length
gave : (c : After-blocks-in-loop-words)
    → (c.loop-words.words-iterator.rest.now ≡ c.in-Some.words.now ++ c.next.new.self.rest.now)
    × (length c.in-Some.words.now ≡ c.args.width)
    × (c.blocks-in-loop-words.result ≡ blocks c.in-Some.words.now)
gave c =
    let steps = c.in-Some.ensures.steps in
    (steps.1.0, steps.1.1 ∙ c.loop-words.invariant.size, c.blocks-in-loop-words.ensures ∙ ap (λ b. blocks b.now) c.new.ensures)

pub overflow_add-sum : goal.overflow_add-sum
overflow_add-sum c =
    let g = gave (goal.at.overflow_add-sum c).After-blocks-in-loop-words in
    let small : blocks c.in-Some.words.now ≤ 65535 = omega (arith, g.2, c.blocks-in-loop-words.type_inv) in
    omega (arith, g.2, sum-fits c.loop-words.invariant.summing c.requires.0 _ _ g.0 g.1 small)

pub loop-words-preserved : goal.loop-words-preserved
loop-words-preserved c =
    let g = gave (goal.at.loop-words-preserved c).After-blocks-in-loop-words in
    let small : blocks c.in-Some.words.now ≤ 65535 = omega (arith, g.2, c.blocks-in-loop-words.type_inv) in
    record {
      size = c.in-Some.ensures.steps.0 ∙ c.loop-words.invariant.size;
      summing = rw g.2 (sum-next c.loop-words.invariant.summing c.requires.0 _ _ g.0 g.1 small);
    }

pub returns : goal.returns
returns c =
    summed c.loop-words.invariant.summing c.requires.0 (rw c.loop-words.invariant.size at c.in-None.ensures.steps.1.0)
