-- `pack_chain` meets its contract: the loop keeps `Renewing`, and a turn is `renews_on`.
use native.Mathlib.Omega.{arith}
use Prim.Native.Nat.{◌+◌, ◌-◌, ◌<◌, ◌≤◌}
use mathlib.Core.Path.{◌≡◌}
use lib.ListN.{length}
use Rattle.meaning.specs.Words.{highest}
use Rattle.rules.proofs.Rule5.{rule1-holds}
use Rattle.rules.proofs.Soundness.{Sound, sound}
use Rattle.packing.proofs.Chains.{renews, packable, renews_on, renewed_all}
use Rattle.packing.proofs.anew.pack_chain.Goals.{Start}
use Rattle.packing.proofs.anew.pack_chain.Goals as goal

-- what is known at the call: the directory is sound, and so of 1 to 31 segments
known : (s : Start) → Sound s.args.v s.args.words.now
known s = sound _ _ s.requires.0

sizes : (s : Start) → (512 ≤ length s.args.words.now) × (length s.args.words.now ≤ 15872)
sizes s = let r = rule1-holds _ _ (known s).size in (omega (arith, r.some, r.whole), omega (arith, r.few, r.whole))

pub bounds-words-3 : goal.bounds-words-3
bounds-words-3 c = omega (arith, sizes (goal.at.bounds-words-3 c).Start)

pub bounds-words-2 : goal.bounds-words-2
bounds-words-2 c = omega (arith, sizes (goal.at.bounds-words-2 c).Start)

pub loop-passed-init : goal.loop-passed-init
loop-passed-init c =
    let d = c.args.words.now in
    let e : highest d - 0 ≡ highest d = omega arith in
    rw e (renews c.args.list.now (known (goal.at.loop-passed-init c).Start) c.requires.1)

pub pack_segment-place-requires : goal.pack_segment-place-requires
pack_segment-place-requires c =
    let ahead : 0 < highest c.args.words.now - c.loop-passed.passed = omega arith in
    packable (sound _ _ c.requires.0) c.args.list.now ahead c.loop-passed.invariant c.requires.2

pub loop-passed-preserved : goal.loop-passed-preserved
loop-passed-preserved c =
    let d = c.args.words.now in
    let ahead : 0 < highest d - c.loop-passed.passed = omega arith in
    let less : highest d - (c.loop-passed.passed + 1) ≡ highest d - c.loop-passed.passed - 1 = omega arith in
    rw less (renews_on (sound _ _ c.requires.0) c.args.list.now ahead c.loop-passed.invariant c.pack_segment-place.ensures)

pub returns : goal.returns
returns c =
    let over : highest c.args.words.now - c.loop-passed.passed ≤ 0 = omega arith in
    renewed_all (sound _ _ c.requires.0) c.args.list.now over c.loop-passed.invariant
