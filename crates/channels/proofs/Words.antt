-- A channel word stands for one job and one channel: two requests that pass the test of their channels look for the same open file only
-- where they say the same job and the same channel. So to name the same channel word, as demand 3 has it, is to name the same channel.
-- The limit is at most 255, so that the channel is the word's low byte and the job its high one.
use Prim.Native.Nat.{ℕ}
use native.Mathlib.Omega.{arith}
use mathlib.Core.Path.{◌≡◌}
use mathlib.Core.Bool.{true}
use Rattle.meaning.specs.Requests.{good_channel, word_of}
use Rattle.channels.proofs.Tested.{channel-fits}

pub one-channel : (job channel job' channel' : ℕ) → good_channel job channel ≡ true → good_channel job' channel' ≡ true
    → word_of job channel ≡ word_of job' channel' → (job ≡ job') × (channel ≡ channel')
one-channel job channel job' channel' g g' e =
    let p = channel-fits job channel g in
    let q = channel-fits job' channel' g' in
    let j : job ≡ job' = omega (arith, e, p.0, p.1, q.0, q.1) in
    (j, omega (arith, e, j))
