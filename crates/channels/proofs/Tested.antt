-- The requests on a channel by the tests that led to an answer: each is one way through the meaning's refusals, on a sound directory. A
-- channel that passes its test makes a channel word that fits a word.
use Prim.Native.Nat.{ℕ, ◌≤◌}
use native.Mathlib.Omega.{arith}
use mathlib.Core.Path.{◌≡◌, ap}
use mathlib.Core.Bool.{true, false, ◌||◌}
use mathlib.Core.Logic.{⊎_elim}
use mathlib.Core.List.{List}
use lib.IntN.{ℤ}
use lib.Dec.{eqb, leb}
use borrow.Author.Tests.{eqb-true, leb-true}
use Rattle.bools.proofs.Bools.{both, either}
use Rattle.meaning.specs.declared.Key.TheVariants.{Open}
use Rattle.meaning.specs.Kinds.{empty_status}
use Rattle.meaning.specs.Words.{rows}
use Rattle.meaning.specs.Keys.{holds}
use Rattle.meaning.specs.Sound.{fault}
use Rattle.meaning.specs.Answers.{refuse, find, open_on}
use Rattle.meaning.specs.Requests.{restating, emptying, channel_limit, good_channel, word_of, abandon, close}
use Rattle.segment.specs.declared.finder.Place.{Place}
use Rattle.std.proofs.Common.{Some, None}
use Rattle.segment.specs.Finder.{found_of}
use Rattle.find.specs.Find.{restated}
use Rattle.find.proofs.Behind.{open_found, open_none}
use Rattle.channels.specs.Closing.{final_by, closed_on}
use Rattle.channels.proofs.Finals.{closed-length, closed_wrong}

-- a channel is a byte of the channel word
limit-fits : channel_limit ≤ 255
unfolding channel_limit
limit-fits = omega arith

pub channel-fits : (job channel : ℕ) → good_channel job channel ≡ true → (job ≤ 2) × (channel ≤ 255)
unfolding good_channel
channel-fits job channel h =
    let p = both (eqb job 0 || eqb job 2) (leb channel channel_limit) h in (
      ⊎_elim (λ e. omega (arith, eqb-true job 0 e)) (λ e. omega (arith, eqb-true job 2 e)) (either (eqb job 0) (eqb job 2) p.0),
      omega (arith, leb-true channel channel_limit p.1, limit-fits),
    )

module _ (v : ℕ) (d : List ℕ) (h : fault v d ≡ 0) (job channel : ℕ) where
  pub abandon-bad : good_channel job channel ≡ false → abandon v d job channel ≡ refuse 8 d
  unfolding abandon
  abandon-bad g = rw (h, g)

  pub abandon-good : good_channel job channel ≡ true → abandon v d job channel ≡ restated d (Open (word_of job channel)) 15 empty_status
  unfolding abandon restated open_on emptying restating
  abandon-good g = rw (h, g)

  pub close-bad : (final : ℤ) → good_channel job channel ≡ false → close v d job channel final ≡ refuse 8 d
  unfolding close
  close-bad final g = rw (h, g)

  pub close-none : (final : ℤ) → good_channel job channel ≡ true → found_of (find (holds (Open (word_of job channel))) (rows d)) ≡ None
      → close v d job channel final ≡ refuse 15 d
  unfolding close
  close-none final g e = rw (h, g, open_none d (word_of job channel) e)

  module _ (final : ℤ) (p : Place) (g : good_channel job channel ≡ true)
      (e : found_of (find (holds (Open (word_of job channel))) (rows d)) ≡ Some p) where
    pub close_wrong : final_by final p.length ≡ None → close v d job channel final ≡ refuse 16 d
    unfolding close
    close_wrong f =
        let b = open_found d (word_of job channel) p e in
        rw (h, g, b.is, closed_wrong d b.row final _ (ap (λ (q : Place). q.length) b.place) f)

    pub close-length : (n : ℕ) → final_by final p.length ≡ Some n
        → close v d job channel final ≡ closed_on d (word_of job channel) n
    unfolding close closed_on
    close-length n f =
        let b = open_found d (word_of job channel) p e in
        rw (h, g, b.is, closed-length d b.row final _ n (ap (λ (q : Place). q.length) b.place) f)
