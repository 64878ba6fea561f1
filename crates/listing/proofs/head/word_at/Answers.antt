-- `word_at` meets its contract: two bytes make a word, which is up to 65,535.
use native.Mathlib.Omega.{arith}
use borrow.Author.Rules.{rules}
use Rattle.meaning.specs.Listing.{word_at}
use Rattle.listing.proofs.head.word_at.Goals as goal

pub returns : goal.returns
unfolding word_at
returns c = record { is = search rules; small = omega arith }
