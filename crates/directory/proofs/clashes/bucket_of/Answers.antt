-- `bucket_of` meets its contract: an arm for each key, with the words of that key. Assumes nothing.
use Rattle.directory.specs.Buckets.{bucket_of}
use Rattle.directory.proofs.clashes.bucket_of.Goals as goal

pub returns-in-File : goal.returns-in-File
unfolding bucket_of
returns-in-File c = (rw c.in-File.is c.hash.ensures.0, c.hash.ensures.1)

pub returns-in-Open : goal.returns-in-Open
unfolding bucket_of
returns-in-Open c = (rw c.in-Open.is c.hash-in-Open.ensures.0, c.hash-in-Open.ensures.1)
