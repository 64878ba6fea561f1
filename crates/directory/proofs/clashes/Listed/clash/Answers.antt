-- `clash` meets its contract: an entry whose key is met among those before it clashes with one of them, and any other goes into its bucket.
use native.Mathlib.Omega.{arith}
use Prim.Native.Nat.{ℕ}
use lib.ListN.{length-replicate, get_or-replicate}
use Rattle.directory.proofs.Buckets.{table-start, table-first, table-found, table_more, entry-keyed}
use Rattle.directory.proofs.clashes.Listed.clash.Goals as goal

pub loop-passed-init : goal.loop-passed-init
loop-passed-init c =
    table-start (length-replicate {A = ℕ} 8192 0) (length-replicate {A = ℕ} 2233 0)
    (λ b s. get_or-replicate {A = ℕ} 8192 b 0 0 s)

pub key_of-key-requires : goal.key_of-key-requires
key_of-key-requires c = rw c.entry.ensures (entry-keyed c.args.self.now.keyed (omega arith) (omega arith))

pub overflow_cast-first : goal.overflow_cast-first
overflow_cast-first c = omega (arith, (table-first c.loop-passed.invariant c.bucket_of-bucket.ensures).1)

pub returns-then-met : goal.returns-then-met
returns-then-met c =
    table-found c.args.self.now.keyed c.loop-passed.passed c.loop-passed-test.true
    (rw c.entry.ensures at c.key_of-key.ensures) c.met.ensures c.if-met.true

pub loop-passed-preserved : goal.loop-passed-preserved
loop-passed-preserved c =
    table_more c.args.self.now.keyed c.loop-passed.passed c.loop-passed-test.true
    (rw c.entry.ensures at c.key_of-key.ensures) c.loop-passed.invariant c.bucket_of-bucket.ensures c.met.ensures c.if-met.false
