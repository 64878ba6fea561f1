-- A request whose fields are those of a record is the record's request.
use Rattle.std.proofs.Common.{◌≡◌, ℕ, ◌+◌, List, ℤ}
use Rattle.meaning.specs.declared.Name.{Name}
use Rattle.meaning.specs.declared.Op.{Op}
use Rattle.meaning.specs.declared.Request.{Request}
use Rattle.meaning.specs.Listing.{word_at}
use Rattle.cases.specs.Records.{signed_at, name_at, op_of, request_at}

pub fields : (bs : List ℕ) (k : ℕ) (op : Op) (name new : Name) (job channel : ℕ) (size final : ℤ) (date : ℕ)
    → op ≡ op_of (word_at bs k) → name ≡ name_at bs (k + 2) → new ≡ name_at bs (k + 8)
    → job ≡ word_at bs (k + 14) → channel ≡ word_at bs (k + 16)
    → size ≡ signed_at bs (k + 18) → final ≡ signed_at bs (k + 22) → date ≡ word_at bs (k + 26)
    → ◌≡◌ {A = Request}
    (record { op = op; name = name; new_name = new; job = job; channel = channel; size = size; final_length = final; date = date })
    (request_at bs k)
unfolding request_at
fields bs k op name new job channel size final date o n m j c s f d = rw (o, n, m, j, c, s, f, d)
