-- What follows for the reader of pieces. Calls of `feed` leave the memory's length, so that each has the same limit, and what they promise adds up to
-- the run over all bytes of the pieces, empty ones too. That run is told part by part (Whole), and the report's numbers and stores are those of Req 10.
use Prim.Native.Nat.{ℕ, zero, suc, ◌+◌, ◌%◌, ◌≤◌, ◌<◌, min}
use native.Mathlib.Omega.{arith}
use mathlib.Core.Path.{◌≡◌, refl, ap, subst, ◌∙◌}
use mathlib.Core.Bool.{Bool, true, false, cond, true≢false, false≢true}
use mathlib.Core.List.{List, [], ◌∷◌}
use borrow.Author.Tests.{eq-eqb}
use lib.ListN.{length}
use lib.Dec.{eqb}
use Rattle.loads.specs.Memory.{limit, put_byte, puts}
use Rattle.loads.specs.Blocks.{address_of, data_count, is_end_block, block_number, right_block, block_by, part_of}
use Rattle.loads.specs.Reading.{goes_on, rest_of, answer_of, stored_by, read_from, fill_from, load_answer, load_memory}
use Rattle.loads.specs.declared.Loaded.{Loaded}
use Rattle.loads.specs.declared.Part.{Part}
use Rattle.loads.specs.declared.Part.TheVariants as parts
use Rattle.loads.proofs.Bytes.{length-put}
use Rattle.loadsteps.specs.Step.{capped, up, due, role_of, is_data, data_place, passed_by, decided, kept_by, moved, next}
use Rattle.loadsteps.specs.Run.{begin, read, fill, whole_input, ended, answer_by, answer_now}
use Rattle.loadsteps.specs.Whole.{held_of, final_of, report_from, stored_from, report, loaded_of, in_counters}
use Rattle.loadsteps.specs.Laws.{PieceLaws, FinalLaws, FedAll, none, more}
use Rattle.loadsteps.specs.declared.Role.{Role}
use Rattle.loadsteps.specs.declared.Role.TheVariants as roles
use Rattle.loadsteps.specs.declared.Reader.{Reader}
use Rattle.loadsteps.specs.declared.Answer.{Answer}
use Rattle.loadsteps.specs.declared.Answer.TheVariants.{Provisional, Accepted, Refused}
use Rattle.loadsteps.specs.declared.Phase.TheVariants.{Start}
use Rattle.loadsteps.proofs.Runs.{at, read_stays, fill_stays, read-append, fill-append}
use Rattle.loadsteps.proofs.Says.{Says}
use Rattle.loadsteps.proofs.Whole.{told}

-- the report beside Req 10's reading: the number
number_by : (p : Part) (s : List ℕ) (t o : ℕ) (a : Answer) (r : Loaded) → loaded_of a ≡ r
    → loaded_of (cond (goes_on p) a (final_of p s t o)) ≡ cond (goes_on p) r (answer_of p)
number_by parts.Gap s t o a r e = e
number_by (parts.Block x n) s t o a r e = e
number_by (parts.End x) s t o a r e = refl
number_by (parts.Refused k) s t o a r e = refl

report-number : (l k t o : ℕ) (s : List ℕ) → loaded_of (report_from l k t o s) ≡ read_from l k s
unfolding report_from read_from
report-number l k t o [] = refl
report-number l (suc k) t o (b ∷ s) = report-number l k t (o + 1) s
report-number l zero t o (b ∷ s) =
    let p = part_of l (b ∷ s) in
    let held = t + length (held_of p (b ∷ s)) in
    number_by p (b ∷ s) held o _ _ (report-number l (rest_of p) held (o + 1) s)

-- and the stores of what is accepted
abbrev part_by : Bool → Bool → Bool → ℕ → ℕ → ℕ → Part
part_by x y z a n k = cond x parts.Gap (cond y (cond z (parts.End a) (parts.Block a n)) (parts.Refused k))

same_by : (x y z : Bool) (a n k : ℕ) (s m : List ℕ) → goes_on (part_by x y z a n k) ≡ true
    → puts a (held_of (part_by x y z a n k) s) m ≡ stored_by (part_by x y z a n k) s m
unfolding puts
same_by true y z a n k s m h = refl
same_by false true true a n k s m h = refl
same_by false true false a n k s m h = refl
same_by false false z a n k s m h = absurd (false≢true h)

same_store : (l b : ℕ) (s m : List ℕ) → goes_on (part_of l (b ∷ s)) ≡ true
    → puts (address_of (b ∷ s)) (held_of (part_of l (b ∷ s)) (b ∷ s)) m ≡ stored_by (part_of l (b ∷ s)) (b ∷ s) m
unfolding part_of block_by right_block
same_store l b s m h =
    let w = b ∷ s in
    same_by (eqb b 0) (eqb (block_number l w) 0) (is_end_block w) (address_of w) (data_count w) (block_number l w) w m h

-- where a part does not go on, success is the end block's, which stores nothing
last_store : (p : Part) (s m : List ℕ) (a : ℕ) → goes_on p ≡ false → (answer_of p).number ≡ 0 → puts a (held_of p s) m ≡ m
unfolding puts
last_store parts.Gap s m a g e = refl
last_store (parts.Block x n) s m a g e = absurd (true≢false g)
last_store (parts.End x) s m a g e = refl
last_store (parts.Refused k) s m a g e = rw e

same-stores : (l k : ℕ) (s m : List ℕ) → (read_from l k s).number ≡ 0 → stored_from l k s m ≡ fill_from l k s m
unfolding stored_from fill_from read_from
same-stores l k [] m e = refl
same-stores l (suc k) (b ∷ s) m e = same-stores l k s m e
same-stores l zero (b ∷ s) m e =
    let p = part_of l (b ∷ s) in
    let kept = puts (address_of (b ∷ s)) (held_of p (b ∷ s)) m in
    (elim (goes_on p) as (λ g. goes_on p ≡ g → (cond g (read_from l (rest_of p) s) (answer_of p)).number ≡ 0
    → cond g (stored_from l (rest_of p) s kept) kept ≡ cond g (fill_from l (rest_of p) s (stored_by p (b ∷ s) m)) m) [
      | true ↦ λ g h. same-stores l (rest_of p) s kept h ∙ ap (fill_from l (rest_of p) s) (same_store l b s m g)
      | false ↦ λ g h. last_store p (b ∷ s) m (address_of (b ∷ s)) g h
    ])
    refl e

-- the first state
first : begin ≡ at Start 0 0 0
unfolding begin at capped
first = refl

all_told : (l : ℕ) (s m : List ℕ) → Says l begin s m (report l s) (stored_from l 0 s m)
unfolding report
all_told l s m = rw first (told l 0 0 s m)

same_loaded : (a : Answer) → loaded_of (in_counters a) ≡ loaded_of a
same_loaded Provisional = refl
same_loaded (Accepted t) = refl
same_loaded (Refused k t o) = refl

-- no byte adds more than 1 to a counter
up_one : (t : ℕ) (x : Bool) → up (cond x 1 0) t ≤ t + 1
unfolding up capped
up_one t true = omega arith
up_one t false = omega arith

up-passed : (k : Role) (t : ℕ) → up (passed_by k) t ≤ t + 1
unfolding up capped
up-passed roles.Passing t = omega arith
up-passed (roles.Storing a n) t = omega arith
up-passed (roles.Accepted a) t = omega arith
up-passed (roles.Refused k) t = omega arith

-- the reader's two counters
pub record Counts (r : Reader) (t o : ℕ) : Type 0 where
  pub stored : r.stored ≤ t
  pub passed : r.offset ≤ o

counts_either : (d : Bool) (x y : Reader) (t o : ℕ) → Counts x t o → Counts y t o → Counts (cond d x y) t o
counts_either true x y t o f g = f
counts_either false x y t o f g = g

next-counts : (l : ℕ) (r : Reader) (b : ℕ) → Counts (next l r b) (r.stored + 1) (r.offset + 1)
unfolding next moved
next-counts l r b =
    let s = (r.sum + b) % 256 in
    let p = due l r.phase s b in
    counts_either (decided r) r (moved l r p s) (r.stored + 1) (r.offset + 1)
    (record { stored = omega arith; passed = omega arith })
    (record { stored = up_one r.stored (is_data l (role_of r.phase)); passed = up-passed (role_of p) r.offset })

read-counts : (l : ℕ) (r : Reader) (s : List ℕ) → Counts (read l r s) (r.stored + length s) (r.offset + length s)
unfolding read
read-counts l r [] = record { stored = omega arith; passed = omega arith }
read-counts l r (b ∷ s) =
    let n = next-counts l r b in
    let k = read-counts l (next l r b) s in
    record { stored = omega (arith, n.stored, k.stored); passed = omega (arith, n.passed, k.passed) }

ended-counts : (r : Reader) (t o : ℕ) → Counts r t o → Counts (ended r) t o
unfolding ended
ended-counts r t o h = counts_either (decided r) r _ t o h (record { stored = h.stored; passed = h.passed })

-- and what an answer shows of them
Below : ℕ → Answer → Type 0
Below n Provisional = 0 ≤ n
Below n (Accepted a) = 0 ≤ n
Below n (Refused k t o) = (t ≤ n) × (o ≤ n)

below_by : (k : Role) (t o n : ℕ) → t ≤ n → o ≤ n → Below n (answer_by k t o)
unfolding Below
below_by roles.Passing t o n h j = omega arith
below_by (roles.Storing a x) t o n h j = omega arith
below_by (roles.Accepted a) t o n h j = omega arith
below_by (roles.Refused k) t o n h j = (h, j)

exact_by : (a : Answer) (n : ℕ) → n < 18446744073709551615 → Below n (in_counters a) → in_counters a ≡ a
unfolding Below capped
exact_by Provisional n h b = refl
exact_by (Accepted x) n h b = refl
exact_by (Refused k t o) n h b =
    let x = b.0 in
    let y = b.1 in
    let e : min t 18446744073709551615 ≡ t = omega arith in
    let f : min o 18446744073709551615 ≡ o = omega arith in
    rw (e, f)

report-exact : (l : ℕ) (s m : List ℕ) → length s < 18446744073709551615 → in_counters (report l s) ≡ report l s
unfolding answer_now begin
report-exact l s m h =
    let r = ended (read l begin s) in
    let c = ended-counts (read l begin s) (0 + length s) (0 + length s) (read-counts l begin s) in
    let x = c.stored in
    let y = c.passed in
    let b : Below (length s) (answer_now r) = below_by (role_of r.phase) r.stored r.offset (length s) (omega arith) (omega arith) in
    exact_by (report l s) (length s) h (subst (Below (length s)) (all_told l s m).final b)

-- a reader that is decided
ended_decides : (r : Reader) → decided (ended r) ≡ true
unfolding ended
ended_decides r =
    (elim (decided r) as (λ t. decided r ≡ t → decided (ended r) ≡ true) [
      | true ↦ λ e. rw (e, e)
      | false ↦ λ e. rw e
    ])
    refl

ended_stays : (r : Reader) → decided r ≡ true → ended r ≡ r
unfolding ended
ended_stays r h = rw h

pub final_laws : (l : ℕ) (r : Reader) (p m : List ℕ) → FinalLaws l r p m
final_laws l r p m =
    let d = ended_decides r in
    record {
      later = λ h. (read_stays l r p h, fill_stays l r p m h);
      stays = ended_stays r;
      twice = ended_stays (ended r) d;
      closed = (read_stays l (ended r) p d, fill_stays l (ended r) p m d);
    }

-- the calls
length-kept : (l : ℕ) (k : Role) (b : ℕ) (m : List ℕ) → length (kept_by l k b m) ≡ length m
unfolding kept_by
length-kept l k b m = by_test (is_data l k)
  where
    by_test : (t : Bool) → length (cond t (put_byte (data_place k) b m) m) ≡ length m
    by_test true = length-put m (data_place k) b
    by_test false = refl

length-fill : (l : ℕ) (r : Reader) (bs m : List ℕ) → length (fill l r bs m) ≡ length m
unfolding fill
length-fill l r [] m = refl
length-fill l r (b ∷ bs) m =
    length-fill l (next l r b) bs (kept_by l (role_of r.phase) b m) ∙ length-kept l (role_of r.phase) b m

same-limit : (m m' : List ℕ) → length m' ≡ length m → limit m' ≡ limit m
unfolding limit
same-limit m m' e = rw e

fed_all : {r : Reader} {m : List ℕ} {ps : List (List ℕ)} {r' : Reader} {m' : List ℕ} → FedAll r m ps r' m'
    → (r' ≡ read (limit m) r (whole_input ps)) × (m' ≡ fill (limit m) r (whole_input ps) m)
unfolding whole_input read fill
fed_all none = (refl, refl)
fed_all {r} {m} (more p {ps} x y e f g) =
    let k : limit y ≡ limit m = same-limit m y (ap length f ∙ length-fill (limit m) r p m) in
    let s = whole_input ps in
    let u = fed_all g in (
      rw (read-append (limit m) r p s, ← e, ← k) u.0,
      rw (fill-append (limit m) r p s m, ← e, ← f, ← k) u.1,
    )

pub piece_laws : {m : List ℕ} {ps : List (List ℕ)} {r : Reader} {m' : List ℕ} → FedAll begin m ps r m' → PieceLaws ps m r m'
unfolding load_answer load_memory report
piece_laws {m} {ps} {r} {m'} h =
    let l = limit m in
    let s = whole_input ps in
    let e = fed_all h in
    let w = all_told l s m in
    let n : loaded_of (report l s) ≡ load_answer s m = report-number l 0 0 0 s in
    let f = ap (λ (x : Reader). answer_now (ended x)) e.0 ∙ w.final in
    let k = e.1 ∙ w.memory in
    record {
      number = ap loaded_of f ∙ same_loaded (report l s) ∙ n;
      success = λ z. k ∙ same-stores l 0 s m z ∙ rw (eq-eqb (read_from l 0 s).number 0 z);
      final = f;
      before_end = ap answer_now e.0 ∙ w.before_end;
      stores = k;
      exact = report-exact l s m;
    }
