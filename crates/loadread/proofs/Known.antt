-- What each turn of the two passes knows. In the checking pass the answer of what is left is that of the whole stream. In the storing pass that
-- answer is a success, so that the next part is known by its header and its data have their place; and what storing the rest leaves is what storing
-- all does.
use Prim.Native.Nat.{ℕ, ◌+◌, ◌*◌, ◌-◌, ◌≤◌}
use native.Mathlib.Omega.{arith}
use mathlib.Core.Path.{◌≡◌, refl, sym, ap, ◌∙◌}
use mathlib.Core.Bool.{Bool, true, false, cond}
use mathlib.Core.List.{List, [], ◌∷◌}
use borrow.Author.Tests.{eq-eqb, ne_eqb}
use lib.ListN.{length, get_or, take, drop}
use Rattle.loads.specs.Memory.{limit, puts}
use Rattle.loads.specs.Blocks.{address_of, data_count, data_of, is_end_block, right_block, block_by, part_of}
use Rattle.loads.specs.Reading.{goes_on, rest_of, answer_of, stored_by, read_from, fill_from, load_answer, load_memory}
use Rattle.loads.specs.declared.Loaded.{Loaded}
use Rattle.loads.specs.declared.Part.{Part}
use Rattle.loads.specs.declared.Part.TheVariants.{Gap, Block, End}
use Rattle.loads.proofs.Bytes.{decide, limit-within}
use Rattle.loads.proofs.Laws.{stored-long}
use Rattle.loads.proofs.Parts.{Right, right, part_gap, part_block}
use Rattle.loads.proofs.Streams.{rest-is, reads_on, reads-last, fills-on, fills-last, passes_here, accepted-long, accepted-right}
use Rattle.loadread.specs.Heads.{head_part, HasHead, Storable}

-- a part by its header
pub head_gap : (s : List ℕ) → 1 ≤ length s → get_or s 0 0 ≡ 0 → head_part s ≡ Gap
unfolding head_part
head_gap [] h e = absurd (omega arith)
head_gap (b ∷ s) h e = rw (eq-eqb b 0 e)

pub head_block : (s : List ℕ) → 1 ≤ length s → (get_or s 0 0 ≡ 0 → ⊥) → head_part s ≡ right_block s
unfolding head_part
head_block [] h e = absurd (omega arith)
head_block (b ∷ s) h e = rw (ne_eqb b 0 e)

-- the checking pass, where r is left of the stream s: the part that r begins with, and the answer of r
pub record Checking (l : ℕ) (s : List ℕ) (p : Part) (r : List ℕ) : Type 0 where
  pub part : p ≡ part_of l r
  pub left : read_from l 0 r ≡ read_from l 0 s

pub check_begins : (l : ℕ) (s : List ℕ) (p : Part) → p ≡ part_of l s → Checking l s p s
check_begins l s p e = record { part = e; left = refl }

-- a part that goes on ends inside the stream
pub check_passes : {l : ℕ} {s : List ℕ} {p : Part} {r : List ℕ} → Checking l s p r → goes_on p ≡ true → rest_of p + 1 ≤ length r
check_passes {l} {s} {p} {r} c h = passes_here l r p c.part h

pub check_goes : {l : ℕ} {s : List ℕ} {p : Part} {r : List ℕ} (n : ℕ) (q : Part) → Checking l s p r → goes_on p ≡ true → n ≡ rest_of p + 1
    → q ≡ part_of l (take (length r - n) (drop n r)) → Checking l s q (take (length r - n) (drop n r))
check_goes {l} {s} {p} {r} n q c h e f =
    let n_is : n ≡ rest_of (part_of l r) + 1 = e ∙ ap (λ (k : Part). rest_of k + 1) c.part in
    let on = reads_on l r (ap goes_on (sym c.part) ∙ h) in
    record { part = f; left = rw (rest-is n r, n_is) (sym on) ∙ c.left }

pub check_ends : {l : ℕ} {s : List ℕ} {p : Part} {r : List ℕ} → Checking l s p r → goes_on p ≡ false → answer_of p ≡ read_from l 0 s
check_ends {l} {s} {p} {r} c h =
    ap answer_of c.part ∙ sym (reads-last l r (ap goes_on (sym c.part) ∙ h)) ∙ c.left

-- a stream that is accepted: its first part by the header, and that part's data
pub known : (l : ℕ) (s : List ℕ) → (read_from l 0 s).number ≡ 0 → part_of l s ≡ head_part s
unfolding block_by
known l s e =
    let n = accepted-long l s e in
    decide (get_or s 0 0) 0
    (λ f. part_gap l s n f ∙ sym (head_gap s n f))
    (λ f. part_block l s n f ∙ rw (accepted-right l s e f) (sym (head_block s n f)))

pub has_head : (l : ℕ) (s : List ℕ) → (read_from l 0 s).number ≡ 0 → HasHead s
has_head l s e =
    record {
      first = accepted-long l s e;
      header = λ f. let r = right l s (accepted-right l s e f) in (omega (arith, r.whole, r.counted), r.counted);
    }

block_storable : (l : ℕ) (s m : List ℕ) (t : Bool) → is_end_block s ≡ t → Right l s → l ≤ 2 * length m
    → Storable (cond t (End (address_of s)) (Block (address_of s) (data_count s))) s m
unfolding data_count
block_storable l s m true e r h = omega arith
block_storable l s m false e r h = (refl, omega (arith, r.whole, r.counted), omega (arith, r.inside e))

storable : (l : ℕ) (s m : List ℕ) → (read_from l 0 s).number ≡ 0 → l ≤ 2 * length m → Storable (head_part s) s m
unfolding right_block
storable l s m e h =
    let n = accepted-long l s e in
    decide (get_or s 0 0) 0
    (λ f. rw (head_gap s n f) (omega arith))
    (λ f. rw (head_block s n f) (block_storable l s m (is_end_block s) refl (right l s (accepted-right l s e f)) h))

-- the storing pass, where r is left of the stream s
pub record Storing (s m₀ m : List ℕ) (p : Part) (r : List ℕ) : Type 0 where
  pub accepted : (read_from (limit m₀) 0 r).number ≡ 0
  pub part : p ≡ head_part r
  pub left : fill_from (limit m₀) 0 r m ≡ fill_from (limit m₀) 0 s m₀
  pub long : length m ≡ length m₀

pub store_begins : (s m : List ℕ) (p : Part) → (load_answer s m).number ≡ 0 → p ≡ head_part s → Storing s m m p s
unfolding load_answer
store_begins s m p a e = record { accepted = a; part = e; left = refl; long = refl }

part_known : {s m₀ m : List ℕ} {p : Part} {r : List ℕ} → Storing s m₀ m p r → p ≡ part_of (limit m₀) r
part_known {s} {m₀} {m} {p} {r} c = c.part ∙ sym (known (limit m₀) r c.accepted)

pub store_has : {s m₀ m : List ℕ} {p : Part} {r : List ℕ} → Storing s m₀ m p r → Storable p r m
store_has {s} {m₀} {m} {p} {r} c =
    rw c.part (storable (limit m₀) r m c.accepted (omega (arith, limit-within m₀, c.long)))

pub store_passes : {s m₀ m : List ℕ} {p : Part} {r : List ℕ} → Storing s m₀ m p r → goes_on p ≡ true → rest_of p + 1 ≤ length r
store_passes {s} {m₀} {m} {p} {r} c h = passes_here (limit m₀) r p (part_known c) h

-- what is left behind a part is accepted too
store_accepted : {s m₀ m : List ℕ} {p : Part} {r : List ℕ} (n : ℕ) → Storing s m₀ m p r → goes_on p ≡ true → n ≡ rest_of p + 1
    → (read_from (limit m₀) 0 (take (length r - n) (drop n r))).number ≡ 0
store_accepted {s} {m₀} {m} {p} {r} n c h e =
    let n_is : n ≡ rest_of (part_of (limit m₀) r) + 1 = e ∙ ap (λ (k : Part). rest_of k + 1) (part_known c) in
    let on = reads_on (limit m₀) r (ap goes_on (sym (part_known c)) ∙ h) in
    rw (rest-is n r, n_is, ← on) c.accepted

pub store_head : {s m₀ m : List ℕ} {p : Part} {r : List ℕ} (n : ℕ) → Storing s m₀ m p r → goes_on p ≡ true → n ≡ rest_of p + 1
    → HasHead (take (length r - n) (drop n r))
store_head {s} {m₀} {m} {p} {r} n c h e = has_head (limit m₀) _ (store_accepted n c h e)

pub store_goes : {s m₀ m : List ℕ} {p : Part} {r : List ℕ} (n : ℕ) (q : Part) (m' : List ℕ) → Storing s m₀ m p r → goes_on p ≡ true
    → n ≡ rest_of p + 1 → m' ≡ stored_by p r m → q ≡ head_part (take (length r - n) (drop n r))
    → Storing s m₀ m' q (take (length r - n) (drop n r))
store_goes {s} {m₀} {m} {p} {r} n q m' c h e f g =
    let n_is : n ≡ rest_of (part_of (limit m₀) r) + 1 = e ∙ ap (λ (k : Part). rest_of k + 1) (part_known c) in
    let on = fills-on (limit m₀) r m (ap goes_on (sym (part_known c)) ∙ h) in
    let w : m' ≡ stored_by (part_of (limit m₀) r) r m = f ∙ ap (λ (k : Part). stored_by k r m) (part_known c) in
    record {
      accepted = store_accepted n c h e;
      part = g;
      left = rw (rest-is n r, n_is, w) (sym on ∙ c.left);
      long = ap length f ∙ stored-long p r m ∙ c.long;
    }

pub store_ends : {s m₀ m : List ℕ} {p : Part} {r : List ℕ} → Storing s m₀ m p r → goes_on p ≡ false → m ≡ fill_from (limit m₀) 0 s m₀
store_ends {s} {m₀} {m} {p} {r} c h =
    sym (fills-last (limit m₀) r m (ap goes_on (sym (part_known c)) ∙ h)) ∙ c.left

-- the whole: refused, or stored
pub load_answers : (s m : List ℕ) (a : Loaded) (l : ℕ) → l ≡ limit m → a ≡ read_from l 0 s → a ≡ load_answer s m
unfolding load_answer
load_answers s m a l f e = e ∙ rw f

pub load_refused : (s m : List ℕ) → ((load_answer s m).number ≡ 0 → ⊥) → m ≡ load_memory s m
unfolding load_memory
load_refused s m h = rw (ne_eqb _ 0 h)

pub load_stored : (s m m' : List ℕ) → (load_answer s m).number ≡ 0 → m' ≡ fill_from (limit m) 0 s m → m' ≡ load_memory s m
unfolding load_memory
load_stored s m m' h f = rw (eq-eqb _ 0 h) f

-- a block's data, as they are lent on
pub block_has : (p : Part) (a n : ℕ) (s m : List ℕ) → p ≡ Block a n → Storable p s m
    → (n ≡ data_count s) × (n + 6 ≤ length s) × (a + n ≤ 2 * length m)
block_has p a n s m e h = rw e at h

data_is : (n : ℕ) (s : List ℕ) → n ≡ data_count s → take (6 + n - 6) (drop 6 s) ≡ data_of s
unfolding data_of
data_is n s e =
    let k : 6 + n - 6 ≡ data_count s = omega arith in
    rw k

pub block_stored : (p : Part) (a n : ℕ) (s m m' : List ℕ) → p ≡ Block a n → Storable p s m
    → m' ≡ puts a (take (6 + n - 6) (drop 6 s)) m → m' ≡ stored_by p s m
block_stored p a n s m m' e h f =
    f ∙ rw (e, data_is n s (block_has p a n s m e h).0)
