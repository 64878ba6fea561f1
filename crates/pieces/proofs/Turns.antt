-- The turns of the reader's loop. A turn takes the first byte, or all data bytes that the piece has of a block; what is left of the piece makes of
-- the reader and the memory of now what all of it makes of those at the start. At the end nothing is left, or the reader is decided and what is left
-- changes nothing.
use Prim.Native.Nat.{ℕ, suc, ◌+◌, ◌*◌, ◌-◌, ◌≤◌, ◌<◌}
use native.Mathlib.Omega.{arith}
use mathlib.Core.Path.{◌≡◌, refl, sym, ap, ◌∙◌}
use mathlib.Core.Bool.{Bool, true, false, false≢true}
use mathlib.Core.List.{List, [], ◌∷◌, append-nil}
use borrow.Author.Tests.{lt-ltb, le-ltb, eq-eqb, ne_eqb}
use lib.ListN.{length, get_or, take, drop, take-append-drop}
use lib.Seq.{length-take-le}
use lib.Dec.{eqb}
use Rattle.loads.specs.Memory.{limit, put_byte, puts}
use Rattle.loads.specs.Blocks.{byte_sum}
use Rattle.loads.proofs.Bytes.{decide}
use Rattle.loads.proofs.Streams.{rest-is}
use Rattle.loadsteps.specs.Step.{up, after_data, role_of, is_data, data_place, decided, kept_by, next}
use Rattle.loadsteps.specs.Run.{read, fill}
use Rattle.pieces.specs.Turns.{run_length, behind, Ready, PassedOver, Took}
use Rattle.loadsteps.specs.declared.Phase.{Phase}
use Rattle.loadsteps.specs.declared.Phase.TheVariants.{Start, Zero, CountLow, CountHigh, AddressLow, AddressHigh, Data, EndSum, Accepted, Refused}
use Rattle.loadsteps.specs.declared.Role.{Role}
use Rattle.loadsteps.specs.declared.Role.TheVariants.{Passing, Storing}
use Rattle.loadsteps.specs.declared.Role.TheVariants as roles
use Rattle.loadsteps.specs.declared.Reader.{Reader}
use Rattle.loadsteps.proofs.Runs.{at, next-from, goes_run, read-append, fill-append, read_stays, fill_stays}

-- one byte that is no data
one_by : (l : ℕ) (r : Reader) (s m : List ℕ) → 0 < length s → is_data l (role_of r.phase) ≡ false
    → (read l r (take 1 s) ≡ next l r (get_or s 0 0)) × (fill l r (take 1 s) m ≡ m)
unfolding read fill kept_by
one_by l r [] m h d = absurd (omega arith)
one_by l r (b ∷ s) m h d = (refl, rw d)

pub one_passed : {l : ℕ} {r : Reader} {s : List ℕ} (n : ℕ) (r' : Reader) → 0 < length s → is_data l (role_of r.phase) ≡ false → n ≡ 1
    → r' ≡ next l r (get_or s 0 0) → PassedOver l r s n r'
one_passed {l} {r} {s} n r' k d e f =
    record {
      some = omega arith;
      within = omega arith;
      state = rw e (f ∙ sym (one_by l r s [] k d).0);
      memory = λ m. rw e (one_by l r s m k d).1;
    }

pub passed_took : {l : ℕ} {r : Reader} {s m : List ℕ} {n : ℕ} {r' : Reader} → PassedOver l r s n r' → Took l r s m n r' m
passed_took {l} {r} {s} {m} p = record { some = p.some; within = p.within; state = p.state; memory = sym (p.memory m) }

pub one_took : {l : ℕ} {r : Reader} {s m : List ℕ} (n : ℕ) (r' : Reader) → Ready l r s m → is_data l (role_of r.phase) ≡ false → n ≡ 1
    → r' ≡ next l r (get_or s 0 0) → Took l r s m n r' m
one_took n r' h d e f = passed_took (one_passed n r' h.some d e f)

-- data bytes in a row
run-from : (l : ℕ) (r : Reader) (a n b : ℕ) (ds m : List ℕ) → r.phase ≡ Data a n → suc (length ds) ≤ n → a + suc (length ds) ≤ l
    → (read l r (b ∷ ds) ≡ behind r a n (b ∷ ds)) × (fill l r (b ∷ ds) m ≡ puts a (b ∷ ds) m)
unfolding read fill kept_by after_data behind byte_sum puts at up
run-from l r a n b ds m e h k =
    let i : eqb n 0 ≡ false = ne_eqb n 0 (λ f. omega arith) in
    let j = lt-ltb a l (omega arith) in
    let f : next l r b ≡ at (Data (a + 1) (n - 1)) (r.sum + b) (r.stored + 1) (r.offset + 1) = next-from l r b (rw e) ∙ rw (e, i, j) in
    let g = goes_run l (a + 1) (n - 1) (r.sum + b) (r.stored + 1) (r.offset + 1) ds [] (put_byte a b m) (omega arith) (omega arith) in
    let p : a + 1 + length ds ≡ a + length (b ∷ ds) = omega arith in
    let q : n - 1 - length ds ≡ n - length (b ∷ ds) = omega arith in
    let u : r.sum + b + byte_sum ds ≡ r.sum + (b + byte_sum ds) = omega arith in
    let v : r.stored + 1 + length ds ≡ r.stored + length (b ∷ ds) = omega arith in
    let w : r.offset + 1 + length ds ≡ r.offset + length (b ∷ ds) = omega arith in
    let x = (rw (append-nil ds) at g).reads in
    let y = (rw (append-nil ds) at g).fills in
    (rw (f, ← p, ← q, ← u, ← v, ← w) x, rw (f, e, i, j) y)

run-some : (l : ℕ) (r : Reader) (a n : ℕ) (ds m : List ℕ) → r.phase ≡ Data a n → 0 < length ds → length ds ≤ n → a + length ds ≤ l
    → (read l r ds ≡ behind r a n ds) × (fill l r ds m ≡ puts a ds m)
run-some l r a n [] m e z h k = absurd (omega arith)
run-some l r a n (b ∷ ds) m e z h k = run-from l r a n b ds m e h k

pub positive : {n : ℕ} → (n ≡ 0 → ⊥) → 0 < n
positive {n} h = omega arith

-- what a run's length tells
pub run_fits : (l a n k : ℕ) → 0 < run_length l a n k → (run_length l a n k ≤ k) × (run_length l a n k ≤ n) × (a + run_length l a n k ≤ l)
unfolding run_length
run_fits l a n k h = (omega arith, omega arith, omega arith)

pub run_took : {l : ℕ} {r : Reader} {s m : List ℕ} (a n k : ℕ) (r' : Reader) (m' : List ℕ) → r.phase ≡ Data a n → k ≡ run_length l a n (length s) → 0 < k
    → r' ≡ behind r a n (take (k - 0) s) → m' ≡ puts a (take (k - 0) s) m → Took l r s m k r' m'
run_took {l} {r} {s} {m} a n k r' m' e f h g i =
    let fits = run_fits l a n (length s) (rw (← f) h) in
    let z = length-take-le k s (omega (arith, f, fits.0)) in
    let run = run-some l r a n (take k s) m e (omega (arith, z)) (omega (arith, z, f, fits.1)) (omega (arith, z, f, fits.2)) in
    let w : k - 0 ≡ k = omega arith in
    record { some = h; within = omega (arith, f, fits.0); state = rw w at g ∙ sym run.0; memory = rw w at i ∙ sym run.1 }

-- the bytes of a run as they are lent on
pub run_long : (l a n k : ℕ) (s : List ℕ) → k ≡ run_length l a n (length s) → 0 < k → length (take (k - 0) s) ≡ k
run_long l a n k s e h =
    let z : k - 0 ≡ k = omega arith in
    rw z (length-take-le k s (omega (arith, e, (run_fits l a n (length s) (rw (← e) h)).0)))

-- no run: the next byte is no data, or has no place
pub no_run : (l a n k : ℕ) → 0 < k → run_length l a n k ≡ 0 → is_data l (Storing a n) ≡ false
unfolding run_length
no_run l a n k h e =
    decide n 0 (λ f. rw (eq-eqb n 0 f)) (λ f. rw (ne_eqb n 0 f) (le-ltb a l (omega arith)))

-- only the phase of data stores
is_storing : Role → Bool
is_storing Passing = false
is_storing (Storing a n) = true
is_storing (roles.Accepted t) = false
is_storing (roles.Refused k) = false

due_of : Role → ℕ
due_of Passing = 0
due_of (Storing a n) = n
due_of (roles.Accepted t) = 0
due_of (roles.Refused k) = 0

pub storing : (p : Phase) (a n : ℕ) → role_of p ≡ Storing a n → p ≡ Data a n
unfolding is_storing due_of
storing Start a n e = absurd (false≢true (ap is_storing e))
storing Zero a n e = absurd (false≢true (ap is_storing e))
storing CountLow a n e = absurd (false≢true (ap is_storing e))
storing (CountHigh x) a n e = absurd (false≢true (ap is_storing e))
storing (AddressLow x) a n e = absurd (false≢true (ap is_storing e))
storing (AddressHigh x y) a n e = absurd (false≢true (ap is_storing e))
storing (Data x y) a n e = rw (ap data_place e, ap due_of e)
storing (EndSum x) a n e = absurd (false≢true (ap is_storing e))
storing (Accepted x) a n e = absurd (false≢true (ap is_storing e))
storing (Refused x) a n e = absurd (false≢true (ap is_storing e))

-- the loop, where s is left of the piece p: the reader r and the memory m of now
pub record Feeding (l : ℕ) (r₀ : Reader) (p m₀ : List ℕ) (r : Reader) (m s : List ℕ) : Type 0 where
  pub room : l ≤ 2 * length m
  pub long : length m ≡ length m₀
  pub state : read l r s ≡ read l r₀ p
  pub memory : fill l r s m ≡ fill l r₀ p m₀

pub feed_begins : (l : ℕ) (r : Reader) (p m : List ℕ) → l ≤ 2 * length m → Feeding l r p m r m p
feed_begins l r p m h = record { room = h; long = refl; state = refl; memory = refl }

pub feed_ready : {l : ℕ} {r₀ : Reader} {p m₀ : List ℕ} {r : Reader} {m s : List ℕ} → Feeding l r₀ p m₀ r m s → l ≤ 65536 → 0 < length s
    → decided r ≡ false → Ready l r s m
feed_ready c k h d = record { room = c.room; small = k; some = h; undecided = d }

pub feed_goes : {l : ℕ} {r₀ : Reader} {p m₀ : List ℕ} {r : Reader} {m s : List ℕ} {n : ℕ} {r' : Reader} {m' : List ℕ} → Feeding l r₀ p m₀ r m s
    → Took l r s m n r' m' → length m' ≡ length m → Feeding l r₀ p m₀ r' m' (take (length s - n) (drop n s))
feed_goes {l} {r₀} {p} {m₀} {r} {m} {s} {n} {r'} {m'} c t k =
    let u : r' ≡ read l r (take n s) = t.state in
    let v : m' ≡ fill l r (take n s) m = t.memory in
    let a = read-append l r (take n s) (drop n s) in
    let b = fill-append l r (take n s) (drop n s) m in
    record {
      room = omega (arith, c.room, k);
      long = k ∙ c.long;
      state = rw (rest-is n s, u) (sym (rw (take-append-drop n s) at a)) ∙ c.state;
      memory = rw (rest-is n s, u, v) (sym (rw (take-append-drop n s) at b)) ∙ c.memory;
    }

pub feed_ends : {l : ℕ} {r₀ : Reader} {p m₀ : List ℕ} {r : Reader} {m s : List ℕ} → Feeding l r₀ p m₀ r m s → l ≡ limit m₀ → length s ≡ 0
    → (r ≡ read (limit m₀) r₀ p) × (m ≡ fill (limit m₀) r₀ p m₀)
unfolding read fill
feed_ends {s = []} c e h = rw (← e) (c.state, c.memory)
feed_ends {s = b ∷ bs} c e h = absurd (omega arith)

pub feed_decided : {l : ℕ} {r₀ : Reader} {p m₀ : List ℕ} {r : Reader} {m s : List ℕ} → Feeding l r₀ p m₀ r m s → l ≡ limit m₀
    → decided r ≡ true → (r ≡ read (limit m₀) r₀ p) × (m ≡ fill (limit m₀) r₀ p m₀)
feed_decided {l} {r₀} {p} {m₀} {r} {m} {s} c e h =
    rw (← e) (sym (read_stays l r s h) ∙ c.state, sym (fill_stays l r s m h) ∙ c.memory)
