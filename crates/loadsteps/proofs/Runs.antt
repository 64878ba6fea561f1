-- A reader after some bytes, said by its phase and by exact counts: the sum of the bytes, how many were stored and how many passed. A byte moves a
-- reader that is not decided to the phase that is due, and adds to the counts; a decided one stays. So a run over two lists is the run over the second
-- from where the first left off, and data bytes that have their place are stored in a row.
use Prim.Native.Nat.{ℕ, zero, suc, ◌+◌, ◌-◌, ◌%◌, ◌≤◌, ◌<◌}
use native.Mathlib.Nat.{mod-add-mod}
use native.Mathlib.Numerals.{unary_clauses}
use native.Mathlib.Omega.{arith}
use mathlib.Core.Path.{◌≡◌, refl, ◌∙◌}
use mathlib.Core.Bool.{true, false, cond, false≢true}
use mathlib.Core.List.{List, [], ◌∷◌, ◌++◌}
use borrow.Author.Tests.{lt-ltb, ne_eqb}
use lib.ListN.{length}
use lib.Dec.{eqb}
use Rattle.loads.specs.Memory.{put_byte, puts}
use Rattle.loads.specs.Blocks.{byte_sum}
use Rattle.loadsteps.specs.Step.{capped, up, after_data, due, role_of, decided_by, is_data, passed_by, decided, kept_by, moved, next}
use Rattle.loadsteps.specs.Run.{read, fill}
use Rattle.loadsteps.specs.declared.Phase.{Phase}
use Rattle.loadsteps.specs.declared.Phase.TheVariants.{Data}
use Rattle.loadsteps.specs.declared.Role.{Role}
use Rattle.loadsteps.specs.declared.Role.TheVariants.{Passing, Storing}
use Rattle.loadsteps.specs.declared.Role.TheVariants as roles
use Rattle.loadsteps.specs.declared.Reader.{Reader}

-- the reader at phase p, after bytes of the sum s, of which t were stored and o passed
unfoldable pub at : Phase → ℕ → ℕ → ℕ → Reader
at p s t o = record { phase = p; sum = s % 256; stored = capped t; offset = capped o }

capped_both : (t n : ℕ) → capped (capped t + n) ≡ capped (t + n)
unfolding capped
capped_both t n = omega arith

-- decided: bytes change nothing
pub stays : (l : ℕ) (r : Reader) (b : ℕ) → decided r ≡ true → next l r b ≡ r
unfolding next
stays l r b h = rw h

kept_by_lem : (l : ℕ) (k : Role) (b : ℕ) (m : List ℕ) → decided_by k ≡ true → kept_by l k b m ≡ m
unfolding kept_by
kept_by_lem l Passing b m h = refl
kept_by_lem l (Storing a n) b m h = absurd (false≢true h)
kept_by_lem l (roles.Accepted t) b m h = refl
kept_by_lem l (roles.Refused k) b m h = refl

pub read_stays : (l : ℕ) (r : Reader) (bs : List ℕ) → decided r ≡ true → read l r bs ≡ r
unfolding read
read_stays l r [] h = refl
read_stays l r (b ∷ bs) h = rw (stays l r b h) (read_stays l r bs h)

pub fill_stays : (l : ℕ) (r : Reader) (bs m : List ℕ) → decided r ≡ true → fill l r bs m ≡ m
unfolding fill
fill_stays l r [] m h = refl
fill_stays l r (b ∷ bs) m h = rw (stays l r b h, kept_by_lem l (role_of r.phase) b m h) (fill_stays l r bs m h)

-- two lists, one after the other
pub read-append : (l : ℕ) (r : Reader) (xs ys : List ℕ) → read l r (xs ++ ys) ≡ read l (read l r xs) ys
unfolding read
read-append l r [] ys = refl
read-append l r (b ∷ xs) ys = read-append l (next l r b) xs ys

pub fill-append : (l : ℕ) (r : Reader) (xs ys m : List ℕ) → fill l r (xs ++ ys) m ≡ fill l (read l r xs) ys (fill l r xs m)
unfolding read fill
fill-append l r [] ys m = refl
fill-append l r (b ∷ xs) ys m = fill-append l (next l r b) xs ys (kept_by l (role_of r.phase) b m)

-- one byte, from any reader that is not decided
pub next-from : (l : ℕ) (r : Reader) (b : ℕ) → decided r ≡ false
    → next l r b
    ≡ at (due l r.phase ((r.sum + b) % 256) b) (r.sum + b) (r.stored + cond (is_data l (role_of r.phase)) 1 0)
    (r.offset + passed_by (role_of (due l r.phase ((r.sum + b) % 256) b)))
unfolding next moved at up
next-from l r b h = rw h

-- and from one that is known
pub next-at : (l : ℕ) (p q : Phase) (s t o b : ℕ) → decided_by (role_of p) ≡ false → due l p ((s + b) % 256) b ≡ q
    → next l (at p s t o) b ≡ at q (s + b) (t + cond (is_data l (role_of p)) 1 0) (o + passed_by (role_of q))
unfolding next moved at up
next-at l p q s t o b h e =
    let k : (s % 256 + b) % 256 ≡ (s + b) % 256 = mod-add-mod s 256 b in
    rw (h, k, e, capped_both t (cond (is_data l (role_of p)) 1 0), capped_both o (passed_by (role_of q)))

-- from the reader r and the bytes s on, with the memory m, things go as from r' and s' with m'
pub record Goes (l : ℕ) (r : Reader) (s m : List ℕ) (r' : Reader) (s' m' : List ℕ) : Type 0 where
  pub reads : read l r s ≡ read l r' s'
  pub fills : fill l r s m ≡ fill l r' s' m'

pub goes_both : {l : ℕ} {r r' r'' : Reader} {s s' s'' m m' m'' : List ℕ} → Goes l r s m r' s' m' → Goes l r' s' m' r'' s'' m'' → Goes l r s m r'' s'' m''
goes_both f g = record { reads = f.reads ∙ g.reads; fills = f.fills ∙ g.fills }

-- a byte that is no data
pub goes_byte : (l : ℕ) (p q : Phase) (s t o b : ℕ) (bs m : List ℕ) → decided_by (role_of p) ≡ false → is_data l (role_of p) ≡ false
    → due l p ((s + b) % 256) b ≡ q → Goes l (at p s t o) (b ∷ bs) m (at q (s + b) t (o + passed_by (role_of q))) bs m
unfolding read fill kept_by at
goes_byte l p q s t o b bs m h d e =
    let z : t + 0 ≡ t = omega arith in
    let n : next l (at p s t o) b ≡ at q (s + b) t (o + passed_by (role_of q)) = next-at l p q s t o b h e ∙ rw (d, z) in
    record { reads = rw n; fills = rw (n, d) }

-- a data byte
goes_data : (l a n s t o b : ℕ) (bs m : List ℕ) → a < l
    → Goes l (at (Data a (suc n)) s t o) (b ∷ bs) m (at (Data (a + 1) n) (s + b) (t + 1) (o + 1)) bs (put_byte a b m)
unfolding read fill kept_by at after_data
goes_data l a n s t o b bs m h =
    let i : eqb (suc n) 0 ≡ false = ne_eqb (suc n) 0 (λ e. omega arith) in
    let k : is_data l (role_of (Data a (suc n))) ≡ true = rw i (lt-ltb a l h) in
    let z : suc n - 1 ≡ n = omega arith in
    let e : due l (Data a (suc n)) ((s + b) % 256) b ≡ Data (a + 1) n = rw (i, lt-ltb a l h, z) in
    let f : next l (at (Data a (suc n)) s t o) b ≡ at (Data (a + 1) n) (s + b) (t + 1) (o + 1) =
    next-at l (Data a (suc n)) (Data (a + 1) n) s t o b refl e ∙ rw k in
    record { reads = rw f; fills = rw (f, k) }

-- data bytes in a row
pub goes_run : (l a n s t o : ℕ) (ds bs m : List ℕ) → length ds ≤ n → a + length ds ≤ l
    → Goes l (at (Data a n) s t o) (ds ++ bs) m
    (at (Data (a + length ds) (n - length ds)) (s + byte_sum ds) (t + length ds) (o + length ds)) bs (puts a ds m)
unfolding byte_sum puts
goes_run l a n s t o [] bs m h k = simp unary_clauses (record { reads = refl; fills = refl })
goes_run l a zero s t o (d ∷ ds) bs m h k = absurd (omega arith)
goes_run l a (suc n) s t o (d ∷ ds) bs m h k =
    let e : a + 1 + length ds ≡ a + length (d ∷ ds) = omega arith in
    let f : n - length ds ≡ suc n - length (d ∷ ds) = omega arith in
    let g : s + d + byte_sum ds ≡ s + (d + byte_sum ds) = omega arith in
    let i : t + 1 + length ds ≡ t + length (d ∷ ds) = omega arith in
    let j : o + 1 + length ds ≡ o + length (d ∷ ds) = omega arith in
    goes_both (goes_data l a n s t o d (ds ++ bs) m (omega arith))
    (rw (← e, ← f, ← g, ← i, ← j) (goes_run l (a + 1) n (s + d) (t + 1) (o + 1) ds bs (put_byte a d m) (omega arith) (omega arith)))
