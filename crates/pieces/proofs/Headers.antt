-- A whole header that announces data with a place is passed at once: its six bytes one after the other make of the reader what `behind_header` says.
use Prim.Native.Nat.{ℕ, ◌+◌, ◌*◌, ◌-◌, ◌%◌, ◌≤◌, ◌<◌, min}
use native.Mathlib.Omega.{arith}
use mathlib.Core.Path.{◌≡◌, sym, ◌∙◌}
use mathlib.Core.List.{List, [], ◌∷◌}
use borrow.Author.Tests.{le-ltb, ne_eqb}
use lib.ListN.{take}
use Rattle.loads.specs.Blocks.{byte_sum, pair_at, count_of, address_of}
use Rattle.loadsteps.specs.Step.{up, capped, after_header}
use Rattle.loadsteps.specs.Run.{read, fill}
use Rattle.loadsteps.specs.declared.Phase.TheVariants.{Start, Data}
use Rattle.loadsteps.specs.declared.Reader.{Reader}
use Rattle.loadsteps.proofs.Runs.{at}
use Rattle.loadsteps.proofs.Headers.{goes_header}
use Rattle.pieces.specs.Turns.{DataHeader, behind_header, PassedOver}

-- a reader as its fields say it
pub record Fits (r : Reader) : Type 0 where
  pub sum : r.sum < 256
  pub stored : r.stored ≤ 18446744073709551615
  pub offset : r.offset ≤ 18446744073709551615

at-is : (r : Reader) → Fits r → r.phase ≡ Start → at Start r.sum r.stored r.offset ≡ r
unfolding at capped
at-is r h p =
    let a = h.sum in
    let b = h.stored in
    let c = h.offset in
    let e : r.sum % 256 ≡ r.sum = omega arith in
    let f : min r.stored 18446744073709551615 ≡ r.stored = omega arith in
    let g : min r.offset 18446744073709551615 ≡ r.offset = omega arith in
    rw (e, f, g, ← p)

header_by : (l n : ℕ) (r : Reader) (c d a b : ℕ) (s m : List ℕ) → Fits r → r.phase ≡ Start → 0 < n → c + 256 * d ≡ n + 6 → a + 256 * b + n ≤ l
    → (read l r (1 ∷ 0 ∷ c ∷ d ∷ a ∷ b ∷ []) ≡ behind_header r n (1 ∷ 0 ∷ c ∷ d ∷ a ∷ b ∷ s)) × (fill l r (1 ∷ 0 ∷ c ∷ d ∷ a ∷ b ∷ []) m ≡ m)
unfolding read fill after_header behind_header address_of pair_at byte_sum at up capped
header_by l n r c d a b s m z p h e f =
    let k : c + 256 * d - 6 ≡ n = omega arith in
    let q : after_header l (c + 256 * d - 6) (a + 256 * b) ≡ Data (a + 256 * b) n =
    rw (k, ne_eqb n 0 (λ z. omega arith), le-ltb l (a + 256 * b + n) f) in
    let g = goes_header l r.sum r.stored r.offset m c d a b [] (Data (a + 256 * b) n) (omega arith) q in
    let u : r.sum + 1 + 0 + c + d + a + b ≡ r.sum + byte_sum (1 ∷ 0 ∷ c ∷ d ∷ a ∷ b ∷ []) = omega arith in
    let w : r.offset + 5 + 1 ≡ r.offset + 6 = omega arith in
    let y = z.stored in
    let v : min r.stored 18446744073709551615 ≡ r.stored = omega arith in
    let x = rw (at-is r z p) at g in
    (x.reads ∙ rw (u, w, v), x.fills)

header-six : {l n : ℕ} (r : Reader) (s m : List ℕ) → Fits r → r.phase ≡ Start → DataHeader l n s
    → (read l r (take 6 s) ≡ behind_header r n s) × (fill l r (take 6 s) m ≡ m)
unfolding count_of address_of pair_at
header-six {l} {n} r (x ∷ y ∷ c ∷ d ∷ a ∷ b ∷ s) m z p h =
    let e : x ≡ 1 = h.first in
    let f : y ≡ 0 = h.second in
    rw (e, f) (header_by l n r c d a b s m z p h.some h.counts h.fits)
header-six r [] m z p h = absurd (omega (arith, h.whole))
header-six r (x ∷ []) m z p h = absurd (omega (arith, h.whole))
header-six r (x ∷ y ∷ []) m z p h = absurd (omega (arith, h.whole))
header-six r (x ∷ y ∷ c ∷ []) m z p h = absurd (omega (arith, h.whole))
header-six r (x ∷ y ∷ c ∷ d ∷ []) m z p h = absurd (omega (arith, h.whole))
header-six r (x ∷ y ∷ c ∷ d ∷ a ∷ []) m z p h = absurd (omega (arith, h.whole))

pub header_passed : {l n : ℕ} {r : Reader} {s : List ℕ} (r' : Reader) → Fits r → r.phase ≡ Start → DataHeader l n s
    → r' ≡ behind_header r n s → PassedOver l r s 6 r'
header_passed {l} {n} {r} {s} r' z p h e =
    record {
      some = omega arith;
      within = h.whole;
      state = e ∙ sym (header-six r s [] z p h).0;
      memory = λ m. (header-six r s m z p h).1;
    }
