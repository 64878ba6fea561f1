-- Soundness in the form that the laws of requests use: rules 1 and 2 as tests of the header's words, rule 3 as the walk along
-- the links, rule 4 segment by segment as the scan of its slots, rule 5 as blocks filled in chain order, rule 6 by keys. It is
-- `fault v d ≡ 0`.
use Prim.Native.Nat.{ℕ, ◌+◌, ◌≤◌}
use mathlib.Core.Path.{◌≡◌, refl, sym, ◌∙◌}
use mathlib.Core.Bool.{true, false}
use mathlib.Core.List.{List, [], ◌∷◌}
use native.Mathlib.Omega.{arith}
use lib.ListN.{length}
use borrow.Author.Tests.{not-false}
use Rattle.bools.proofs.Bools.{neither}
use Rattle.meaning.specs.Words.{first_data, highest}
use Rattle.meaning.specs.Words.{total, chain, all_entries}
use Rattle.meaning.specs.Sound.{any, bad1, bad2, bad_slots, bad4, filled, bad5, bad6, fault}
use Rattle.walks.specs.Links.{linked}
use Rattle.walks.specs.Scan.{scan_bad}
use Rattle.walks.proofs.Linked.{bad3-walk, Inside, chain-inside}
use Rattle.walks.proofs.Scanned.{bad_scan}
use Rattle.meaning.specs.declared.Key.{Key}
use Rattle.meaning.specs.Keys.{holds, once}
use Rattle.walks.specs.Lists.{All}
use Rattle.walks.proofs.Unbroken.{unbroken}
use Rattle.walks.proofs.Filled.{filled-sum}
use Rattle.walks.proofs.Slots.{slots_of}
use Rattle.rules.proofs.Rule5.{rule1-holds, rule2-holds}
use Rattle.rules.proofs.Keys.{count, few, no-clash}

-- the slots of segment s are readable (rule 4)
abbrev pub Readable : List ℕ → ℕ → Type 0
Readable d s = scan_bad false (slots_of d s) ≡ false

pub record Sound (v : ℕ) (d : List ℕ) : Type 0 where
  pub size : bad1 v d ≡ false
  pub header : bad2 d ≡ false
  pub links : linked (highest d) d 1 ≡ true
  pub readable : All (Readable d) (chain d)
  pub full : filled v d (first_data d) (chain d) ≡ true
  pub keys : (k : Key) → once k ≡ true → count (holds k) (all_entries d) ≤ 1

readable-all : (d : List ℕ) (ss : List ℕ) → any (λ s. bad_slots (slots_of d s)) ss ≡ false → All (Readable d) ss
unfolding any
readable-all d [] h = tt
readable-all d (s ∷ ss) h =
    let n = neither (bad_slots (slots_of d s)) (any (λ s. bad_slots (slots_of d s)) ss) h in
    (sym (bad_scan (slots_of d s)) ∙ n.0, readable-all d ss n.1)

all-readable : (d : List ℕ) (ss : List ℕ) → All (Readable d) ss → any (λ s. bad_slots (slots_of d s)) ss ≡ false
unfolding any
all-readable d [] a = refl
all-readable d (s ∷ ss) a = rw (bad_scan (slots_of d s), a.0) (all-readable d ss a.1)

pub sound : (v : ℕ) (d : List ℕ) → fault v d ≡ 0 → Sound v d
unfolding bad4 bad5 bad6
sound v d h =
    let u = unbroken v d h in
    record {
      size = u.size;
      header = u.header;
      links = not-false (linked (highest d) d 1) (sym (bad3-walk d) ∙ u.chain);
      readable = readable-all d (chain d) u.slots;
      full = not-false (filled v d (first_data d) (chain d)) u.blocks;
      keys = few (all_entries d) u.keys;
    }

pub faultless : (v : ℕ) (d : List ℕ) → Sound v d → fault v d ≡ 0
unfolding fault bad4 bad5 bad6
faultless v d s =
    rw (
      s.size,
      s.header,
      bad3-walk d,
      s.links,
      all-readable d (chain d) s.readable,
      s.full,
      no-clash (all_entries d) s.keys,
    )

-- each segment of the chain stands in the directory
pub chain-within : (v : ℕ) (d : List ℕ) → Sound v d → All (Inside (length d)) (chain d)
chain-within v d s =
    let a = (rule1-holds v d s.size).whole in
    let b = (rule2-holds d s.header).within in
    chain-inside d (omega arith) s.links

-- the lengths of all entries fill the blocks from 6 + 2N to V
pub data_blocks : (v : ℕ) (d : List ℕ) → Sound v d → first_data d + total (all_entries d) ≡ v
unfolding all_entries
data_blocks v d s = filled-sum v d (first_data d) (chain d) s.full
