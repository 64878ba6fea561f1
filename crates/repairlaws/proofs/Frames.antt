-- Rules 1 to 3 of a damaged directory, and a directory with the same size and the same words 0 to 3 in each segment of the chain: it has the
-- same chain, and meets rules 1 to 3 as well.
use Prim.Native.Nat.{ℕ, zero, suc, ◌≤◌, ◌<◌}
use mathlib.Core.Path.{◌≡◌, refl, sym, ap, ◌∙◌}
use mathlib.Core.Bool.{true, false}
use mathlib.Core.List.{List, ◌∷◌}
use native.Mathlib.Omega.{arith}
use lib.ListN.{length, get_or}
use borrow.Author.Tests.{not-false}
use Rattle.meaning.specs.Words.{segment, link_of, highest, chain_from, chain}
use Rattle.meaning.specs.Sound.{bad1, bad2, fault, times}
use Rattle.walks.specs.Links.{linked}
use Rattle.walks.proofs.Linked.{bad3-walk, once, Inside, chain-inside}
use Rattle.walks.proofs.Words.{header}
use Rattle.walks.specs.Lists.{All}
use Rattle.rules.proofs.Rule5.{rule1-holds, rule2-holds}
use Rattle.repaired.specs.Kept.{beyond}
use Rattle.repaired.proofs.Damage.{first_three}

-- what stands of a directory that is to be repaired
pub record Framed (v : ℕ) (d : List ℕ) : Type 0 where
  pub size : bad1 v d ≡ false
  pub header : bad2 d ≡ false
  pub links : linked (highest d) d 1 ≡ true

pub framed : (v : ℕ) (d : List ℕ) → beyond (fault v d) ≡ false → Framed v d
framed v d h =
    let r = first_three v d h in
    record { size = r.0; header = r.1; links = not-false (linked (highest d) d 1) (sym (bad3-walk d) ∙ r.2) }

-- its chain comes to no segment twice, and each stands in the directory
module _ (v : ℕ) (d : List ℕ) (fr : Framed v d) where
  pub chain-once : (k : ℕ) → times k (chain d) ≤ 1
  unfolding chain
  chain-once k = once d k (highest d) 1 fr.links

  pub used : 1 ≤ highest d
  used = (rule2-holds d fr.header).used

  pub chain-within : All (Inside (length d)) (chain d)
  chain-within =
      let a = (rule1-holds v d fr.size).whole in
      let b = (rule2-holds d fr.header).within in
      chain-inside d (omega arith) fr.links

-- words 0 to 3 of segment s are the same
abbrev pub SameHead : List ℕ → List ℕ → ℕ → Type 0
SameHead d x s = (j : ℕ) → j < 4 → get_or (segment x s) j 0 ≡ get_or (segment d s) j 0

pub record Frame (d x : List ℕ) : Type 0 where
  pub size : length x ≡ length d
  pub total : get_or x 0 0 ≡ get_or d 0 0
  pub highest : get_or x 2 0 ≡ get_or d 2 0
  pub extra : get_or x 3 0 ≡ get_or d 3 0
  pub chain : chain x ≡ chain d

module _ (d x : List ℕ) where
  same_from : (n s : ℕ) → All (SameHead d x) (chain_from n d s) → chain_from n x s ≡ chain_from n d s
  unfolding chain_from
  same_from zero s a = refl
  same_from (suc n) s a = rw (a.0 1 (omega arith)) (ap {B = List ℕ} (λ l. s ∷ l) (same_from n (link_of (segment d s)) a.1))

  first_head : (n : ℕ) → 1 ≤ n → All (SameHead d x) (chain_from n d 1) → SameHead d x 1
  unfolding chain_from
  first_head zero l a = absurd (omega arith)
  first_head (suc n) l a = a.0

  pub frame : length x ≡ length d → 1 ≤ highest d → All (SameHead d x) (chain d) → Frame d x
  unfolding chain
  frame e l a =
      let h = first_head (highest d) l a in
      let q : get_or x 2 0 ≡ get_or d 2 0 = sym (header x 1 2 (omega arith)) ∙ h 2 (omega arith) ∙ header d 1 2 (omega arith) in
      record {
        size = e;
        total = sym (header x 1 0 (omega arith)) ∙ h 0 (omega arith) ∙ header d 1 0 (omega arith);
        highest = q;
        extra = sym (header x 1 3 (omega arith)) ∙ h 3 (omega arith) ∙ header d 1 3 (omega arith);
        chain = rw q (same_from (highest d) 1 a);
      }

  pub frame_size : (v : ℕ) → Frame d x → bad1 v x ≡ bad1 v d
  unfolding bad1
  frame_size v f = rw f.size

  pub frame_header : Frame d x → bad2 x ≡ bad2 d
  unfolding bad2
  frame_header f = rw (f.size, f.total, f.highest, f.extra)
