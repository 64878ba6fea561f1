-- The chain as code follows it, counted down. A word of segment s is a word of the directory, 512 * (s - 1) further on; so each
-- turn of a walk reads what `linked` tests, and where the links are right the segment at hand is one of 1..H. Assumes nothing.
use Prim.Native.Nat.{ℕ, zero, suc, ◌+◌, ◌*◌, ◌-◌, ◌≤◌, ◌<◌}
use mathlib.Core.Path.{◌≡◌, refl, ap, ◌∙◌}
use mathlib.Core.Bool.{true, ◌&&◌}
use mathlib.Core.List.{List, ◌∷◌}
use native.Mathlib.Omega.{arith}
use native.Mathlib.Nat.{sub-zero}
use lib.ListN.{length, get_or, take, drop}
use lib.Dec.{leb, eqb}
use Rattle.meaning.specs.Words.{segment, total_of, extra_bytes_of, highest, chain_from}
use Rattle.walks.specs.Links.{linked}
use Rattle.chain.specs.Chained.{Chained}
use Rattle.walks.proofs.Words.{base, header, header0}
use Rattle.walks.proofs.Linked.{visit}
use Rattle.walks.proofs.Lists.{chain_step}

-- the part of the slice that is segment s
pub part-is : (d : List ℕ) (s : ℕ) → take (base s + 512 - base s) (drop (base s) d) ≡ segment d s
unfolding segment
part-is d s =
    let e : base s + 512 - base s ≡ 512 = omega arith in
    rw e

-- the segment that segment s links to, by the word that code reads
abbrev pub link_at : List ℕ → ℕ → ℕ
link_at d s = get_or d (base s + 1) 0

-- one turn of the walk
pub linked_step : (n : ℕ) (d : List ℕ) (s : ℕ) → 0 < n
    → linked n d s
    ≡ leb 1 s
    && leb s (highest d)
    && eqb (get_or d (base s) 0) (total_of d)
    && eqb (get_or d (base s + 3) 0) (extra_bytes_of d)
    && linked (n - 1) d (link_at d s)
unfolding linked
linked_step zero d s h = absurd (omega arith)
linked_step (suc n) d s h =
    let e : suc n - 1 ≡ n = omega arith in
    rw (e, header0 d s, header d s 1 (omega arith), header d s 3 (omega arith))

-- its end
pub linked-end : (n : ℕ) (d : List ℕ) (s : ℕ) → n ≤ 0 → linked n d s ≡ eqb s 0
unfolding linked
linked-end zero d s h = refl
linked-end (suc n) d s h = absurd (omega arith)

-- the segment at hand of a walk along right links, with n segments left: it is one of 1..H, so it lies in the slice
pub record Next (n : ℕ) (d : List ℕ) (s : ℕ) : Type 0 where
  pub low : 1 ≤ s
  pub high : s ≤ highest d
  pub inside : 512 * s ≤ length d
  pub most : s ≤ 31
  pub rest : linked (n - 1) d (link_at d s) ≡ true

pub next : (n : ℕ) (d : List ℕ) (s : ℕ) → Chained d → 0 < n → linked n d s ≡ true → Next n d s
next zero d s c h e = absurd (omega arith)
next (suc n) d s c h e =
    let v = visit n d s e in
    let m : suc n - 1 ≡ n = omega arith in
    record {
      low = v.low;
      high = v.high;
      inside = omega (arith, v.high, c.whole);
      most = omega (arith, v.high, c.whole, c.few);
      rest = rw (m, ← header d s 1 (omega arith)) v.rest;
    }

-- the chain from there on, by the link that code reads
pub chain_next : (n : ℕ) (d : List ℕ) (s : ℕ) → 0 < n → chain_from n d s ≡ s ∷ chain_from (n - 1) d (link_at d s)
chain_next n d s h = chain_step n d s h ∙ ap (λ (k : ℕ). s ∷ chain_from (n - 1) d k) (header d s 1 (omega arith))

-- the word k of the part of the slice that is segment s
pub part_word : (d : List ℕ) (s k : ℕ) → k < 512 → get_or (take (base s + 512 - base s) (drop (base s) d)) k 0 ≡ get_or d (base s + k) 0
part_word d s k h = rw (part-is d s) (header d s k h)

-- the place of a walk along right links where k segments have passed: segment s is the next of them, if any is left
pub record Here (d : List ℕ) (k s : ℕ) : Type 0 where
  pub links : linked (highest d - k) d s ≡ true
  pub low : k < highest d → 1 ≤ s
  pub inside : k < highest d → 512 * s ≤ length d

here : (d : List ℕ) (k s : ℕ) → Chained d → linked (highest d - k) d s ≡ true → Here d k s
here d k s c e = record {
  links = e;
  low = λ h. (next (highest d - k) d s c (omega arith) e).low;
  inside = λ h. (next (highest d - k) d s c (omega arith) e).inside;
}

pub here-first : {d : List ℕ} → Chained d → Here d 0 1
here-first {d = d} c = here d 0 1 c (rw (sub-zero (highest d)) c.links)

-- one turn less is left
pub one-less : (n k : ℕ) → n - (k + 1) ≡ n - k - 1
one-less n k = omega arith

pub here-next : {d : List ℕ} {k s : ℕ} → Chained d → Here d k s → k < highest d → Here d (k + 1) (link_at d s)
here-next {d = d} {k = k} {s = s} c p h =
    here d (k + 1) (link_at d s) c (rw (one-less (highest d) k) (next (highest d - k) d s c (omega arith) p.links).rest)
