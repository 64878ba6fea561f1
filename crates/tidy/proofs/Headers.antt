-- What rests on the headers alone. Where every segment keeps its header and the slice its length, the links are followed as
-- before, so the chain is the same and is as rightly linked as it was. Assumes nothing.
use Prim.Native.Nat.{ℕ, zero, suc, ◌+◌, ◌≤◌, ◌<◌}
use native.Mathlib.Omega.{arith}
use mathlib.Core.Path.{◌≡◌, refl, sym, ◌∙◌}
use mathlib.Core.Bool.{true}
use mathlib.Core.List.{List}
use lib.ListN.{length, get_or}
use Rattle.meaning.specs.Words.{segment, link_of, highest, slot_words, chain_from, chain}
use Rattle.walks.specs.Links.{linked}
use Rattle.walks.proofs.Linked.{visit}
use Rattle.chain.specs.Chained.{Chained}
use Rattle.walks.proofs.Words.{header}

-- t has the headers of d
pub record Framed (d t : List ℕ) : Type 0 where
  pub long : length t ≡ length d
  pub headers : (s k : ℕ) → 1 ≤ s → k < 5 → get_or (segment t s) k 0 ≡ get_or (segment d s) k 0

pub framed_self : (d : List ℕ) → Framed d d
framed_self d = record { long = refl; headers = λ s k l h. refl }

pub framed_on : (d t u : List ℕ) → Framed d t → Framed t u → Framed d u
framed_on d t u f g = record {
  long = g.long ∙ f.long;
  headers = λ s k l h. g.headers s k l h ∙ f.headers s k l h;
}

module _ (d t : List ℕ) (f : Framed d t) where
  pub word_kept : (k : ℕ) → k < 5 → get_or t (0 + k) 0 ≡ get_or d (0 + k) 0
  word_kept k h = sym (header t 1 k (omega arith)) ∙ f.headers 1 k (omega arith) h ∙ header d 1 k (omega arith)

  pub linked-kept : (n s : ℕ) → linked n d s ≡ true → linked n t s ≡ true
  unfolding linked
  linked-kept zero s h = h
  linked-kept (suc n) s h =
      let p = visit n d s h in
      rw (
        word_kept 0 (omega arith),
        word_kept 2 (omega arith),
        word_kept 3 (omega arith),
        f.headers s 0 p.low (omega arith),
        f.headers s 1 p.low (omega arith),
        f.headers s 3 p.low (omega arith),
        linked-kept n (link_of (segment d s)) p.rest,
      )
      (rw p.rest at h)

  pub chain-kept : (n s : ℕ) → linked n d s ≡ true → chain_from n t s ≡ chain_from n d s
  unfolding chain_from
  chain-kept zero s h = refl
  chain-kept (suc n) s h =
      let p = visit n d s h in
      rw (f.headers s 1 p.low (omega arith), chain-kept n (link_of (segment d s)) p.rest)

  pub highest-kept : highest t ≡ highest d
  highest-kept = word_kept 2 (omega arith)

  pub slots_kept : slot_words t ≡ slot_words d
  slots_kept = rw (word_kept 3 (omega arith))

  pub links-kept : Chained d → chain t ≡ chain d
  unfolding chain
  links-kept c = rw highest-kept (chain-kept (highest d) 1 c.links)

  pub chained-kept : Chained d → Chained t
  chained-kept c =
      let h = highest-kept in
      let e = word_kept 3 (omega arith) in
      let l = f.long in
      record {
        whole = let x = c.whole in omega arith;
        few = let x = c.few in omega arith;
        some = let x = c.some in omega arith;
        extra = let x = c.extra in omega arith;
        links = rw h (linked-kept (highest d) 1 c.links);
      }
