-- The files of the whole chain, listed segment by segment: what the table has, and the files of the segments ahead, are together all that is kept.
-- Assumes nothing.
use Prim.Native.Nat.{ℕ, ◌+◌, ◌*◌, ◌-◌, ◌≤◌, ◌<◌}
use mathlib.Core.Path.{◌≡◌, refl, sym, ◌∙◌}
use mathlib.Core.Bool.{true}
use mathlib.Core.List.{List, ◌++◌, map, map-append, append_assoc, append-nil}
use native.Mathlib.Omega.{arith}
use borrow.Rule.Slice.PartMut.{put_mid, same_len_mid}
use lib.ListN.{length, take, drop}
use Rattle.meaning.specs.Words.{segment, highest, slot_words, chain_from, chain}
use Rattle.walks.specs.Links.{linked}
use Rattle.walks.specs.Lists.{All}
use Rattle.walks.proofs.Alls.{all_append}
use Rattle.walks.proofs.Lists.{chain-over}
use Rattle.chain.specs.Chained.{Chained}
use Rattle.chain.proofs.Links.{link_at, Next, next, chain_next}
use Rattle.repaired.specs.Kept.{kept_in, kept_of, kept_files}
use Rattle.keeping.specs.declared.File.{File}
use Rattle.keeping.specs.Tables.{file_of, Within, Listed}
use Rattle.keeping.proofs.Parts.{take-put}

-- the loop's invariant: left segments are ahead, from s on
pub record Gathering (d : List ℕ) (room left s : ℕ) (table : List File) (n : ℕ) : Type 0 where
  pub links : linked left d s ≡ true
  pub few : n + 72 * left ≤ 2232
  pub size : length table ≡ room
  pub within : All (Within d) (take n table)
  pub lists : map (file_of d) (take n table) ++ kept_of (slot_words d) d (chain_from left d s) ≡ kept_files d

pub gathering : (d : List ℕ) (table : List File) → Chained d → Gathering d (length table) (highest d) 1 table 0
unfolding kept_files chain
gathering d table c = record { links = c.links; few = omega (arith, c.whole, c.few); size = refl; within = tt; lists = refl }

module _ {d : List ℕ} {room left s : ℕ} {table : List File} {n : ℕ} (g : Gathering d room left s table n) where
  pub gather_over : left ≤ 0 → Listed d (kept_files d) room 2232 table n
  unfolding kept_of
  gather_over h = record {
    lists = sym (append-nil (map (file_of d) (take n table))) ∙ (rw (chain-over left d s h) at g.lists);
    within = g.within;
    size = g.size;
    few = omega (arith, g.few);
  }

  module _ (c : Chained d) (h : 0 < left) where
    pub gather_next : Next left d s
    gather_next = next left d s c h g.links

    module _ (much : 2232 ≤ room) where
      pub gather_room : n + 72 ≤ length table
      gather_room = omega (arith, g.few, g.size)

      pub gather_on : {after : List File} {r : ℕ}
          → Listed d (kept_in (slot_words d) (segment d s)) (length (take (length table - n) (drop n table))) 72 after r
          → Gathering d room (left - 1) (link_at d s) (put_mid n (length table - n) table after) (n + r)
      unfolding kept_of
      gather_on {after} {r} l =
          let here = kept_in (slot_words d) (segment d s) in
          let rest = kept_of (slot_words d) d (chain_from (left - 1) d (link_at d s)) in
          let taken : take (n + r) (put_mid n (length table - n) table after) ≡ take n table ++ take r after =
          take-put table after n (omega (arith, gather_room)) r in
          let before : map (file_of d) (take n table) ++ (here ++ rest) ≡ kept_files d = rw (chain_next left d s h) at g.lists in
          record {
            links = gather_next.rest;
            few = omega (arith, g.few, l.few);
            size = same_len_mid n (length table - n) table after l.size ∙ g.size;
            within = rw taken (all_append (Within d) (take n table) (take r after) g.within l.within);
            lists =
                rw (taken, map-append (file_of d) (take n table) (take r after), l.lists)
                (append_assoc (map (file_of d) (take n table)) here rest ∙ before);
          }
