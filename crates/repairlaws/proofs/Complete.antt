-- The tool is complete. Let w be a directory that can be reached and passes the test. The first blocks of its files rise along the chain and
-- are those to be kept, so they are the sorted ones that the tool deals out; so the tool's files come to the blocks of w's, and its proposal
-- is sound and passes too.
use Prim.Native.Nat.{ℕ, ◌≤◌}
use mathlib.Core.Path.{◌≡◌, refl, sym, ap, ◌∙◌}
use mathlib.Core.Bool.{true, ◌&&◌}
use mathlib.Core.List.{List, [], ◌∷◌}
use native.Mathlib.Omega.{arith}
use lib.ListN.{length}
use lib.Dec.{eqb}
use borrow.Author.Tests.{eqb-true, eq-eqb}
use Rattle.bools.proofs.Bools.{both}
use Rattle.meaning.specs.declared.Key.{Key}
use Rattle.meaning.specs.Words.{first_data, highest, slot_words, chain, all_entries}
use Rattle.meaning.specs.Keys.{holds, once}
use Rattle.meaning.specs.Sound.{fault}
use Rattle.walks.specs.Lists.{All}
use Rattle.walks.proofs.Lists.{chain_length}
use Rattle.walks.proofs.Alls.{all_map}
use Rattle.rules.proofs.Keys.{count}
use Rattle.rules.proofs.Soundness.{Sound, sound, faultless}
use Rattle.laws.proofs.Way.{shape_of, spread, Way, way-blocks, all-spread, sound-way, way-sound}
use Rattle.repaired.specs.Kept.{kept_files, same_files, kept_of, passes}
use Rattle.repaired.specs.Tool.{sorted, firsts_of, proposal}
use Rattle.repairlaws.specs.Reachable.{MendedAt, Reachable}
use Rattle.repairlaws.proofs.Sorted.{sorted-same}
use Rattle.repairlaws.proofs.Laying.{firsts, firsts_rise, next-first}
use Rattle.repairlaws.proofs.Segments.{AnewAlong, Wrote, wrote}
use Rattle.repairlaws.proofs.Along.{way-files, Follows, along}
use Rattle.repairlaws.proofs.Frames.{Framed, chain-once, used, chain-within, SameHead, Frame, frame, frame_size, frame_header}

-- the tool's proposal, written
module _ (v : ℕ) (d : List ℕ) (fr : Framed v d) where
  abbrev pub dealt : List ℕ
  dealt = sorted (firsts_of (kept_files d))

  pub proposal_wrote : Wrote v d (first_data d) dealt d (proposal v d) (chain d)
  unfolding proposal
  proposal_wrote = wrote v d (chain d) (first_data d) dealt d refl (chain-within v d fr) (chain-once v d fr)

  heads_along : (t ss : List ℕ) (b : ℕ) (fs : List ℕ) → AnewAlong v d t b fs ss → All (SameHead d t) ss
  heads_along t [] b fs a = tt
  heads_along t (s ∷ ss) b fs a = (a.0.heads, heads_along t ss _ _ a.1)

  pub proposal_frame : Frame d (proposal v d)
  proposal_frame =
      frame d (proposal v d) proposal_wrote.size (used v d fr)
      (heads_along (proposal v d) (chain d) (first_data d) dealt proposal_wrote.each)

  module _ (w : List ℕ) (re : Reachable d w) (sw : Sound v w) (same : same_files (kept_files d) (kept_files w) ≡ true) where
    framed_w : Frame d w
    framed_w = frame d w re.size (used v d fr) (all_map (MendedAt d w) (SameHead d w) (λ s m. m.heads) (chain d) re.each)

    way-w : Way (shape_of d) w (chain d) 1 (first_data d) 0 v
    way-w = rw (framed_w.extra, framed_w.total, framed_w.highest, framed_w.chain, framed_w.size) at (sound-way v w sw)

    files-w : kept_files w ≡ kept_of (slot_words d) w (chain d)
    unfolding kept_files
    files-w = rw (framed_w.extra, framed_w.chain)

    dealt-is : dealt ≡ firsts (first_data d) (spread (slot_words d) w (chain d))
    dealt-is =
        let e : kept_files w ≡ _ = files-w ∙ way-files (shape_of d) w (chain d) 1 (first_data d) 0 v way-w in
        sorted-same (kept_files d) (kept_files w) (first_data d) same (rw e (firsts_rise (spread (slot_words d) w (chain d)) (first_data d)))
        ∙ ap firsts_of e

    follows : Follows v d w (proposal v d) (chain d) 1 (first_data d)
    follows =
        along v d w (proposal v d) (chain d) 1 (first_data d) (first_data d) dealt way-w re.each (chain-within v d fr) proposal_wrote.each dealt-is
        (omega arith)
        (rw dealt-is
        (next-first v (first_data d) (spread (slot_words d) w (chain d)) (way-blocks (shape_of d) w (chain d) 1 (first_data d) 0 v way-w)))

    few : (k : Key) → once k ≡ true → count (holds k) (all_entries (proposal v d)) ≤ 1
    few k o =
        let t = proposal v d in
        let e : all_entries t ≡ spread (slot_words d) t (chain d) = all-spread t ∙ (rw (proposal_frame.extra, proposal_frame.chain)) in
        let f : all_entries w ≡ spread (slot_words d) w (chain d) = all-spread w ∙ (rw (framed_w.extra, framed_w.chain)) in
        let g : count (holds k) (spread (slot_words d) w (chain d)) ≤ 1 = rw (← f) (sw.keys k o) in
        let h = follows.keys k in
        rw e (omega arith)

    many : length (chain d) ≡ highest (proposal v d)
    unfolding chain
    many = chain_length (highest d) d 1 ∙ sym proposal_frame.highest

    proposal-sound : Sound v (proposal v d)
    proposal-sound =
        let t = proposal v d in
        way-sound v t (chain d) many
        (rw (proposal_frame.extra, proposal_frame.total, proposal_frame.highest, proposal_frame.size) follows.way)
        (frame_size d t v proposal_frame ∙ fr.size)
        (frame_header d t proposal_frame ∙ fr.header)
        few

    proposal-files : kept_files (proposal v d) ≡ kept_files w
    unfolding kept_files
    proposal-files = (rw (proposal_frame.extra, proposal_frame.chain)) ∙ follows.files ∙ sym files-w

    pub proposal-passes : passes v d (proposal v d) ≡ true
    unfolding passes
    proposal-passes =
        rw (
          eq-eqb (length (proposal v d)) (length d) proposal_frame.size,
          faultless v (proposal v d) proposal-sound,
          proposal-files,
        )
        same

-- what passes the test has as many words, is sound, and keeps the files
pub passed : (v : ℕ) (d w : List ℕ) → passes v d w ≡ true → (length w ≡ length d) × Sound v w × (same_files (kept_files d) (kept_files w) ≡ true)
unfolding passes
passed v d w h =
    let p = both (eqb (length w) (length d) && eqb (fault v w) 0) (same_files (kept_files d) (kept_files w)) h in
    let q = both (eqb (length w) (length d)) (eqb (fault v w) 0) p.0 in
    (eqb-true (length w) (length d) q.0, sound v w (eqb-true (fault v w) 0 q.1), p.1)

pub complete : (v : ℕ) (d w : List ℕ) → Framed v d → Reachable d w → passes v d w ≡ true → passes v d (proposal v d) ≡ true
complete v d w fr re h = let p = passed v d w h in proposal-passes v d fr w re p.1 p.2
