-- The tidy of a segment's entries, written as they are met. The loop keeps this: whatever finishes the entries still ahead, written
-- from here, finishes all of them, written from word 5; at the end nothing is ahead. Untidy entries become fewer, so that all that is
-- written has room, and the marker too. Assumes nothing.
use Prim.Native.Nat.{ℕ, ◌+◌, ◌≤◌, ◌<◌}
use native.Mathlib.Nat.{add-mul}
use native.Mathlib.Omega.{arith}
use mathlib.Core.Path.{◌≡◌, refl, ap, ◌∙◌}
use mathlib.Core.Bool.{Bool, true, false, cond, ◌&&◌, not}
use mathlib.Core.List.{List, [], ◌∷◌, ◌++◌}
use lib.ListN.{length, set, length-set, length-append}
use lib.Seq.{get_or-set_other}
use lib.Dec.{eqb}
use Rattle.meaning.specs.Kinds.{end_status, is_tentative, is_end}
use Rattle.meaning.specs.Words.{Entry, length_word, kind, blocks, slot_count, slots, upto, total}
use Rattle.meaning.specs.Requests.{flat}
use Rattle.meaning.specs.Enter.{is_area, join_to, joined, drop_zero, tidy, untidy}
use Rattle.walks.specs.Runs.{RunSoFar, calm, flushed, tidy_from}
use Rattle.walks.proofs.Tidied.{segment-long, tidy-from}
use Rattle.walks.proofs.Untidy.{tidy-fewer}
use Rattle.walks.proofs.Slots.{entries-count}
use Rattle.walks.proofs.Flat.{Proper, entries_proper, flat_both, flat-length}
use Rattle.segment.proofs.Ahead.{slots-room}
use Rattle.segment.specs.Written.{Written}
use Rattle.tidy.specs.OpenRun.{sum_of, after, let_out, left_of, out_of, Finished}
use Rattle.tidy.specs.Tidied.{Tidyable}
use Rattle.segment.proofs.Writes.{both_written}
use Rattle.tidy.proofs.Runs.{tidy_step, next-sum}

-- the tidy of proper entries is proper
join_proper : (w : ℕ) (e : Entry) (es : List Entry) → length e ≡ w → is_end (kind e) ≡ false → Proper w es → Proper w (join_to e es)
join_proper w e [] l k h = (l, k, tt)
join_proper w e (f ∷ fs) l k h = go (is_area e && is_area f)
  where
    go : (x : Bool) → Proper w (cond x (set e length_word (blocks e + blocks f) ∷ fs) (e ∷ f ∷ fs))
    go true = (
      length-set e length_word (blocks e + blocks f) ∙ l,
      rw (get_or-set_other e length_word 0 (blocks e + blocks f) 0 (λ q. omega arith)) k,
      h.2,
    )
    go false = (l, k, h)

joined_proper : (w : ℕ) (es : List Entry) → Proper w es → Proper w (joined es)
unfolding joined
joined_proper w [] h = tt
joined_proper w (e ∷ es) h = join_proper w e (joined es) h.0 h.1 (joined_proper w es h.2)

drop_proper : (w : ℕ) (p : Bool) (es : List Entry) → Proper w es → Proper w (drop_zero p es)
unfolding drop_zero
drop_proper w p [] h = tt
drop_proper w p (e ∷ es) h = go (is_area e && eqb (blocks e) 0 && not p) (drop_proper w (is_tentative (kind e)) es h.2)
  where
    go : (x : Bool) → Proper w (drop_zero (is_tentative (kind e)) es)
        → Proper w (cond x (drop_zero (is_tentative (kind e)) es) (e ∷ drop_zero (is_tentative (kind e)) es))
    go true r = r
    go false r = (h.0, h.1, r)

pub tidy_proper : (w : ℕ) (es : List Entry) → Proper w es → Proper w (tidy es)
unfolding tidy
tidy_proper w es h = drop_proper w false (joined es) (joined_proper w es h)

-- the words that the tidy of a segment comes to: as the walk writes them they are fewer than fit before the marker
abbrev pub all_out : ℕ → List ℕ → List ℕ
all_out w g = flat (tidy_from (calm false) (upto (slots w g))) []

module _ {w : ℕ} {g : List ℕ} (y : Tidyable w g) where
  tidies : tidy_from (calm false) (upto (slots w g)) ≡ tidy (upto (slots w g))
  tidies = tidy-from (upto (slots w g)) (segment-long w g y.wide y.whole)

  pub room : untidy (upto (slots w g)) ≡ true → 5 + length (all_out w g) < 512
  room u =
      let es : List Entry = upto (slots w g) in
      let l = flat-length w (tidy es) (tidy_proper w es (entries_proper w g y.whole)) in
      let k : length (tidy es) + 1 ≤ slot_count w = omega (arith, tidy-fewer es u, entries-count w g) in
      rw tidies (omega (arith, l, slots-room (length (tidy es) + 1) w k, add-mul (length (tidy es)) 1 w, y.wide))

-- the loop's invariant: the entries es are ahead, after the run r, and the next write is at q; b is what is written to as it came
pub record Tidying (g b : List ℕ) (w : ℕ) (out : List ℕ) (es : List Entry) (q : ℕ) (r : RunSoFar) : Type 0 where
  pub full : length out ≡ 512
  pub sums : sum_of r + total es ≤ 65535
  pub place : q + length (flat (tidy_from r es) []) ≡ 5 + length (all_out w g)
  pub same :
      (t a : List ℕ) (z : ℕ)
      → Written out q (flat (tidy_from r es) t) a z
      → Written b 5 (flat (tidy_from (calm false) (upto (slots w g))) t) a z

pub starts : {g : List ℕ} {w : ℕ} (b : List ℕ) → Tidyable w g → length b ≡ 512 → Tidying g b w b (upto (slots w g)) 5 (calm false)
starts {g} {w} b y n = record {
  full = n;
  sums = omega (arith, y.small);
  place = refl;
  same = λ t a z u. u;
}

module _ {g b : List ℕ} {w : ℕ} {out : List ℕ} {es : List Entry} {q : ℕ} {r : RunSoFar} (v : Tidying g b w out es q r) where
  -- one entry more
  module _ (e : Entry) (others : List Entry) (next : es ≡ e ∷ others) where
    total-next : total es ≡ blocks e + total others
    unfolding total
    total-next = rw next

    pub sum_fits : sum_of r + blocks e ≤ 65535
    sum_fits = omega (arith, v.sums, total-next)

    -- what is still to come after the entry, before the words t
    abbrev rest : List ℕ → List ℕ
    rest t = flat (tidy_from (after r e) others) t

    step : (t : List ℕ) → flat (tidy_from r es) t ≡ out_of r e ++ rest t
    step t = rw (next, tidy_step r e others) (flat_both (let_out r e) _ t)

    pub out_fits : 5 + length (all_out w g) < 512 → q + length (out_of r e) ≤ length out
    out_fits l = omega (arith, v.full, v.place, ap length (step []), length-append (out_of r e) (rest []))

    pub goes_on_lem : 5 + length (all_out w g) < 512 → {a : List ℕ} {z : ℕ} → Written out q (out_of r e) a z → Tidying g b w a others z (after r e)
    goes_on_lem l {a} {z} u = record {
      full = u.long ∙ v.full;
      sums = omega (arith, v.sums, total-next, next-sum r e);
      place = omega (arith, v.place, ap length (step []), length-append (out_of r e) (rest []), u.next);
      same = λ t s x k.
          v.same t s x (rw (step t) (both_written out (out_of r e) a (rest t) s q z x (omega (arith, v.full, out_fits l)) u k));
    }

  -- no entry more
  module _ (y : Tidyable w g) (none : es ≡ []) where
    wrote : q + length (left_of r) ≡ 5 + length (flat (tidy (upto (slots w g))) [])
    unfolding tidy_from
    wrote = rw (none, tidies y) at v.place

    pub last-room : 5 + length (all_out w g) < 512 → q + length (left_of r) < length out
    unfolding tidy_from
    last-room l = let p = rw none at v.place in omega (arith, v.full, p)

    pub ends : {a : List ℕ} → Finished out q (flushed r) a → Finished b 5 (tidy (upto (slots w g))) a
    unfolding tidy_from
    ends {a} f = rw (← wrote, ← tidies y) (v.same (end_status ∷ []) a _ (rw none f))
