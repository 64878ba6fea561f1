-- A fresh start that succeeds leaves a sound directory without a file: one segment in use, with one empty entry that has all data
-- blocks, and the marker after it. The words that the rules look at are read off once; the rules follow from them for any list that has
-- these words, and so does where its entry is.
use Prim.Native.Nat.{ℕ, zero, suc, ◌+◌, ◌*◌, ◌-◌, ◌≤◌, ◌<◌}
use native.Mathlib.Nat.{le-div_iff_mul-le}
use native.Mathlib.Omega.{arith}
use mathlib.Core.Path.{◌≡◌, refl, ap, ◌∙◌}
use mathlib.Core.Bool.{Bool, true, false}
use mathlib.Core.List.{List, [], ◌∷◌, ◌++◌, map}
use mathlib.Core.Option.{none}
use lib.ListN.{length, get_or, replicate, length-append, length-replicate, get_or-append}
use lib.Seq.{get_or-take, get_or-append-add, get_or_at}
use lib.Dec.{leb}
use borrow.Author.Tests.{leb-true, eq-eqb}
use Rattle.meaning.specs.declared.Kind.TheVariants.{Empty, End}
use Rattle.meaning.specs.Kinds.{empty_status, end_status, kind_of}
use Rattle.meaning.specs.Words.{segments, first_data, segment, first_of, highest, slot_words, slot_count, Entry, kind, upto, entries, total}
use Rattle.meaning.specs.Words.{chain_from, chain, rows_in, segment_rows, rows_of, rows, entries_of, all_entries}
use Rattle.meaning.specs.Sound.{bad1, filled}
use Rattle.meaning.specs.Answers.{Outcome, granted, refuse, success, find, file_of}
use Rattle.meaning.specs.Requests.{entry_of, empty_entry, flat, render, fresh_words, fresh}
use Rattle.walks.specs.Links.{linked}
use Rattle.walks.specs.Scan.{scan_bad}
use Rattle.meaning.specs.declared.Name.{Name}
use Rattle.meaning.specs.declared.Key.{Key}
use Rattle.meaning.specs.declared.Key.TheVariants.{File}
use Rattle.meaning.specs.Keys.{holds, once}
use Rattle.rules.specs.Sound.{Rule1, Rule2}
use Rattle.walks.specs.Lists.{All}
use Rattle.rules.proofs.Rule5.{rule1-holds, rule1-tested, rule2-tested}
use Rattle.rules.proofs.Keys.{empty_holds, count}
use Rattle.rules.proofs.Grid.{entry_at, word_at_lem, grid, slots-grid}
use Rattle.rules.proofs.Standing.{stands_after}
use Rattle.laws.specs.Kept.{KeptByFresh}
use Rattle.laws.specs.Points.{Points}
use Rattle.laws.proofs.Lookups.{lookup-seen}
use Rattle.rules.proofs.Soundness.{Readable, Sound, faultless}
use Rattle.walks.proofs.Slots.{slots_of}
use Rattle.walks.proofs.Flat.{entry_length, render-length}

-- the words that the rules look at, in a directory of N segments with E extra words
pub record Started (v N E : ℕ) (D : List ℕ) : Type 0 where
  pub size : length D ≡ 512 * N
  pub total : get_or D 0 0 ≡ N
  pub link : get_or D 1 0 ≡ 0
  pub highest : get_or D 2 0 ≡ 1
  pub bytes : get_or D 3 0 ≡ 2 * E
  pub first : get_or D 4 0 ≡ 6 + 2 * N
  pub status : get_or D 5 0 ≡ empty_status
  pub length : get_or D 9 0 ≡ v - (6 + 2 * N)
  pub date : get_or D 11 0 ≡ 0
  pub marker : get_or D (5 + (7 + E)) 0 ≡ end_status

-- read off
module _ (v N E : ℕ) (least : 1 ≤ N) (most : E ≤ 16) where
  abbrev header : List ℕ
  header = N ∷ 0 ∷ 1 ∷ 2 * E ∷ (6 + 2 * N) ∷ []

  abbrev entry : Entry
  entry = empty_entry (7 + E) (v - (6 + 2 * N))

  abbrev started : List ℕ
  started = render header (entry ∷ []) ++ replicate (512 * (N - 1)) 0

  abbrev end : List ℕ
  end = end_status ∷ replicate 512 0

  entry-words : length entry ≡ 7 + E
  entry-words = entry_length (7 + E) _ _ _ _ _ (omega arith)

  all-length : length started ≡ 512 * N
  all-length =
      length-append (render header (entry ∷ [])) (replicate (512 * (N - 1)) 0)
      ∙ (rw (render-length header (entry ∷ []), length-replicate {A = ℕ} (512 * (N - 1)) 0) (omega arith))

  marked : get_or (render header (entry ∷ [])) (5 + (7 + E)) 0 ≡ end_status
  unfolding render flat
  marked =
      get_or-take 512 (header ++ (entry ++ end)) (5 + (7 + E)) 0 (omega arith)
      ∙ get_or-append-add header (entry ++ end) (7 + E) 0
      ∙ get_or_at entry end_status (replicate 512 0) 0 (7 + E) entry-words

  is-started : Started v N E started
  unfolding render flat entry_of
  is-started =
      record {
        size = all-length;
        total = refl;
        link = refl;
        highest = refl;
        bytes = refl;
        first = refl;
        status = refl;
        length = refl;
        date = refl;
        marker =
            get_or-append (render header (entry ∷ [])) (replicate (512 * (N - 1)) 0) 0 (5 + (7 + E))
            (let l = render-length header (entry ∷ []) in omega arith)
            ∙ marked;
      }

-- the rules
module _ (v N E : ℕ) (D : List ℕ) (some : 1 ≤ N) (few : N ≤ 31) (most : E ≤ 16) (room : 6 + 2 * N ≤ v) (wide : v ≤ 65535)
    (s : Started v N E D) where
  many : segments D ≡ N
  many = rw s.size (omega arith)

  width : slot_words D ≡ 7 + E
  width = rw s.bytes (omega arith)

  head : (j : ℕ) → j < 512 → get_or (segment D 1) j 0 ≡ get_or D j 0
  unfolding segment
  head j h = get_or-take 512 D j 0 h

  chained : chain D ≡ 1 ∷ []
  unfolding chain chain_from
  chained = rw s.highest

  rule1 : Rule1 v D
  rule1 =
      record {
        some = rw many some;
        few = rw many few;
        whole = rw many s.size;
        room = rw many room;
        wide = wide;
      }

  rule2 : Rule2 D
  rule2 =
      record {
        total = rw many s.total;
        used = rw s.highest (omega arith);
        within = rw (many, s.highest) some;
        even = rw s.bytes (omega arith);
        few = rw s.bytes (omega arith);
      }

  links : linked (highest D) D 1 ≡ true
  unfolding linked
  links =
      rw (
        s.highest,
        head 0 (omega arith),
        head 1 (omega arith),
        head 3 (omega arith),
        s.total,
        s.link,
        s.bytes,
        eq-eqb N N refl,
        eq-eqb (2 * E) (2 * E) refl,
        s.highest,
      )

  -- the first two slots
  two : (n : ℕ) → 2 ≤ n → grid n (7 + E) 5 ≡ 5 ∷ (5 + (7 + E)) ∷ grid (n - 2) (7 + E) (5 + (7 + E) + (7 + E))
  unfolding grid
  two zero h = absurd (omega arith)
  two (suc zero) h = absurd (omega arith)
  two (suc (suc n)) h = let e : suc (suc n) - 2 ≡ n = omega arith in rw e

  slots_are : slots_of D 1
      ≡ entry_at D (7 + E) 5
      ∷ entry_at D (7 + E) (5 + (7 + E))
      ∷ map (entry_at D (7 + E)) (grid (slot_count (7 + E) - 2) (7 + E) (5 + (7 + E) + (7 + E)))
  slots_are =
      rw width
      (slots-grid (7 + E) D 1
      ∙ ap (map (entry_at D (7 + E))) (two (slot_count (7 + E)) ((le-div_iff_mul-le (omega arith)).1 (omega arith))))

  empty_first : kind (entry_at D (7 + E) 5) ≡ Empty
  unfolding kind_of
  empty_first = rw (word_at_lem D (7 + E) 5 0 (omega arith), s.status)

  then_end : kind (entry_at D (7 + E) (5 + (7 + E))) ≡ End
  unfolding kind_of
  then_end =
      let e : 5 + (7 + E) + 0 ≡ 5 + (7 + E) = omega arith in
      rw (word_at_lem D (7 + E) (5 + (7 + E)) 0 (omega arith), e, s.marker)

  entries-are : entries D 1 ≡ entry_at D (7 + E) 5 ∷ []
  unfolding entries upto
  entries-are = rw (slots_are, empty_first, then_end)

  readable : All (Readable D) (chain D)
  unfolding scan_bad
  readable = rw chained (rw (slots_are, empty_first, then_end), tt)

  full : filled v D (first_data D) (chain D) ≡ true
  unfolding filled total
  full =
      let e : 6 + 2 * N + (v - (6 + 2 * N) + 0) ≡ v = omega arith in
      rw (
        chained,
        many,
        entries-are,
        head 4 (omega arith),
        s.first,
        word_at_lem D (7 + E) 5 4 (omega arith),
        s.length,
        e,
        eq-eqb (6 + 2 * N) (6 + 2 * N) refl,
        eq-eqb v v refl,
      )

  keys : (k : Key) → once k ≡ true → count (holds k) (all_entries D) ≤ 1
  unfolding all_entries entries_of count
  keys k o = rw (chained, entries-are, empty_holds k (entry_at D (7 + E) 5) empty_first) (omega arith)

  started_sound : Sound v D
  started_sound =
      record {
        size = rule1-tested v D rule1;
        header = rule2-tested D rule2;
        links = links;
        readable = readable;
        full = full;
        keys = keys;
      }

  no-file : (n : Name) → file_of D n ≡ none
  unfolding file_of rows rows_of segment_rows rows_in find
  no-file n = rw (chained, entries-are, empty_holds (File n) (entry_at D (7 + E) 5) empty_first)

  started_kept : KeptByFresh v D
  started_kept =
      let f = faultless v D started_sound in
      record {
        sound = f;
        none = λ n l. rw (lookup-seen v D f n, l, no-file n);
        illegal = λ n l. rw (lookup-seen v D f n, l);
      }

  -- its one entry is the area, in slot 1 of segment 1
  started_points : Points D (granted (6 + 2 * N) (v - (6 + 2 * N)) 0 (record { segment = 1; slot = 1 })) (λ e. kind e ≡ Empty)
  unfolding total
  started_points =
      let u : 1 ≤ highest D = rw s.highest (omega arith) in
      let b : first_of (segment D 1) + total [] ≡ 6 + 2 * N = rw (head 4 (omega arith), s.first) (omega arith) in
      record {
        entry = entry_at D (7 + E) 5;
        stands = rw b at (stands_after D 1 (omega arith, u) [] (entry_at D (7 + E) 5) [] entries-are);
        length = word_at_lem D (7 + E) 5 4 (omega arith) ∙ s.length;
        date = word_at_lem D (7 + E) 5 6 (omega arith) ∙ s.date;
        concerned = empty_first;
      }

-- what a fresh start that succeeds has tested, and its words
record Begun (v : ℕ) (d : List ℕ) (extra : ℕ) : Type 0 where
  rule : Rule1 v d
  most : extra ≤ 16
  started : Started v (segments d) extra (fresh_words v d extra)

module _ (v : ℕ) (d : List ℕ) (extra : ℕ) where
  of_fresh : (Q : Outcome → Type 0)
      → (Begun v d extra → Q (success (first_data d) (v - first_data d) 0 (record { segment = 1; slot = 1 }) (fresh_words v d extra)))
      → (fresh v d extra).answer.number ≡ 0 → Q (fresh v d extra)
  unfolding fresh fresh_words refuse
  of_fresh Q f = go (bad1 v d) refl (leb extra 16) refl
    where
      go : (x : Bool) → bad1 v d ≡ x → (y : Bool) → leb extra 16 ≡ y → (fresh v d extra).answer.number ≡ 0 → Q (fresh v d extra)
      go true i y j h = absurd (let z : 1 ≡ 0 = rw i at h in omega arith)
      go false i false j h = absurd (let z : 2 ≡ 0 = rw (i, j) at h in omega arith)
      go false i true j h =
          let r = rule1-holds v d i in
          let l = leb-true extra 16 j in
          rw (i, j) (f (record { rule = r; most = l; started = is-started v (segments d) extra r.some l }))

  pub kept_by_fresh : (fresh v d extra).answer.number ≡ 0 → KeptByFresh v (fresh v d extra).words
  unfolding success
  kept_by_fresh =
      of_fresh (λ (o : Outcome). KeptByFresh v o.words)
      (λ b.
      let r = b.rule in
      started_kept v (segments d) extra _ r.some r.few b.most r.room r.wide b.started)

  pub points_by_fresh : (fresh v d extra).answer.number ≡ 0 → Points (fresh v d extra).words (fresh v d extra).answer (λ e. kind e ≡ Empty)
  unfolding success
  points_by_fresh =
      of_fresh (λ (o : Outcome). Points o.words o.answer (λ e. kind e ≡ Empty))
      (λ b.
      let r = b.rule in
      started_points v (segments d) extra _ r.some r.few b.most r.room r.wide b.started)
