-- Sound directories (document 01): rules 1 to 6, and the fault's number. Each test says that its rule is broken.
use Rattle.std.specs.Prelude.{ℕ, zero, suc, ◌+◌, ◌*◌, ◌%◌, Bool, true, false, cond, ◌&&◌, ◌||◌, not, List, [], ◌∷◌, length, eqb, leb, ltb}
use Rattle.meaning.specs.declared.Name.{Name}
use Rattle.meaning.specs.Kinds.{is_tentative, is_empty, is_permanent, is_end, is_unknown}
use Rattle.meaning.specs.Words.{segments, first_data, segment, total_of, extra_bytes_of, first_of, highest, slot_words, Entry}
use Rattle.meaning.specs.Words.{name_of, kind, slots, upto, entries, total}
use Rattle.meaning.specs.Words.{reached, chain, all_entries}
use Rattle.meaning.specs.Keys.{clash}

-- whether some element of a list passes a test
module _ {A : Type 0} where
  unfoldable pub any : (A → Bool) → List A → Bool
  any p [] = false
  any p (x ∷ xs) = let r = any p xs in p x || r

-- 1: the words are not 1 to 31 whole segments, or V has no room for these, or is no 16-bit number
unfoldable pub bad1 : ℕ → List ℕ → Bool
bad1 v d =
    not
    (leb 1 (segments d)
    && leb (segments d) 31
    && eqb (length d) (512 * segments d)
    && leb (first_data d) v
    && leb v 65535)

-- 2: segment 1's header contradicts the slice: another N, no segment or more than N in use, half an extra word or more than 16
unfoldable pub bad2 : List ℕ → Bool
bad2 d =
    not
    (eqb (total_of d) (segments d)
    && leb 1 (highest d)
    && leb (highest d) (segments d)
    && eqb (extra_bytes_of d % 2) 0
    && leb (extra_bytes_of d) 32)

-- how often a number stands in a list
unfoldable pub times : ℕ → List ℕ → ℕ
times k [] = 0
times k (x ∷ xs) = let r = times k xs in cond (eqb x k) (suc r) r

-- each of 1..n stands in a list once
unfoldable pub each_once : ℕ → List ℕ → Bool
each_once zero xs = true
each_once (suc n) xs = let r = each_once n xs in eqb (times (suc n) xs) 1 && r

-- a segment's header has another N, or other extra bytes, than segment 1's
unfoldable pub differs : List ℕ → ℕ → Bool
differs d s = not (eqb (total_of (segment d s)) (total_of d) && eqb (extra_bytes_of (segment d s)) (extra_bytes_of d))

-- 3: following H links from segment 1 misses a segment in use or comes to one twice, or does not end there; or a header differs
unfoldable pub bad3 : List ℕ → Bool
bad3 d = not (each_once (highest d) (chain d) && eqb (reached (highest d) d 1) 0) || any (differs d) (chain d)

-- 4, of one segment's slots: none is the marker
unfoldable pub unmarked : List Entry → Bool
unmarked es = not (any (λ e. is_end (kind e)) es)

-- a file's name, open or finished, has a word that spells nothing
unfoldable pub long_name : Name → Bool
long_name n = ltb 63999 n.first || ltb 63999 n.second || ltb 63999 n.extension

unfoldable pub bad_name : Entry → Bool
bad_name e =
    (is_permanent (kind e) || is_tentative (kind e))
    && long_name (name_of e)

unfoldable pub begins_empty : List Entry → Bool
begins_empty [] = false
begins_empty (f ∷ fs) = is_empty (kind f)

-- some tentative entry has no area in the slot behind it
unfoldable pub alone : List Entry → Bool
alone [] = false
alone (e ∷ es) = let r = alone es in (is_tentative (kind e) && not (begins_empty es)) || r

unfoldable pub bad_slots : List Entry → Bool
bad_slots es =
    any (λ e. is_unknown (kind e)) (upto es) || unmarked es || any bad_name (upto es) || alone (upto es)

-- 4: in a segment of the chain an entry has no known kind, the marker is missing, a name spells nothing, or a tentative entry is alone
unfoldable pub bad4 : List ℕ → Bool
bad4 d = any (λ s. bad_slots (slots (slot_words d) (segment d s))) (chain d)

-- the segments fill the blocks from b up to V: each goes on at the block where the last one stopped
unfoldable pub filled : ℕ → List ℕ → ℕ → List ℕ → Bool
filled v d b [] = eqb b v
filled v d b (s ∷ ss) = let r = filled v d (b + total (entries d s)) ss in eqb (first_of (segment d s)) b && r

-- 5: the chain's entries do not fill the data blocks, from the first one up to V, without gap or overlap between segments
unfoldable pub bad5 : ℕ → List ℕ → Bool
bad5 v d = not (filled v d (first_data d) (chain d))

-- some entry clashes with a later one: two finished files share a name that is not spared, or two open files a channel word
unfoldable pub clashes : List Entry → Bool
clashes [] = false
clashes (e ∷ es) = let r = clashes es in any (clash e) es || r

-- 6: two entries clash
unfoldable pub bad6 : List ℕ → Bool
bad6 d = clashes (all_entries d)

-- the number of a rule that is broken, or else what the rules after it give
abbrev pub rule : ℕ → Bool → (Unit {0} → ℕ) → ℕ
rule n true next = n
rule n false next = next tt

-- the first rule that is broken gives the number, so that each is tried only where those before it hold; 0 for a sound directory
unfoldable pub fault : ℕ → List ℕ → ℕ
fault v d =
    rule 1 (bad1 v d) λ _.
    rule 2 (bad2 d) λ _.
    rule 3 (bad3 d) λ _.
    rule 4 (bad4 d) λ _.
    rule 5 (bad5 v d) λ _.
    rule 6 (bad6 d) λ _.
    0
