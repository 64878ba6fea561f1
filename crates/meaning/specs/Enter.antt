-- Enter (document 01, "Requests"), by the five numbered steps of the document.
use Rattle.std.specs.Prelude.{ℕ, suc, ◌+◌, ◌*◌, ◌-◌, ◌/◌, max, Bool, true, false, cond, ◌&&◌, ◌||◌, not, List, [], ◌∷◌, ◌++◌, map, length, get_or, take, drop, set, ℤ, pos, negsuc, eqb, leb, ltb}
use Rattle.std.proofs.Math.Option.{Option, none, some}
use Rattle.dates.specs.Dates.{good_date}
use Rattle.meaning.specs.declared.Name.{Name}
use Rattle.meaning.specs.declared.Position.{Position}
use Rattle.meaning.specs.Kinds.{tentative_status, is_tentative, is_empty}
use Rattle.meaning.specs.Words.{segments, segment, total_of, link_of, extra_bytes_of, first_of, highest, slot_words, capacity, Entry}
use Rattle.meaning.specs.Words.{length_word, kind, blocks, entries, total, chain}
use Rattle.meaning.specs.Keys.{spared}
use Rattle.meaning.specs.Sound.{any, begins_empty}
use Rattle.meaning.specs.Answers.{Outcome, refuse, success, if_sound, unless, is_none, open_on}
use Rattle.meaning.specs.Requests.{legal, good_channel, word_of, over_protected, entry_of, empty_entry, render}

-- A size is -1 for the longest, 0 for RT-11's default, or 1 to 65,535 blocks; any other is wrong
pub data Size : Type 0 where
  longest default wrong : Size
  exact : ℕ → Size

unfoldable pub size_of : ℤ → Size
size_of (pos n) = cond (eqb n 0) default (cond (leb n 65535) (exact n) wrong)
size_of (negsuc n) = cond (eqb n 0) longest wrong

abbrev pub good_size : Size → Bool
good_size longest = true
good_size default = true
good_size wrong = false
good_size (exact n) = true

-- 1. Tidy. An area is an empty entry
abbrev pub is_area : Entry → Bool
is_area e = is_empty (kind e)

-- from the last entry to the first, an area takes over the length of an area directly behind it, which goes
abbrev pub join_to : Entry → List Entry → List Entry
join_to e [] = e ∷ []
join_to e (f ∷ fs) = cond (is_area e && is_area f) (set e length_word (blocks e + blocks f) ∷ fs) (e ∷ f ∷ fs)

unfoldable pub joined : List Entry → List Entry
joined [] = []
joined (e ∷ es) = join_to e (joined es)

-- areas of length 0 go, but for one that a tentative entry needs behind it: p says whether such a one precedes the first entry
unfoldable pub drop_zero : Bool → List Entry → List Entry
drop_zero p [] = []
drop_zero p (e ∷ es) =
    let r = drop_zero (is_tentative (kind e)) es in
    cond (is_area e && eqb (blocks e) 0 && not p) r (e ∷ r)

unfoldable pub tidy : List Entry → List Entry
tidy es = drop_zero false (joined es)

-- the directory with segment s replaced
unfoldable pub with_segment : List ℕ → ℕ → List ℕ → List ℕ
with_segment d s g = take (512 * (s - 1)) d ++ g ++ drop (512 * s) d

unfoldable pub header_of : List ℕ → ℕ → List ℕ
header_of d s = take 5 (segment d s)

-- a run longer than one: an empty entry directly before another
unfoldable pub has_run : List Entry → Bool
has_run [] = false
has_run (e ∷ es) = let r = has_run es in (is_area e && begins_empty es) || r

-- a sum that is dropped, of a run of one: an empty entry of length 0 with no tentative entry directly before it, of which p tells
unfoldable pub has_zero : Bool → List Entry → Bool
has_zero p [] = false
has_zero p (e ∷ es) = let r = has_zero (is_tentative (kind e)) es in (is_area e && eqb (blocks e) 0 && not p) || r

-- the tidy changes entries that have a run longer than one, or a sum dropped
unfoldable pub untidy : List Entry → Bool
untidy es = has_run es || has_zero false es

-- only a segment that the tidy changes is written anew, and then with zeros behind its marker
unfoldable pub tidied_at : List ℕ → ℕ → List ℕ
tidied_at d s =
    let es = entries d s in
    cond (untidy es) (with_segment d s (render (header_of d s) (tidy es))) d

-- one segment in use after the other
unfoldable pub tidied : List ℕ → List ℕ → List ℕ
tidied d [] = d
tidied d (s ∷ ss) = tidied (tidied_at d s) ss

-- 2. An area: its segment, how many entries of the segment stand before it, its first block and length, what it costs in slots, and
-- whether it is eligible
pub record Area : Type 0 where
  pub seg : ℕ
  pub before : ℕ
  pub first : ℕ
  pub size : ℕ
  pub cost : ℕ
  pub eligible : Bool

-- The slots that an area costs: one for the new entry, and one more for an area of length 0 where the entry before needs its own
unfoldable pub cost_after : Bool → ℕ
cost_after p = cond p 2 1

-- there are slots for it in its segment, or a segment that is not yet in use to split into
unfoldable pub has_room : List ℕ → List Entry → ℕ → Bool
has_room d es cost = leb (length es + cost) (capacity d) || ltb (highest d) (segments d)

-- The areas among entries of segment s, after k others, from block b on; p says whether a tentative entry precedes them. An area may be
-- taken where it has a block and its slots can be had
unfoldable pub areas_in : (ℕ → Bool) → ℕ → ℕ → ℕ → Bool → List Entry → List Area
areas_in room s k b p [] = []
areas_in room s k b p (e ∷ es) =
    let r = areas_in room s (k + 1) (b + blocks e) (is_tentative (kind e)) es in
    cond (is_area e)
    (record {
      seg = s;
      before = k;
      first = b;
      size = blocks e;
      cost = cost_after p;
      eligible = leb 1 (blocks e) && room (cost_after p);
    }
    ∷ r)
    r

-- of the tidied directory t, in chain order
unfoldable pub areas : List ℕ → List ℕ → List Area
areas t [] = []
areas t (s ∷ ss) =
    let es = entries t s in
    areas_in (has_room t es) s 0 (first_of (segment t s)) false es ++ areas t ss

-- 3. Choose
unfoldable pub eligibles : List Area → List Area
eligibles [] = []
eligibles (a ∷ as') = let r = eligibles as' in cond a.eligible (a ∷ r) r

unfoldable pub longest_of : List ℕ → ℕ
longest_of [] = 0
longest_of (n ∷ ns) = max n (longest_of ns)

-- a list without the first n in it
unfoldable pub without : ℕ → List ℕ → List ℕ
without n [] = []
without n (m ∷ ms) = let r = without n ms in cond (eqb m n) ms (m ∷ r)

-- the longest once one of the longest is taken away, so that two areas of one length count as two
unfoldable pub second_of : List ℕ → ℕ
second_of ns = longest_of (without (longest_of ns) ns)

-- How many blocks a size comes to, from the lengths of the areas that may be taken: the longest whole; half of it, but no less than the
-- second longest, where half a block counts as one; or the number itself
unfoldable pub wanted : Size → List ℕ → ℕ
wanted longest ns = longest_of ns
wanted default ns = max ((longest_of ns + 1) / 2) (second_of ns)
wanted wrong ns = 0
wanted (exact n) ns = n

-- how long an area must be for refusals 11 and 12: a size that names no number needs one block
unfoldable pub at_least : Size → ℕ
at_least longest = 1
at_least default = 1
at_least wrong = 1
at_least (exact n) = n

-- some area has so many blocks
unfoldable pub long_enough : ℕ → List Area → Bool
long_enough n as' = any (λ r. leb n r.size) as'

-- the first area that has so many blocks
unfoldable pub first_fit : ℕ → List Area → Option Area
first_fit n [] = none
first_fit n (a ∷ as') = let r = first_fit n as' in cond (leb n a.size) (some a) r

-- 4. Split. Half of the entries stay, rounded down; a tentative one at the end of these keeps its area with it
unfoldable pub ends_tentative : List Entry → Bool
ends_tentative [] = false
ends_tentative (e ∷ []) = is_tentative (kind e)
ends_tentative (e ∷ f ∷ es) = ends_tentative (f ∷ es)

unfoldable pub kept : List Entry → ℕ
kept es = let h = length es / 2 in cond (ends_tentative (take h es)) (h + 1) h

-- 5. Insert. The new entry goes directly before its area, which stands after k entries of es and gives up n blocks; where the entry before
-- it is tentative, an area of length 0 comes between
unfoldable pub inserted : ℕ → Entry → ℕ → ℕ → ℕ → List Entry → List Entry
inserted w new n cost k es =
    take k es
    ++ cond (eqb cost 2) (empty_entry w 0 ∷ []) []
    ++ new ∷ set (get_or es k []) length_word (blocks (get_or es k []) - n) ∷ drop (suc k) es

-- the new entry inserted, in the chosen segment
unfoldable pub unsplit : List ℕ → Entry → ℕ → Area → List ℕ
unsplit t new n a =
    with_segment t a.seg
    (render (header_of t a.seg) (inserted (slot_words t) new n a.cost a.before (entries t a.seg)))

-- The entries that don't stay move to the first segment not in use, which comes behind the old one in the chain and begins where that now
-- ends. The new entry goes to whichever of the two has its area
unfoldable pub split : List ℕ → Entry → ℕ → Area → List ℕ
split t new n a =
    let s = a.seg in
    let k = a.before in
    let es = entries t s in
    let h = kept es in
    let low = take h es in
    let high = drop h es in
    let next = highest t + 1 in
    let header = header_of t s in
    let new_header : List ℕ = total_of t ∷ link_of header ∷ 0 ∷ extra_bytes_of t ∷ (first_of header + total low) ∷ [] in
    let add = inserted (slot_words t) new n a.cost in
    let old = render (set header 1 next) (cond (ltb k h) (add k low) low) in
    let rest = render new_header (cond (ltb k h) high (add (k - h) high)) in
    set (with_segment (with_segment t s old) next rest) 2 next

-- a split comes only where the area's segment has not the slots
unfoldable pub entered : List ℕ → Entry → ℕ → Area → List ℕ
entered t new n a =
    let one = unsplit t new n a in
    let two = split t new n a in
    cond (leb (length (entries t a.seg) + a.cost) (capacity t)) one two

-- Where the new entry is (document 02, Req 08): in segment s after k entries it is in the last of the slots that it costs, since the area
-- of length 0, if one comes, comes before it
abbrev pub new_after : ℕ → ℕ → ℕ → Position
new_after s k cost = record { segment = s; slot = k + cost }

-- after a split it is in whichever of the two segments has its area
unfoldable pub split_at : List ℕ → Area → Position
split_at t a =
    let k = a.before in
    let h = kept (entries t a.seg) in
    cond (ltb k h) (new_after a.seg k a.cost) (new_after (highest t + 1) (k - h) a.cost)

unfoldable pub entered_at : List ℕ → Area → Position
entered_at t a =
    let one = new_after a.seg a.before a.cost in
    let two = split_at t a in
    cond (leb (length (entries t a.seg) + a.cost) (capacity t)) one two

-- success answers the tentative entry, which begins where the area began. (An eligible area is there where 12 is not given.)
abbrev pub placed : List ℕ → List ℕ → ℕ → ℕ → Entry → Option Area → Outcome
placed d t n date new none = refuse 12 d
placed d t n date new (some a) = success a.first n date (entered_at t a) (entered t new n a)

-- 11 looks at all areas, 12 at those that may be taken. Both look at the tidied words; a refusal leaves d as it was
unfoldable pub enter : ℕ → List ℕ → Name → ℤ → ℕ → ℕ → ℕ → Outcome
enter v d name asked job channel date =
    let size = size_of asked in
    let x = word_of job channel in
    let t = tidied d (chain d) in
    let all = areas t (chain d) in
    let fit = eligibles all in
    let n = wanted size (map (λ r. r.size) fit) in
    let new = entry_of (slot_words d) tentative_status name n x date in
    if_sound v d λ _.
    unless 7 (legal name) d λ _.
    unless 19 (not (spared name)) d λ _.
    unless 8 (good_channel job channel) d λ _.
    unless 9 (good_size size && good_date date) d λ _.
    unless 10 (is_none (open_on d x)) d λ _.
    unless 20 (not (over_protected d name)) d λ _.
    unless 11 (long_enough (at_least size) all) d λ _.
    unless 12 (long_enough (at_least size) fit) d λ _.
    placed d t n date new (first_fit n fit)
