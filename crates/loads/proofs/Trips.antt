-- What the writer makes, the reader reads back. A block that the writer makes is a right block, whatever stands behind it; so it is passed with its
-- data stored. Blocks that are passed one after the other are passed together, and behind them the end block ends the file.
use Prim.Native.Nat.{ℕ, zero, suc, ◌+◌, ◌*◌, ◌-◌, ◌/◌, ◌%◌, ◌≤◌, ◌<◌}
use native.Mathlib.Nat.{add-zero, zero-add, suc-add, mod-add-div, div-add-mod'}
use native.Mathlib.Omega.{arith}
use mathlib.Core.Path.{◌≡◌, refl, sym, ap, ◌∙◌}
use mathlib.Core.List.{List, [], ◌∷◌, ◌++◌, append_assoc}
use borrow.Author.Tests.{eq-eqb, ne_eqb, eqb-false}
use lib.ListN.{length, get_or, take, drop, length-append}
use lib.Seq.{take-append_seam, drop-append_seam}
use Rattle.loads.specs.Memory.{byte_at, put_byte, puts, bytes_at}
use Rattle.loads.specs.Blocks.{pair_at, count_of, address_of, data_count, data_of, byte_sum, whole_block, is_end_block, right_block, block_by, part_of}
use Rattle.loads.specs.Reading.{read_from, fill_from}
use Rattle.loads.specs.Writing.{checksum, body, block, full_blocks, short_block, load_file}
use Rattle.loads.specs.declared.Part.TheVariants.{Block, End}
use Rattle.loads.proofs.Bytes.{length-bytes}
use Rattle.loads.proofs.Parts.{Right, number-right, part_block}
use Rattle.loads.proofs.Streams.{reads_on, reads-last, fills-on, fills-last}

-- lengths and sums
pub length-block : (a : ℕ) (ds : List ℕ) → length (block a ds) ≡ 7 + length ds
unfolding block body
length-block a ds = let e = length-append ds (checksum (body a ds) ∷ []) in omega arith

pub total_both : (xs ys : List ℕ) → byte_sum (xs ++ ys) ≡ byte_sum xs + byte_sum ys
unfolding byte_sum
total_both [] ys = omega arith
total_both (x ∷ xs) ys = let e = total_both xs ys in omega arith

made-zero : (n : ℕ) → (n + byte_sum ((256 - n % 256) % 256 ∷ [])) % 256 ≡ 0
unfolding byte_sum
made-zero n = omega arith

total-block : (a : ℕ) (ds : List ℕ) → byte_sum (block a ds) % 256 ≡ 0
unfolding block checksum
total-block a ds = rw (total_both (body a ds) (checksum (body a ds) ∷ [])) (made-zero (byte_sum (body a ds)))

-- what a block says, before whatever follows it
count-block : (a : ℕ) (ds rest : List ℕ) → count_of (block a ds ++ rest) ≡ 6 + length ds
unfolding count_of pair_at block body
count-block a ds rest = mod-add-div (6 + length ds) 256

address_block : (a : ℕ) (ds rest : List ℕ) → address_of (block a ds ++ rest) ≡ a
unfolding address_of pair_at block body
address_block a ds rest = mod-add-div a 256

data_count_lem : (a : ℕ) (ds rest : List ℕ) → data_count (block a ds ++ rest) ≡ length ds
unfolding data_count
data_count_lem a ds rest = omega (arith, count-block a ds rest)

behind-header : (a : ℕ) (ds rest : List ℕ) → take (length ds) (drop 6 (block a ds ++ rest)) ≡ ds
unfolding block body
behind-header a ds rest = rw (append_assoc ds (checksum (body a ds) ∷ []) rest) (take-append_seam ds _)

data_block : (a : ℕ) (ds rest : List ℕ) → data_of (block a ds ++ rest) ≡ ds
unfolding data_of
data_block a ds rest = rw (data_count_lem a ds rest) (behind-header a ds rest)

whole-block : (a : ℕ) (ds rest : List ℕ) → whole_block (block a ds ++ rest) ≡ block a ds
unfolding whole_block
whole-block a ds rest =
    let n : count_of (block a ds ++ rest) + 1 ≡ length (block a ds) = omega (arith, count-block a ds rest, length-block a ds) in
    rw n (take-append_seam (block a ds) rest)

behind-block : (a n : ℕ) (ds rest : List ℕ) → n ≡ length ds + 7 → drop n (block a ds ++ rest) ≡ rest
behind-block a n ds rest e =
    let k : n ≡ length (block a ds) = omega (arith, length-block a ds) in
    rw k (drop-append_seam (block a ds) rest)

starts : (a : ℕ) (ds rest : List ℕ) → (get_or (block a ds ++ rest) 0 0 ≡ 1) × (get_or (block a ds ++ rest) 1 0 ≡ 0)
unfolding block body
starts a ds rest = (refl, refl)

-- so it is right, where its data are inside the memory
block-right : (l a : ℕ) (ds rest : List ℕ) → (0 < length ds → a + length ds ≤ l) → Right l (block a ds ++ rest)
unfolding is_end_block
block-right l a ds rest h =
    let s = block a ds ++ rest in
    let n = count-block a ds rest in
    let e = length-append (block a ds) rest in
    record {
      one = (starts a ds rest).0;
      zero = (starts a ds rest).1;
      counted = omega arith;
      inside = λ f. let k = eqb-false (count_of s) 6 f in rw (address_block a ds rest, data_count_lem a ds rest) (h (omega arith));
      whole = omega (arith, n, e, length-block a ds);
      sum = rw (whole-block a ds rest) (total-block a ds);
    }

-- the part that it is: a data block, or the end block
part_data : (l a : ℕ) (ds rest : List ℕ) → 0 < length ds → a + length ds ≤ l → part_of l (block a ds ++ rest) ≡ Block a (length ds)
unfolding block_by right_block is_end_block
part_data l a ds rest h k =
    let s = block a ds ++ rest in
    let n = count-block a ds rest in
    let e = length-append (block a ds) rest in
    part_block l s (omega (arith, e, length-block a ds)) (λ f. omega (arith, (starts a ds rest).0))
    ∙ rw (
      number-right l s (block-right l a ds rest (λ j. k)),
      ne_eqb (count_of s) 6 (λ f. omega arith),
      address_block a ds rest,
      data_count_lem a ds rest,
    )

part_end : (l t : ℕ) (rest : List ℕ) → part_of l (block t [] ++ rest) ≡ End t
unfolding block_by right_block is_end_block
part_end l t rest =
    let s = block t [] ++ rest in
    let e = length-append (block t []) rest in
    part_block l s (omega (arith, e, length-block t [])) (λ f. omega (arith, (starts t [] rest).0))
    ∙ rw (
      number-right l s (block-right l t [] rest (λ j. absurd (omega arith))),
      eq-eqb (count_of s) 6 (count-block t [] rest),
      address_block t [] rest,
    )

-- bytes that are passed, whatever follows them, and make the memory w to v
abbrev Passed : ℕ → List ℕ → List ℕ → List ℕ → Type 0
Passed l s w v = (rest : List ℕ) → (read_from l 0 (s ++ rest) ≡ read_from l 0 rest) × (fill_from l 0 (s ++ rest) w ≡ fill_from l 0 rest v)

pass_none : (l : ℕ) (w : List ℕ) → Passed l [] w w
pass_none l w rest = (refl, refl)

pass_both : (l : ℕ) (s z w v u : List ℕ) → Passed l s w v → Passed l z v u → Passed l (s ++ z) w u
pass_both l s z w v u f g rest =
    rw (append_assoc s z rest)
    ((f (z ++ rest)).0 ∙ (g rest).0, (f (z ++ rest)).1 ∙ (g rest).1)

pass_block : (l a : ℕ) (ds w : List ℕ) → 0 < length ds → a + length ds ≤ l → Passed l (block a ds) w (puts a ds w)
pass_block l a ds w h k rest =
    let s = block a ds ++ rest in
    let p = part_data l a ds rest h k in
    let d : drop (length ds + 6 + 1) s ≡ rest = behind-block a (length ds + 6 + 1) ds rest (omega arith) in (
      reads_on l s (rw p) ∙ rw (p, d),
      fills-on l s w (rw p) ∙ rw (p, d, data_block a ds rest),
    )

-- bytes of a memory, one list after another
pub bytes_both : (m : List ℕ) (a j k : ℕ) → bytes_at m a (j + k) ≡ bytes_at m a j ++ bytes_at m (a + j) k
unfolding bytes_at
bytes_both m a zero k = rw (zero-add k, add-zero a)
bytes_both m a (suc j) k =
    let e : a + suc j ≡ a + 1 + j = omega arith in
    rw (suc-add j k, e) (ap {B = List ℕ} (λ l. byte_at m a ∷ l) (bytes_both m (a + 1) j k))

puts_both : (a : ℕ) (xs ys m : List ℕ) → puts a (xs ++ ys) m ≡ puts (a + length xs) ys (puts a xs m)
unfolding puts
puts_both a [] ys m = rw (add-zero a)
puts_both a (x ∷ xs) ys m =
    let e : a + suc (length xs) ≡ a + 1 + length xs = omega arith in
    rw e (puts_both (a + 1) xs ys (put_byte a x m))

-- j bytes from a on, then k more
puts-bytes : (m : List ℕ) (a j k : ℕ) (w : List ℕ)
    → puts (a + j) (bytes_at m (a + j) k) (puts a (bytes_at m a j) w) ≡ puts a (bytes_at m a (j + k)) w
puts-bytes m a j k w =
    sym
    (rw (bytes_both m a j k)
    (puts_both a (bytes_at m a j) (bytes_at m (a + j) k) w
    ∙ rw (length-bytes m a j)))

no_bytes_lem : (l : ℕ) (m : List ℕ) (a : ℕ) (w : List ℕ) → Passed l [] w (puts a (bytes_at m a 0) w)
unfolding bytes_at puts
no_bytes_lem l m a w = pass_none l w

-- all blocks of 128 bytes, and the shorter one
pass_full : (l : ℕ) (m : List ℕ) (a k : ℕ) (w : List ℕ) → a + k * 128 ≤ l
    → Passed l (full_blocks m a k) w (puts a (bytes_at m a (k * 128)) w)
unfolding full_blocks
pass_full l m a zero w h = let e : zero * 128 ≡ 0 = omega arith in rw e (no_bytes_lem l m a w)
pass_full l m a (suc k) w h =
    let n : length (bytes_at m a 128) ≡ 128 = length-bytes m a 128 in
    let e : suc k * 128 ≡ 128 + k * 128 = omega arith in
    rw (e, ← puts-bytes m a 128 (k * 128) w)
    (pass_both l (block a (bytes_at m a 128)) (full_blocks m (a + 128) k) w (puts a (bytes_at m a 128) w) _
    (pass_block l a (bytes_at m a 128) w (omega arith) (omega arith))
    (pass_full l m (a + 128) k (puts a (bytes_at m a 128) w) (omega arith)))

pass_short : (l : ℕ) (m : List ℕ) (a n : ℕ) (w : List ℕ) → a + n ≤ l → Passed l (short_block m a n) w (puts a (bytes_at m a n) w)
unfolding short_block
pass_short l m a zero w h = no_bytes_lem l m a w
pass_short l m a (suc n) w h =
    let e : length (bytes_at m a (suc n)) ≡ suc n = length-bytes m a (suc n) in
    rw (ne_eqb (suc n) 0 (λ j. omega arith)) (pass_block l a (bytes_at m a (suc n)) w (omega arith) (omega arith))

-- the whole file, read over a memory w of l bytes that has the range, with anything behind it
pub file-read : (l : ℕ) (m : List ℕ) (a n t : ℕ) (w rest : List ℕ) → a + n ≤ l
    → (read_from l 0 (load_file m a n t ++ rest) ≡ record { number = 0; transfer = t })
    × (fill_from l 0 (load_file m a n t ++ rest) w ≡ puts a (bytes_at m a n) w)
unfolding load_file
file-read l m a n t w rest h =
    let q : ℕ = n / 128 * 128 in
    let e : q + n % 128 ≡ n = div-add-mod' n 128 in
    let front = full_blocks m a (n / 128) ++ short_block m (a + q) (n % 128) in
    let v = puts a (bytes_at m a n) w in
    let f : puts (a + q) (bytes_at m (a + q) (n % 128)) (puts a (bytes_at m a q) w) ≡ v =
    puts-bytes m a q (n % 128) w ∙ ap (λ (j : ℕ). puts a (bytes_at m a j) w) e in
    let passed : Passed l front w v =
    pass_both l (full_blocks m a (n / 128)) (short_block m (a + q) (n % 128)) w (puts a (bytes_at m a q) w) v
    (pass_full l m a (n / 128) w (omega arith))
    (rw (← f) (pass_short l m (a + q) (n % 128) (puts a (bytes_at m a q) w) (omega arith))) in
    let p = part_end l t rest in
    let s = block t [] ++ rest in
    rw (append_assoc front (block t []) rest) (
      (passed s).0 ∙ reads-last l s (rw p) ∙ rw p,
      (passed s).1 ∙ fills-last l s v (rw p),
    )
