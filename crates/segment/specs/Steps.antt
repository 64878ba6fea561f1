-- What the inner routines promise, slot by slot; no contract of a whole segment speaks of these.
use Rattle.std.specs.Prelude.{ℕ, ◌+◌, Bool, true, false, cond, ◌||◌, List, length, Option, Some, None}
use Rattle.meaning.specs.declared.Kind.{Kind}
use Rattle.meaning.specs.declared.Kind.TheVariants.{Tentative, Empty, Permanent, End, Unknown}
use Rattle.meaning.specs.Words.{Entry, blocks, kind, upto, total}
use Rattle.walks.specs.Scan.{long_named, scan_bad}
use Rattle.segment.specs.declared.scan.Step.{Step}
use Rattle.segment.specs.declared.scan.Step.TheVariants.{Bad, Marker, Next}
use Rattle.segment.specs.declared.scan.Sum.{Sum}

-- what a slot says, by its kind. p: a tentative entry stands directly before it; b: a name word is above 63,999; n: its length
abbrev pub named_step : Bool → Bool → ℕ → Bool → Step
named_step p b n t = cond (p || b) Bad (Next n t)

abbrev pub step_by : Kind → Bool → Bool → ℕ → Step
step_by End p b n = cond p Bad Marker
step_by Empty p b n = Next n false
step_by Permanent p b n = named_step p b n false
step_by Tentative p b n = named_step p b n true
step_by Unknown p b n = Bad

-- the same of the slot's words
unfoldable pub slot_step : Bool → Entry → Step
slot_step p e = step_by (kind e) p (long_named e) (blocks e)

-- the scan's answer with the slots es still ahead, after k entries of t blocks in all
unfoldable pub scan_from : Bool → List Entry → ℕ → ℕ → Option Sum
scan_from p es k t = cond (scan_bad p es) None (Some (record { count = k + length (upto es); blocks = t + total (upto es) }))
