-- How far a case file is read. Which bytes come no contract can say; that none is passed over, and that the offset which a complaint names counts
-- them, these do, for a reader whose bytes are known.
use Rattle.std.specs.Prelude.{◌≡◌, ℕ, ◌+◌, ◌-◌, ◌%◌, ◌^◌, List, length, Option}
use Rattle.std.specs.Io.KnownBytes.{Consumes}
use Rattle.cases.specs.declared.input.CaseFile.{CaseFile}
use Rattle.cases.specs.declared.stops.Why.{Why}
use Rattle.cases.specs.declared.stops.Stop.{Stop}
use Rattle.cases.specs.declared.stops.Stop.TheVariants as Stops
use Rattle.cases.specs.declared.stops.Fault.TheVariants as Faults

-- these bytes were read; the offset would begin anew behind 64 bits
pub record Took {R : Type 0} (remaining : R → Option (List ℕ)) (old new : CaseFile R) (bytes : List ℕ) : Type 0 where
  pub lost : Consumes (remaining old.reader) (remaining new.reader) bytes
  pub offset : new.offset ≡ (old.offset + length bytes) % 2 ^ 64

-- some bytes were read, or none
pub record Further {R : Type 0} (remaining : R → Option (List ℕ)) (old new : CaseFile R) : Type 0 where
  pub bytes : List ℕ
  pub lost : Consumes (remaining old.reader) (remaining new.reader) bytes
  pub offset : new.offset % 2 ^ 64 ≡ (old.offset + length bytes) % 2 ^ 64

-- the run ends at a number that can't be taken, which begins so many bytes before the next
abbrev pub RefusesAt : {R : Type 0} → CaseFile R → Why → ℕ → ℕ → Stop → Type 0
RefusesAt file why number back stop = stop ≡ Stops.Fault (Faults.Refused why number ((file.offset + (2 ^ 64 - back)) % 2 ^ 64))
