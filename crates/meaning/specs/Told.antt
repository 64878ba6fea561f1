-- What code hands on inside the engine: the entry that is granted, or the refusal by its name; and the answer that either comes to.
use Rattle.std.specs.Prelude.{ℕ, Result, Ok, Err}
use Rattle.meaning.specs.declared.Answer.{Answer}
use Rattle.meaning.specs.declared.Granted.{Granted}
use Rattle.meaning.specs.declared.Refusal.{Refusal}
use Rattle.meaning.specs.declared.Refusal.TheVariants.{WrongSizes, WrongExtra, IllegalName, WrongChannel, WrongSizeOrDate, ChannelInUse, NoLongArea}
use Rattle.meaning.specs.declared.Refusal.TheVariants.{NoRoom, NoFile, NameTaken, NotOpen, WrongLength, SparedName, ProtectedFile}
use Rattle.meaning.specs.Answers.{refusal, granted}

-- the number of each refusal, as the requests give it (specs/Requests.antt and Enter.antt)
abbrev pub number_of : Refusal → ℕ
number_of WrongSizes = 1
number_of WrongExtra = 2
number_of IllegalName = 7
number_of WrongChannel = 8
number_of WrongSizeOrDate = 9
number_of ChannelInUse = 10
number_of NoLongArea = 11
number_of NoRoom = 12
number_of NoFile = 13
number_of NameTaken = 14
number_of NotOpen = 15
number_of WrongLength = 16
number_of SparedName = 19
number_of ProtectedFile = 20

-- a success tells the entry, a refusal its number and zeros
abbrev pub told : Result Granted Refusal → Answer
told (Ok e) = granted e.first e.length e.date e.position
told (Err r) = refusal (number_of r)
