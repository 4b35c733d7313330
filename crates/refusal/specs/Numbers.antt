-- The documents' numbers of the refusals, which are the code's own enum. Assumes nothing.
use Rattle.std.specs.Prelude.{ℕ}
use Rattle.refusal.specs.declared.Refusal.{Refusal}
use Rattle.refusal.specs.declared.Refusal.TheVariants.{SectionTooLong, OffsetAboveLength, FlagNumber, OutputKindNumber, InstructionOffset}
use Rattle.refusal.specs.declared.Refusal.TheVariants.{WindowNotInside, UnknownType, PltEntrySize, PltOutOfReach, WrongMark, FileEndsInside}
use Rattle.refusal.specs.declared.Refusal.TheVariants.{ExecutableByte, RecordTooLong, ValueOutOfRange, FieldNotInside}
use Rattle.refusal.specs.declared.Refusal.TheVariants.{PassEnded, OffsetBelowLast, WindowOverlap, SkipPending}

-- "Refusals from the input", those of document 02's card 4 (15, 16), and "Refusals from the state"
abbrev pub number_of : Refusal → ℕ
-- "section longer than 268,435,456"
number_of SectionTooLong = 1
-- "offset above the length"
number_of OffsetAboveLength = 2
-- "flag number above 15"
number_of FlagNumber = 3
-- "output kind above 5"
number_of OutputKindNumber = 4
-- "instruction offset not allowed"
number_of InstructionOffset = 5
-- "window not wholly inside"
number_of WindowNotInside = 6
-- "type not among the 39 (lookup only)"
number_of UnknownType = 7
-- "PLT buffer not 16 bytes"
number_of PltEntrySize = 8
-- "PLT out of reach"
number_of PltOutOfReach = 9
-- "wrong mark"
number_of WrongMark = 10
-- "file ends inside a record"
number_of FileEndsInside = 11
-- "executable byte not 0 or 1"
number_of ExecutableByte = 12
-- "record length above 4,096"
number_of RecordTooLong = 13
-- "the value is outside the type's range"
number_of ValueOutOfRange = 15
-- "the four bytes do not lie in the section"
number_of FieldNotInside = 16
-- "pass ended"
number_of PassEnded = 21
-- "offset below the last"
number_of OffsetBelowLast = 22
-- "window begins before the last window's end"
number_of WindowOverlap = 23
-- "end asked while a skip is pending"
number_of SkipPending = 24
