-- Document 01, 'Case file': the records of a file. Assumes nothing.
use Rattle.std.specs.Prelude.{Bool, not, cond, ◌&&◌, List, [], ◌∷◌, ℕ, zero, suc, ◌+◌, ◌-◌, eqb, leb, ltb, length, slice_index, take, drop, Option, Some, None, Ok, Err}
use Rattle.std.specs.Int.{w16, w64, from_le_bytes}
use Rattle.refusal.specs.declared.Refusal.TheVariants.{WrongMark, FileEndsInside, ExecutableByte, RecordTooLong}
use Rattle.rules.specs.Answer.{Answer}
use Rattle.rules.specs.Record.{relocation}
use Rattle.rules.specs.Range.{signed64}
use Rattle.case_read.specs.Record.{Record}

-- ---- a record, at the start of these bytes

module _ (bytes : List ℕ) where
  abbrev pub byte_of : ℕ → ℕ
  byte_of k = slice_index bytes k

  -- "all low byte first": numbers of two bytes and of eight
  abbrev pub two_of : ℕ → ℕ
  two_of k = from_le_bytes w16 (take 2 (drop k bytes))

  abbrev pub eight_of : ℕ → ℕ
  eight_of k = from_le_bytes w64 (take 8 (drop k bytes))

  -- "mark 52 58"
  abbrev pub marked : Bool
  marked = eqb (byte_of 0) 0x52 && eqb (byte_of 1) 0x58

  -- "then type, flags, output kind, executable (a byte each), offset and length (2 each), address and addend (8 each) .., then the section"; "a signed
  -- addend"
  abbrev pub case_of : Record
  case_of =
      record {
        rel = relocation (byte_of 2) (two_of 6) (byte_of 3) (byte_of 4) (eqb (byte_of 5) 1) (eight_of 10) (signed64 (eight_of 18));
        section = take (two_of 8) (drop 26 bytes);
      }

  -- "11 when 1 to 25 bytes remain, then 10, 12, 13, then 11 when the section bytes are short"
  unfoldable pub first : Answer Record
  first =
      cond (ltb (length bytes) 26) (Err FileEndsInside)
      (cond (not marked) (Err WrongMark)
      (cond (ltb 1 (byte_of 5)) (Err ExecutableByte)
      (cond (ltb 4096 (two_of 8)) (Err RecordTooLong)
      (cond (ltb (length bytes - 26) (two_of 8)) (Err FileEndsInside) (Ok case_of)))))

-- ---- a file

-- "File: no byte left ends it"
abbrev pub read_at : List ℕ → ℕ → Option (Answer Record)
read_at file at = cond (leb (length file) at) None (Some (first (drop at file)))

-- what is left after a record: after 10 to 13 "reading stops"
abbrev pub rest_after : List ℕ → Answer Record → List ℕ
rest_after bytes (Ok c) = drop (26 + length c.section) bytes
rest_after bytes (Err e) = []

-- the records of these bytes, k of them at most
abbrev pub records_in : ℕ → List ℕ → List (Answer Record)
records_in zero bytes = []
records_in (suc k) bytes = cond (eqb (length bytes) 0) [] (first bytes ∷ records_in k (rest_after bytes (first bytes)))

-- one after the other; there are no more records than bytes
unfoldable pub records : List ℕ → List (Answer Record)
records file = records_in (length file) file
