-- Document 01, 'Case file': the text of a record's line, and of a whole file. Assumes nothing.
use Rattle.std.specs.Prelude.{List, [], ◌∷◌, ◌++◌, ℕ, ◌+◌, take, Option, Some, None, Result, Ok, Err, codes}
use Rattle.refusal.specs.declared.Refusal.{Refusal}
use Rattle.refusal.specs.Numbers.{number_of}
use Rattle.x86_64_kind.specs.Kinds.{shape_of, skips}
use Rattle.rules.specs.Answer.{Answer, flag}
use Rattle.rules.specs.Record.{link_limit}
use Rattle.rules.specs.Rewrite.{relaxing, after_relaxing}
use Rattle.x86_64_apply.specs.declared.Moved.{Moved}
use Rattle.relax.specs.declared.Relaxed.{Relaxed}
use Rattle.relax.specs.Answers.{relaxed_of}
use Rattle.case_read.specs.Record.{Record}
use Rattle.case_read.specs.Reading.{records}
use Rattle.case_file.specs.Text.{decimal, signed_decimal, hex, spaced}

-- ---- a record's line

-- a decimal and a space
abbrev pub field : ℕ → List ℕ
field n = spaced (decimal n)

-- the section, and the line's end
unfoldable pub line_end : List ℕ → List ℕ
line_end s = hex s ++ (10 ∷ [])

-- "new offset, new addend"
unfoldable pub moved_fields : Moved → List ℕ
moved_fields m = field m.offset ++ spaced (signed_decimal m.addend)

-- "kind .., instruction offset or 0, new offset, new addend, new type, skip 0/1, mandatory 0/1"
unfoldable pub relaxed_fields : Relaxed → List ℕ
relaxed_fields x =
    field (shape_of x.relaxation.kind).number ++ field (shape_of x.relaxation.kind).inst_offset ++ moved_fields x.moved ++ field x.relaxation.new_type ++ field (flag (skips x.relaxation.kind)) ++ field (flag x.relaxation.mandatory)

-- "Other lines: `N none HEX`, `N refused R HEX`"
abbrev pub fields : Result (Option Relaxed) Refusal → List ℕ
fields (Ok (Some x)) = relaxed_fields x
fields (Ok None) = spaced (codes "none")
fields (Err e) = spaced (codes "refused") ++ field (number_of e)

-- "A line: record number from 1, .., section in hex or "-"": number, answer, the section then
unfoldable pub line : ℕ → Result (Option Relaxed) Refusal → List ℕ → List ℕ
line n a s = field n ++ fields a ++ line_end s

-- ---- a file's text

-- "It relaxes each record alone .. After 10 to 13 HEX is "-""
unfoldable pub line_of : ℕ → Answer Record → List ℕ
line_of n (Ok c) =
    let a = relaxing link_limit c.section c.rel in
    line n (relaxed_of a) (after_relaxing c.section a)
line_of n (Err e) = line n (Err e) []

-- the lines of these records, from a number on
abbrev pub lines : ℕ → List (Answer Record) → List ℕ
lines n [] = []
lines n (r ∷ rs) = line_of n r ++ lines (n + 1) rs

-- "At most 65,536 bytes are read, and the file counts as ending there"
unfoldable pub text : List ℕ → List ℕ
text file = lines 1 (records (take 65536 file))
