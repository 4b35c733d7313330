-- Document 01's sample prints what it says: antt computes it. Assumes nothing.
use mathlib.Core.Path.{refl}
use Rattle.rules.proofs.OnLiterals.{relaxing_on_literals}
use Rattle.case_read.specs.Reading.{first, records}
use Rattle.hex.specs.Hex.{encode_with}
use Rattle.case_file.specs.Text.{decimal, signed_decimal, hex, spaced}
use Rattle.case_file.specs.CaseFile.{line_end, moved_fields, relaxed_fields, line, line_of, text}
use Rattle.case_file.specs.Sample.{SampleHolds}

pub sample_holds : SampleHolds
unfolding relaxing_on_literals decimal signed_decimal encode_with hex spaced first records line_end moved_fields relaxed_fields line line_of text
sample_holds = record { holds = refl }
