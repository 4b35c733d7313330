-- Document 01's sample of a case file: its bytes, and the text that it prints. Assumes nothing.
use Rattle.std.specs.Prelude.{◌≡◌, List, [], ◌∷◌, ◌++◌, ℕ}
use Rattle.case_file.specs.CaseFile.{text}

-- two records: type 42 with its section of 7 bytes, and type 2 with none
abbrev pub sample : List ℕ
sample =
    (0x52 ∷ 0x58 ∷ 0x2A ∷ 0x01 ∷ 0x00 ∷ 0x01 ∷ 0x03 ∷ 0x00 ∷ 0x07 ∷ 0x00 ∷ 0x00 ∷ 0x10 ∷ 0x40 ∷ 0x00 ∷ 0x00 ∷ 0x00 ∷ 0x00 ∷ 0x00 ∷ 0xFC ∷ 0xFF ∷ 0xFF ∷ 0xFF ∷ 0xFF ∷ 0xFF ∷ 0xFF ∷ 0xFF ∷ 0x4C ∷ 0x8B ∷ 0x2D ∷ 0x00 ∷ 0x00 ∷ 0x00 ∷ 0x00 ∷ [])
    ++ (0x52 ∷ 0x58 ∷ 0x02 ∷ 0x08 ∷ 0x04 ∷ 0x00 ∷ 0x00 ∷ 0x00 ∷ 0x00 ∷ 0x00 ∷ 0x00 ∷ 0x00 ∷ 0x00 ∷ 0x00 ∷ 0x00 ∷ 0x00 ∷ 0x00 ∷ 0x00 ∷ 0xFC ∷ 0xFF ∷ 0xFF ∷ 0xFF ∷ 0xFF ∷ 0xFF ∷ 0xFF ∷ 0xFF ∷ [])

-- `1 2 3 3 0 11 0 0 49c7c500000000` and `2 9 0 0 -4 4 0 1 -`, in ASCII, each with its line's end
abbrev pub printed : List ℕ
printed =
    (49 ∷ 32 ∷ 50 ∷ 32 ∷ 51 ∷ 32 ∷ 51 ∷ 32 ∷ 48 ∷ 32 ∷ 49 ∷ 49 ∷ 32 ∷ 48 ∷ 32 ∷ 48 ∷ 32 ∷ 52 ∷ 57 ∷ 99 ∷ 55 ∷ 99 ∷ 53 ∷ 48 ∷ 48 ∷ 48 ∷ 48 ∷ 48 ∷ 48 ∷ 48 ∷ 48 ∷ 10 ∷ [])
    ++ (50 ∷ 32 ∷ 57 ∷ 32 ∷ 48 ∷ 32 ∷ 48 ∷ 32 ∷ 45 ∷ 52 ∷ 32 ∷ 52 ∷ 32 ∷ 48 ∷ 32 ∷ 49 ∷ 32 ∷ 45 ∷ 10 ∷ [])

pub record SampleHolds : Type 0 where
  pub holds : text sample ≡ printed
