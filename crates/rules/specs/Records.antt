-- Document 01's numbers in figures, its records that are not starred and not of relaxing, and card 4's numbers of document 02. Assumes nothing.
use Rattle.std.specs.Prelude.{◌≡◌, true, false, List, [], ◌∷◌, ◌++◌, map, ℕ, zero, suc, ◌+◌, ◌-◌, ◌^◌, ℤ, pos, negsuc, length, replicate, Ok, Err}
use Rattle.rules.specs.Answer.{Answer}
use Rattle.refusal.specs.declared.Refusal.TheVariants.{FieldNotInside, OffsetAboveLength, PltEntrySize, SectionTooLong, UnknownType, ValueOutOfRange}
use Rattle.rules.specs.Range.{Range, within, unchecked}
use Rattle.rules.specs.Types.{Entry, Row, types, lookup}
use Rattle.rules.specs.Choose.{needs_fallback}
use Rattle.rules.specs.Fill.{Fill, unfilled, filled, field, filling, after_filling}
use Rattle.rules.specs.Plt.{template, plt_answer, plt_bytes}

abbrev range_at : ℕ → Answer Range
range_at t = only (lookup t) where
  only : Answer Row → Answer Range
  only (Ok r) = Ok r.range
  only (Err n) = Err n

-- k numbers from n on
abbrev from : ℕ → ℕ → List ℕ
from n zero = []
from n (suc k) = n ∷ from (suc n) k

pub record TypesWorked : Type 0 where
  -- "knows 39 types: 0–4, 9–15, 17, 19–27, 29, 31–35, 41–51"
  pub known : length types ≡ 39
  pub listed : map (λ (e : Entry). e.type) types ≡ from 0 5 ++ from 9 7 ++ from 17 1 ++ from 19 9 ++ from 29 1 ++ from 31 5 ++ from 41 11
  -- "types 2, 11 and 23 have −2,147,483,648 ≤ v < 2,147,483,648, type 10 has 0 ≤ v < 4,294,967,296"
  pub signed32 : map range_at (2 ∷ 11 ∷ 23 ∷ []) ≡ replicate 3 (Ok (within (negsuc 2147483647) (pos 2147483648)))
  pub unsigned32 : range_at 10 ≡ Ok (within (pos 0) (pos 4294967296))
  -- "Lookup 27 answers; 28 and 52: 7"
  pub lookups : map range_at (27 ∷ 28 ∷ 52 ∷ []) ≡ Ok unchecked ∷ Err UnknownType ∷ Err UnknownType ∷ []

-- `needs_got_fallback` of the new types, and of one that isn't known: of 10 and 11 alone
pub record FallbackWorked : Type 0 where
  pub fallback : map needs_fallback (0 ∷ 2 ∷ 4 ∷ 10 ∷ 11 ∷ 22 ∷ 23 ∷ 25 ∷ 52 ∷ []) ≡ false ∷ false ∷ false ∷ true ∷ true ∷ false ∷ false ∷ false ∷ false ∷ []

-- a buffer of n bytes
abbrev lent : ℕ → List ℕ
lent n = replicate n 0xa5

pub record PltWorked : Type 0 where
  -- "PLT: 8, 9"
  pub order : plt_answer (lent 15) (0x401020 + 10 + 2147483648) 0x401020 ≡ Err PltEntrySize
  -- under 9 it holds the blank template
  pub blank : plt_bytes (lent 16) (0x401020 + 10 + 2147483648) 0x401020 ≡ template
  -- 8 changes nothing
  pub short : plt_bytes (lent 15) 0x404000 0x401020 ≡ lent 15

-- a type, the bytes lent, an offset, the field's address, value and addend; sections of more than 8 bytes are too long
abbrev fill_at : ℕ → ℕ → ℕ → ℕ → ℕ → ℤ → Answer Fill
fill_at t n at p v a = filling (record { most = 8; refusal = SectionTooLong }) (lent n) (field t at p v a)

-- the types up to 52 in so many bytes, with a value that no checked range has
abbrev each : ℕ → ℕ → List (Answer Fill)
each n at = map (λ (t : ℕ). fill_at t n at 0 (2 ^ 63) (pos 0)) (from 0 53)

-- type t in four bytes, with address and addend 0
abbrev fill4 : ℕ → ℕ → Answer Fill
fill4 t v = fill_at t 4 0 0 v (pos 0)

abbrev bytes4 : ℕ → ℕ → ℕ → ℕ → Answer Fill
bytes4 a b c d = Ok (filled (a ∷ b ∷ c ∷ d ∷ []))

-- n types that are left alone, that aren't known, that are cut
abbrev left : ℕ → List (Answer Fill)
left n = replicate n (Ok unfilled)

abbrev strange : ℕ → List (Answer Fill)
strange n = replicate n (Err UnknownType)

abbrev short : ℕ → List (Answer Fill)
short n = replicate n (Err FieldNotInside)

pub record FillWorked : Type 0 where
  -- "The order is 1, 2, 7, 16, 15": each with all that come after it, of every type
  pub first : each 9 10 ≡ replicate 53 (Err SectionTooLong)
  pub second : each 3 4 ≡ replicate 53 (Err OffsetAboveLength)
  -- in an empty section 7; of "types 2, 10, 11 and 23" 16; the others none, "with no test of 16 or 15"
  pub third :
      each 0 0
      ≡ left 2 ++ short 1 ++ left 2 ++ strange 4 ++ left 1 ++ short 2 ++ left 4 ++ strange 1 ++ left 1 ++ strange 1 ++ left 4 ++ short 1 ++ left 4
      ++ strange 1 ++ left 1 ++ strange 1 ++ left 5 ++ strange 5 ++ left 11 ++ strange 1
  -- "15 when the value is outside the type's range", "read as signed": at both ends
  pub unsigned32 :
      map (fill4 10) (0 ∷ (2 ^ 32 - 1) ∷ (2 ^ 32) ∷ (2 ^ 63) ∷ (2 ^ 64 - 1) ∷ [])
      ≡ bytes4 0 0 0 0 ∷ bytes4 0xFF 0xFF 0xFF 0xFF ∷ Err ValueOutOfRange ∷ Err ValueOutOfRange ∷ Err ValueOutOfRange ∷ []
  pub signed32 :
      map (λ (t : ℕ). map (fill4 t) ((2 ^ 31 - 1) ∷ (2 ^ 31) ∷ (2 ^ 63) ∷ (2 ^ 64 - 2 ^ 31 - 1) ∷ (2 ^ 64 - 2 ^ 31) ∷ (2 ^ 64 - 1) ∷ [])) (2 ∷ 11 ∷ 23 ∷ [])
      ≡ replicate 3 (bytes4 0xFF 0xFF 0xFF 0x7F ∷ Err ValueOutOfRange ∷ Err ValueOutOfRange ∷ Err ValueOutOfRange ∷ bytes4 0 0 0 0x80 ∷ bytes4 0xFF 0xFF 0xFF 0xFF ∷ [])
  -- "value plus addend, minus the field's address for type 2", which is given, and not computed from the offset
  pub sums : map (λ (t : ℕ). fill_at t 4 0 7 3 (negsuc 1)) (2 ∷ 10 ∷ 11 ∷ 23 ∷ []) ≡ bytes4 0xFA 0xFF 0xFF 0xFF ∷ replicate 3 (bytes4 1 0 0 0)
  -- "wrapping at 2^64": no refusal
  pub wraps :
      fill_at 10 4 0 0 (2 ^ 64 - 2 ^ 40) (pos (2 ^ 40 + 4)) ∷ fill_at 11 4 0 0 (2 ^ 63) (negsuc (2 ^ 63 - 1)) ∷ fill_at 2 4 0 (2 ^ 64 - 1) 0 (pos 0) ∷ []
      ≡ bytes4 4 0 0 0 ∷ bytes4 0 0 0 0 ∷ bytes4 1 0 0 0 ∷ []
  -- "It writes four bytes, low byte first, and no others": up to the section's very end
  pub ends :
      map (λ (at : ℕ). fill_at 23 8 at 0 0x1234 (pos 0)) (3 ∷ 4 ∷ 5 ∷ [])
      ≡ Ok (filled (lent 3 ++ (0x34 ∷ 0x12 ∷ 0 ∷ 0 ∷ 0xA5 ∷ []))) ∷ Ok (filled (lent 4 ++ (0x34 ∷ 0x12 ∷ 0 ∷ 0 ∷ []))) ∷ Err FieldNotInside ∷ []
  -- "A refusal gives its number alone"; none "leave the section unchanged"
  pub kept :
      map (after_filling (lent 4)) (map Err (SectionTooLong ∷ OffsetAboveLength ∷ UnknownType ∷ FieldNotInside ∷ ValueOutOfRange ∷ []) ++ (Ok unfilled ∷ fill4 10 0 ∷ []))
      ≡ replicate 6 (lent 4) ++ (replicate 4 0 ∷ [])
