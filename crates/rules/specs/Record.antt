-- Document 01, 'A record comes in' and the letters of 'Choosing': a record, which is the code's own struct, and what the rules ask of a flag
-- number and of an output kind; refusals 1 to 4. Assumes nothing.
use Rattle.std.specs.Prelude.{Bool, not, cond, ◌&&◌, ◌||◌, List, ℕ, ◌/◌, ◌%◌, eqb, leb, ltb, ℤ, length, Ok, Err}
use Rattle.rules.specs.declared.Relocation.{Relocation}
use Rattle.rules.specs.Answer.{Answer}
use Rattle.refusal.specs.declared.Refusal.TheVariants.{SectionTooLong, FlagNumber, OutputKindNumber}
use Rattle.refusal.specs.declared.Refusal.{Refusal}

-- "A record has a type number .., an offset, a flag number .., an output kind, an executable yes/no, a symbol address .. and a signed addend"
abbrev pub relocation : ℕ → ℕ → ℕ → ℕ → Bool → ℕ → ℤ → Relocation
relocation t o f k x v a =
    record { r_type = t; offset = o; flags = f; output_kind = k; executable = x; address = v; addend = a }

-- the longest section that is taken, and the refusal of a longer one
pub record Limit : Type 0 where
  pub most : ℕ
  pub refusal : Refusal

-- 1: "section longer than 268,435,456"
abbrev pub link_limit : Limit
link_limit = record { most = 268435456; refusal = SectionTooLong }

abbrev pub too_long : Limit → List ℕ → Bool
too_long l sec = ltb l.most (length sec)

-- 2: "offset above the length"
abbrev pub past : List ℕ → ℕ → Bool
past sec off = ltb (length sec) off

-- ---- "a flag number (1 non-interposable, 2 absolute, 4 dynamic, 8 ifunc, summed)"

-- 3: "flag number above 15"
abbrev pub flags_above : ℕ → Bool
flags_above n = ltb 15 n

unfoldable pub flag_number : ℕ → Answer ℕ
flag_number n = cond (flags_above n) (Err FlagNumber) (Ok n)

-- whether the flag of a weight is among the summands
abbrev pub has : ℕ → ℕ → Bool
has weight flags = eqb (flags / weight % 2) 1

abbrev pub absolute : ℕ → Bool
absolute = has 2

abbrev pub dynamic : ℕ → Bool
dynamic = has 4

abbrev pub ifunc : ℕ → Bool
ifunc = has 8

-- "N: non-interposable"
abbrev pub is_n : ℕ → Bool
is_n = has 1

-- "A: absolute and not dynamic"
abbrev pub is_a : ℕ → Bool
is_a flags = absolute flags && not (dynamic flags)

-- "K: none of ifunc, dynamic, absolute"
abbrev pub is_k : ℕ → Bool
is_k flags = not (ifunc flags) && not (dynamic flags) && not (absolute flags)

-- ---- "Output kinds: 0 static fixed, 1 static position-independent, 2 dynamic fixed, 3 dynamic position-independent, 4 shared object, 5 partial link"

-- 4: "output kind above 5"
abbrev pub kind_above : ℕ → Bool
kind_above n = ltb 5 n

unfoldable pub output_kind_of : ℕ → Answer ℕ
output_kind_of n = cond (kind_above n) (Err OutputKindNumber) (Ok n)

-- "F: kind 0 or 2"
abbrev pub is_f : ℕ → Bool
is_f kind = eqb kind 0 || eqb kind 2

-- "S: kind 0 or 1"
abbrev pub is_s : ℕ → Bool
is_s kind = eqb kind 0 || eqb kind 1

-- "E: kinds 0 to 3"
abbrev pub is_e : ℕ → Bool
is_e kind = leb kind 3

-- "P: kinds 1, 3, 4"
abbrev pub is_p : ℕ → Bool
is_p kind = eqb kind 1 || eqb kind 3 || eqb kind 4
