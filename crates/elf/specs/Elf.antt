-- The code's types of elf.rs as the rules have them. Assumes nothing.
use Rattle.std.specs.Prelude.{true, false, cond, List, [], ◌∷◌, ℕ, pos, Ok, Err}
use Rattle.rules.specs.Answer.{Answer}
use Rattle.rules.specs.Range as rules
use Rattle.rules.specs.Range.{Range, within, unchecked, signed, unsigned}
use Rattle.rules.specs.Types.{Row}
use Rattle.rules.specs.Fill.{Fill}
use Rattle.elf.specs.declared.Sign.{Sign}
use Rattle.elf.specs.declared.Sign.TheVariants.{Signed, Unsigned}
use Rattle.elf.specs.declared.ByteWidth.{ByteWidth}
use Rattle.elf.specs.declared.ByteWidth.TheVariants.{One, Two, Four, Eight}
use Rattle.elf.specs.declared.AllowedRange.{AllowedRange}
use Rattle.elf.specs.declared.DynamicRelocationKind.{DynamicRelocationKind}
use Rattle.elf.specs.declared.DynamicRelocationKind.TheVariants as dynamic
use Rattle.elf.specs.declared.RelocationKindInfo.{RelocationKindInfo}

abbrev pub sign_of : Sign → rules.Sign
sign_of Signed = signed
sign_of Unsigned = unsigned

abbrev pub width_of : ByteWidth → ℕ
width_of One = 1
width_of Two = 2
width_of Four = 4
width_of Eight = 8

-- a range as the code has it: a flag, and the ends or 0
abbrev pub range_from : Range → AllowedRange
range_from (within min max) = record { checked = true; min = min; max = max }
range_from unchecked = record { checked = false; min = pos 0; max = pos 0 }

-- the range that any value of the code's type stands for
abbrev pub range_of : AllowedRange → Range
range_of r = cond r.checked (within r.min r.max) unchecked

-- the answer of writing a field, which fills or refuses: the bytes are in the buffer
abbrev pub written_of : Answer Fill → Answer Unit
written_of (Ok f) = Ok tt
written_of (Err n) = Err n

-- the kinds of dynamic relocations in the Rust's order
abbrev pub dynamic_kinds : List DynamicRelocationKind
dynamic_kinds =
    dynamic.Copy ∷ dynamic.Irelative ∷ dynamic.DtpMod ∷ dynamic.DtpOff ∷ dynamic.TlsDesc ∷ dynamic.TpOff ∷ dynamic.Relative ∷ dynamic.Absolute
    ∷ dynamic.GotEntry ∷ dynamic.JumpSlot ∷ []

-- a kind's place in the Rust's order, from 0
abbrev pub dynamic_number : DynamicRelocationKind → ℕ
dynamic_number dynamic.Copy = 0
dynamic_number dynamic.Irelative = 1
dynamic_number dynamic.DtpMod = 2
dynamic_number dynamic.DtpOff = 3
dynamic_number dynamic.TlsDesc = 4
dynamic_number dynamic.TpOff = 5
dynamic_number dynamic.Relative = 6
dynamic_number dynamic.Absolute = 7
dynamic_number dynamic.GotEntry = 8
dynamic_number dynamic.JumpSlot = 9

-- a row of the lookup as the code has it, with what is the same in every row
abbrev pub info_from : Row → RelocationKindInfo
info_from r =
    record {
      kind = r.kind;
      size = record { byte_size = r.size };
      mask = false;
      range = range_from r.range;
      alignment = 1;
      bias = false;
      thunkable = false;
      implicit_addend = false;
    }
