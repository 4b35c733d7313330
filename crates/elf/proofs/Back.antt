-- A range of the rules is what its code form stands for, so the one fact of the widths holds of that form.
-- Assumes nothing.
use mathlib.Core.Path.{◌≡◌, refl}
use Rattle.rules.specs.Range.{Range, within, unchecked, byte_range, Keeps}
use Rattle.rules.proofs.Widths.{Width, one, two, four, eight, keeps}
use Rattle.elf.specs.declared.AllowedRange.{AllowedRange}
use Rattle.elf.specs.declared.Sign.{Sign}
use Rattle.elf.specs.declared.ByteWidth.{ByteWidth}
use Rattle.elf.specs.declared.ByteWidth.TheVariants.{One, Two, Four, Eight}
use Rattle.elf.specs.Elf.{range_from, range_of, width_of, sign_of}

pub range_back : (r : Range) → range_of (range_from r) ≡ r
range_back (within min max) = refl
range_back unchecked = refl

width : (n : ByteWidth) → Width (width_of n)
width One = one
width Two = two
width Four = four
width Eight = eight

pub field_keeps : (n : ByteWidth) (s : Sign) (r : AllowedRange) → r ≡ range_from (byte_range (width_of n) (sign_of s)) → Keeps (width_of n) (sign_of s) (range_of r)
field_keeps n s r e = rw (e, range_back (byte_range (width_of n) (sign_of s))) (keeps (width n) (sign_of s))
