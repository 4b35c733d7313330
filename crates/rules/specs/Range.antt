-- Document 01's ranges of a 64-bit value: "a range means min ≤ v < max .. and the unchecked range any v". Assumes nothing.
use Rattle.std.specs.Prelude.{Bool, true, cond, ◌&&◌, ◌||◌, List, [], ◌∷◌, ◌≡◌, ℕ, zero, suc, ◌+◌, ◌-◌, ◌*◌, ◌/◌, ◌%◌, ◌^◌, ◌<◌, eqb, ltb, ℤ, pos, negsuc}
use Rattle.std.specs.Int.Signed.{le_z, lt_z}

pub data Range : Type 0 where
  within : ℤ → ℤ → Range
  unchecked : Range

-- whether a value lies in a range
abbrev pub contains : Range → ℤ → Bool
contains (within min max) v = le_z min v && lt_z v max
contains unchecked v = true

pub data Sign : Type 0 where
  signed unsigned : Sign

-- bit i of a number
abbrev pub bit : ℕ → ℕ → ℕ
bit x i = x / 2 ^ i % 2

-- −n, of n above 0
abbrev pub minus : ℕ → ℤ
minus n = negsuc (n - 1)

-- the range of a field of w bytes, over the width: no field, or one of 8 bytes, takes any v
unfoldable pub byte_range : ℕ → Sign → Range
byte_range w signed = cond (eqb w 0 || eqb w 8) unchecked (within (minus (2 ^ (8 * w - 1))) (pos (2 ^ (8 * w - 1))))
byte_range w unsigned = cond (eqb w 0 || eqb w 8) unchecked (within (pos 0) (pos (2 ^ (8 * w))))

-- a number below 2^64, read as signed
unfoldable pub signed64 : ℕ → ℤ
signed64 x = cond (ltb x (2 ^ 63)) (pos x) (negsuc (2 ^ 64 - 1 - x))

-- a field of w bytes as a 64-bit number: with its sign, or filled up with zeros
unfoldable pub read_back : ℕ → Sign → ℕ → ℕ
read_back w signed f = cond (ltb f (2 ^ (8 * w - 1))) f (f + (2 ^ 64 - 2 ^ (8 * w)))
read_back w unsigned f = f

-- the one fact of "field widths 1, 2, 4 and 8": a value lies in the range exactly where its low w bytes, read back, are the value
pub record Keeps (w : ℕ) (s : Sign) (r : Range) : Type 0 where
  pub keeps : (x : ℕ) → x < 2 ^ 64 → contains r (signed64 x) ≡ eqb (read_back w s (x % 2 ^ (8 * w))) x

-- "low byte first": the w low bytes of a number, and the number that such bytes are
abbrev pub low_first : ℕ → ℕ → List ℕ
low_first zero x = []
low_first (suc w) x = x % 256 ∷ low_first w (x / 256)

abbrev pub from_low : List ℕ → ℕ
from_low [] = 0
from_low (b ∷ s) = b + 256 * from_low s

-- the fact of a field as it is written, at any width: the bytes, read back, are the number's low part
pub record LowPart (w : ℕ) : Type 0 where
  pub reads : (x : ℕ) → from_low (low_first w x) ≡ x % 2 ^ (8 * w)
