-- What a line of hexadecimal digits says, and what a count prints. Assumes nothing.
use Rattle.io.specs.Digits.{last_digits, IsDigitCount}
use Rattle.std.specs.Prelude.{◌≡◌, ℕ, ◌+◌, ◌-◌, ◌*◌, ◌/◌, cond, List, length, map, nat_le, nat_lt, slice_index}
use Rattle.std.specs.List.{range_with_len}

-- the value of a digit '0' to '9' or 'a' to 'f', or 0
unfoldable pub digit_of : ℕ → ℕ
digit_of b =
    cond (nat_lt b 48) 0 (cond (nat_le b 57) (b - 48) (cond (nat_lt b 97) 0 (cond (nat_le b 102) (b - 97 + 10) 0)))

-- the byte whose two digits stand at 2 i and 2 i + 1, or 0 where they aren't both there
unfoldable pub byte_at : List ℕ → ℕ → ℕ
byte_at s i = cond (nat_lt i (length s / 2)) (digit_of (slice_index s (2 * i)) * 16 + digit_of (slice_index s (2 * i + 1))) 0

-- the n bytes from i on
abbrev pub bytes_from : List ℕ → ℕ → ℕ → List ℕ
bytes_from s i n = map (λ k. byte_at s (i + k)) (range_with_len 0 n)

-- numbers of 4 and 8 bytes, low byte first
abbrev pub four_at : List ℕ → ℕ → ℕ
four_at s i =
    byte_at s i + byte_at s (i + 1) * 0x100 + byte_at s (i + 2) * 0x1_0000 + byte_at s (i + 3) * 0x100_0000

abbrev pub eight_at : List ℕ → ℕ → ℕ
eight_at s i = four_at s i + four_at s (i + 4) * 0x1_0000_0000

-- a number's decimal digits: as few as hold it, the most significant first
pub record Says (digits : List ℕ) (n : ℕ) : Type 0 where
  pub few : IsDigitCount 10 1 n (length digits)
  pub text : digits ≡ last_digits 10 (length digits) n
