-- The arithmetic of a filled field: one lemma on wrap and sign serves every PC-relative kind (`back`, `signed_low`), one on sign extension
-- every absolute kind (`signed_low`).
-- Assumes nothing.
use mathlib.Core.Path.{◌≡◌, subst}
use mathlib.Core.Bool.{Bool, true, false, cond}
use Prim.Native.Nat.{ℕ, ◌+◌, ◌-◌, ◌/◌, ◌%◌, ◌^◌, ◌<◌}
use native.Mathlib.Omega.{arith}
use native.Mathlib.Nat.{mod-mod, div-one, div-div-eq-div-mul, mod-eq_of_lt}
use lib.Dec.{T, ltb, eqb→eq}
use Rattle.rules.specs.Machine.{word, signed32, field4, read4, read8}
use Rattle.rules.specs.Range.{Sign, signed, unsigned, contains, byte_range, signed64, read_back}
use Rattle.rules.proofs.Widths.{four, keeps, low_part}

pub field4-bytes : (x : ℕ) → field4 (x / 256 ^ 0 % 256) (x / 256 ^ 1 % 256) (x / 256 ^ 2 % 256) (x / 256 ^ 3 % 256) ≡ x % 2 ^ 32
unfolding field4
field4-bytes x = simp (mod-mod, div-one) (rw (div-div-eq-div-mul x 256 256, div-div-eq-div-mul x 65536 256) at ((low_part 4).reads x))

pub field4-lt : (a b c d : ℕ) → field4 a b c d < 2 ^ 32
unfolding field4
field4-lt a b c d = omega arith

pub read4-lt : (m : ℕ → ℕ) (a : ℕ) → read4 m a < 2 ^ 32
unfolding read4
read4-lt m a = field4-lt _ _ _ _

pub read8-lt : (m : ℕ → ℕ) (a : ℕ) → read8 m a < 2 ^ 64
unfolding read8
read8-lt m a = omega (arith, read4-lt m a, read4-lt m (a + 4))

pub read8-low : (m : ℕ → ℕ) (a : ℕ) → read8 m a % 2 ^ 32 ≡ read4 m a
unfolding read8
read8-low m a = omega (arith, read4-lt m a, read4-lt m (a + 4))

-- the low four bytes of a number of the range of types 2, 11 and 23, read as signed, are the number again: the fact of the widths, at 4
pub signed_low : (x : ℕ) → x < word → T (contains (byte_range 4 signed) (signed64 x)) → signed32 (x % 2 ^ 32) ≡ x
signed_low x h t = eqb→eq (signed32 (x % 2 ^ 32)) x (subst T ((keeps four signed).keeps x h) t)

-- four bytes that are read are the low part of what is read
pub read_low : (s : Sign) (b : ℕ) → b < 2 ^ 32 → read_back 4 s b % 2 ^ 32 ≡ b
unfolding read_back
read_low signed b h = go (ltb b (2 ^ 31)) where
  go : (c : Bool) → cond c b (b + (2 ^ 64 - 2 ^ 32)) % 2 ^ 32 ≡ b
  go true = omega arith
  go false = omega arith
read_low unsigned b h = omega arith

-- next + field is v again, where the field holds v - 4 - p, p is the field's address, and next is p + 4
pub back : (v p q : ℕ) → v < word → q ≡ (p + 4) % word
    → (q + (v + (word - 4) + (word - p % word)) % word) % word ≡ v
back v p q h e = omega arith

pub read8-mod : (m : ℕ → ℕ) (a : ℕ) → read8 m a % word ≡ read8 m a
read8-mod m a = mod-eq_of_lt (read8-lt m a)
