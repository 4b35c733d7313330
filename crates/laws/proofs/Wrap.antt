-- Differences that wrap at 2^64.
-- Assumes nothing.
use mathlib.Core.Path.{◌≡◌}
use Prim.Native.Nat.{ℕ, ◌+◌, ◌-◌, ◌%◌, ◌^◌, ◌<◌}
use native.Mathlib.Omega.{arith}

-- a number that b added to gives a is a − b
pub wraps : (r a b : ℕ) → r < 2 ^ 64 → (r + b) % 2 ^ 64 ≡ a % 2 ^ 64 → r ≡ (a + (2 ^ 64 - b % 2 ^ 64)) % 2 ^ 64
wraps r a b h e = omega arith
