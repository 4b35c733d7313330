-- The sixteen digits by their codes: one test that the checker computes. Assumes nothing.
use Rattle.std.proofs.Common.{ℕ, ◌≡◌, ◌+◌, ◌%◌, ◌<◌, cond, arith, slice_index}
use Rattle.std.specs.Prelude.{ltb}
use Rattle.hex.specs.Hex.{lower_digits}
use Rattle.laws.proofs.Bytes.{same}

pub digit : (d : ℕ) → d < 16 → cond (ltb d 10) (48 + d) (87 + d) ≡ slice_index lower_digits d
digit d h =
    let e : d % 16 ≡ d = omega arith in
    rw e at (same (λ b. cond (ltb (b % 16) 10) (48 + b % 16) (87 + b % 16)) (λ b. slice_index lower_digits (b % 16)) tt d (omega arith))
