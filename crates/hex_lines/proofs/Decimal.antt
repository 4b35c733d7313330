-- The decimal digits that are printed of a number say it. Assumes nothing.
use native.Mathlib.Numerals.{unary_clauses}
use Rattle.io.specs.Digits.{IsDigitCount, hex_digit_ascii}
use Rattle.std.proofs.Common.{◌≡◌, ℕ, zero, suc, ◌+◌, ◌/◌, ◌%◌, ◌^◌, ◌<◌, ◌≤◌, List, [], ◌∷◌, ◌++◌, length, arith, ap, length-append, decimal}
use Rattle.std.proofs.Math.Nat.{pow-suc}
use Rattle.std.proofs.lemmas.Bool.{lt-ltb}
use Rattle.std.proofs.lemmas.Fmt.{decimal_by_steps}
use Rattle.hex_lines.specs.Hex.{Says}

glyph : (d : ℕ) → d < 10 → hex_digit_ascii d ≡ 48 + d
glyph d small = rw (lt-ltb d 10 small)

one : (n : ℕ) → n < 10 → Says ((48 + n) ∷ []) n
one n small = record {
  few = (omega arith, omega arith, λ more. absurd (omega arith));
  text = let e : n % 10 ≡ n = omega arith in rw (glyph (n % 10) (omega arith), e);
}

few_more : (k n : ℕ) → 10 ≤ n → IsDigitCount 10 1 (n / 10) k → IsDigitCount 10 1 n (suc k)
few_more zero n big said = absurd (omega arith)
few_more (suc zero) n big said = (omega arith, omega arith, λ long. big)
few_more (suc (suc k)) n big said =
    let least = simp unary_clauses at (said.2 (omega arith)) in
    (omega arith, omega (arith, pow-suc 10 (suc (suc k))), λ long. simp unary_clauses (omega (arith, pow-suc 10 (suc k))))

more : (n : ℕ) (ds : List ℕ) → 10 ≤ n → Says ds (n / 10) → Says (ds ++ (48 + n % 10) ∷ []) n
more n ds big said =
    let long : length (ds ++ (48 + n % 10) ∷ []) ≡ suc (length ds) = omega (arith, length-append ds ((48 + n % 10) ∷ [])) in
    record {
      few = rw long (few_more (length ds) n big said.few);
      text = rw (long, glyph (n % 10) (omega arith)) (ap (λ t. t ++ (48 + n % 10) ∷ []) said.text);
    }

pub decimal_says : (n : ℕ) → n < 2 ^ 64 → Says (decimal n) n
decimal_says n h = decimal_by_steps (λ m ds. Says ds m) one more n h
