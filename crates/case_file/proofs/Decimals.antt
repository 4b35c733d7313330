-- A number's decimal text is std's. Assumes nothing.
use Rattle.std.proofs.Common.{◌≡◌, ℕ, suc, ◌+◌, ◌^◌, ◌<◌, rules, ap, ◌∷◌, List, pos, negsuc, ℤ, sym, lit<, arith}
use Rattle.std.proofs.lemmas.Fmt.{decimal_from_appends, length-decimal-le}
use Rattle.case_file.specs.Text.{decimal_in, decimal, signed_decimal}
use Rattle.std.specs.Fmt as std
use lib.Signed.{mag}

pub decimals : (n : ℕ) → n < 2 ^ 64 → std.decimal n ≡ decimal n
unfolding decimal
decimals n h = sym (decimal_from_appends decimal_in (search rules) 20 n h (length-decimal-le 20 n (lit< tt) (omega arith) h))

pub signed_decimals : (z : ℤ) → mag z + 1 < 2 ^ 64 → std.signed_decimal z ≡ signed_decimal z
unfolding signed_decimal
signed_decimals (pos n) h = decimals n (omega arith)
signed_decimals (negsuc n) h = ap (λ (t : List ℕ). 45 ∷ t) (decimals (suc n) (omega arith))
