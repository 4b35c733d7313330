-- Numbers and bytes as document 01's 'Case file' writes them, in ASCII. Assumes nothing.
use Rattle.std.specs.Prelude.{cond, List, [], ◌∷◌, ◌++◌, ℕ, zero, suc, ◌+◌, ◌/◌, ◌%◌, eqb, ltb, length, ℤ, pos, negsuc}
use Rattle.hex.specs.Hex.{encode_lower}

-- "all other fields are decimal": the most significant digit first, with no zero in front; k digits at most, and a number of 64 bits has 20 at most
abbrev pub decimal_in : ℕ → ℕ → List ℕ
decimal_in zero n = []
decimal_in (suc k) n = cond (ltb n 10) ((48 + n) ∷ []) (decimal_in k (n / 10) ++ ((48 + n % 10) ∷ []))

unfoldable pub decimal : ℕ → List ℕ
decimal n = decimal_in 20 n

-- a minus sign before a negative one
unfoldable pub signed_decimal : ℤ → List ℕ
signed_decimal (pos n) = decimal n
signed_decimal (negsuc n) = 45 ∷ decimal (suc n)

-- "Hex is in small letters, "-" for an empty section"
unfoldable pub hex : List ℕ → List ℕ
hex s = cond (eqb (length s) 0) (45 ∷ []) (encode_lower s)

-- a word and a space
unfoldable pub spaced : List ℕ → List ℕ
spaced word = word ++ (32 ∷ [])
