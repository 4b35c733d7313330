-- One byte more of a line. Assumes nothing.
use Rattle.std.proofs.Common.{◌≡◌, ℕ, ◌+◌, ◌<◌, List, [], ◌∷◌, ◌++◌, length, take, slice_set, refl, zero-add}
use Rattle.std.proofs.lemmas.List.{take_more_set}
use Rattle.std.proofs.lemmas.List.FromFn.{map-range_with_len_more}
use Rattle.hex_lines.specs.Hex.{byte_at, bytes_from}

pub byte_more : (s out : List ℕ) (at k y : ℕ) → k < length out → take k out ≡ bytes_from s at k → y ≡ byte_at s (at + k) → take (k + 1) (slice_set out k y) ≡ bytes_from s at (k + 1)
byte_more s out at k y h e b =
    rw (take_more_set out k y h, map-range_with_len_more (λ j. byte_at s (at + j)) 0 k k (zero-add k), e, b) refl
