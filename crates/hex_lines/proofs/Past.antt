-- Past a line's end every byte is 0. Assumes nothing.
use Rattle.std.proofs.Common.{◌≡◌, ℕ, ◌/◌, ◌≤◌, List, length, le-ltb}
use Rattle.hex_lines.specs.Hex.{byte_at}

pub byte_past : (s : List ℕ) (i : ℕ) → length s / 2 ≤ i → byte_at s i ≡ 0
unfolding byte_at
byte_past s i past = rw (le-ltb i (length s / 2) past)
