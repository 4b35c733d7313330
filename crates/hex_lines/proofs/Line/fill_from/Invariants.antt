-- The bytes passed are the line's.
use Rattle.std.proofs.Common.{◌≡◌, ◌≤◌, length, take}
use Rattle.hex_lines.specs.Hex.{bytes_from}
use Rattle.hex_lines.proofs.Line.fill_from.Given as goal

abbrev pub invariant-loop-k : goal.invariant-loop-k
invariant-loop-k l = (l.k ≤ length l.out) × (take l.k l.out ≡ bytes_from l.self.digits.now l.at l.k)
