-- The calls so far, one for each line.
use Rattle.std.proofs.Common.{◌≡◌, length}
use Rattle.std.specs.List.{FoldsTo}
use Rattle.hex_lines.proofs.for_each_line.Given as goal

abbrev pub invariant-loop-turn : goal.invariant-loop-turn
invariant-loop-turn g l =
    goal.F-IsAlwaysCallable g l.each
    × ((lines : _) × FoldsTo (λ p x q. goal.F-step g p x tt q) l.fn.each lines l.each × (length lines ≡ l.turn))
