-- What is left to store, stored, makes the whole.
use Rattle.std.proofs.Common.{◌≡◌, ◌-◌, length}
use Rattle.std.proofs.lemmas.List.Edits.{sets}
use Rattle.rules.specs.Range.{low_first}
use Rattle.elf.proofs.write_low_first.Given as goal

abbrev pub invariant-loop-byte : goal.invariant-loop-byte
invariant-loop-byte l =
    sets l.byte-items l.byte-index (low_first (length l.fn.output - l.byte-index) l.rest) ≡ low_first (length l.fn.output) l.value
