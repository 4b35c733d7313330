-- What a window that lies inside says of the offset and the length.
-- Assumes nothing.
use mathlib.Core.Path.{◌≡◌}
use mathlib.Core.Bool.{true}
use Prim.Native.Nat.{ℕ, ◌≤◌}
use lib.Dec.{leb}
use borrow.Author.Tests.{leb-true}
use Rattle.std.proofs.lemmas.Bool.{and_parts}
use Rattle.x86_64_kind.specs.declared.Window.{Window}
use Rattle.x86_64_kind.specs.Kinds.{end, inside}

pub within : (w : Window) (len off : ℕ) → inside w len off ≡ true → (w.back ≤ off) × (end w off ≤ len)
within w len off e =
    let h = and_parts (leb w.back off) (leb (end w off) len) e in
    (leb-true w.back off h.0, leb-true (end w off) len h.1)
