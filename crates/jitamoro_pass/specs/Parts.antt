-- The parts of a plain record's step. Assumes nothing.
use Rattle.std.specs.Prelude.{Bool, not, ◌&&◌, ℕ, leb}
use Rattle.pass.specs.declared.Pass.{Pass}

-- neither ended nor with a skip pending, and the offset doesn't fall
abbrev pub calm : Pass → ℕ → Bool
calm p off = not p.ended && not p.skip && leb p.last off
