-- Document 02, card 3: a constant table of 256 bytes. Assumes nothing.
use Rattle.std.specs.Prelude.{◌≡◌, List, ℕ, ◌<◌, get_or}
use Rattle.rules.specs.Rewrite.{direct}

-- entry m of a table
abbrev pub entry : List ℕ → ℕ → ℕ
entry table m = get_or table m 0

-- "entry m is C0 plus the register field of m"
pub record RegisterForms (table : List ℕ) : Type 0 where
  pub rule : (m : ℕ) → m < 256 → entry table m ≡ direct 0 m
