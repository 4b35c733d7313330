-- Document 01, 'Case file': what a record says. Assumes nothing.
use Rattle.std.specs.Prelude.{List, ℕ}
use Rattle.rules.specs.declared.Relocation.{Relocation}

-- "a record .., then the section"
pub record Record : Type 0 where
  pub rel : Relocation
  pub section : List ℕ
