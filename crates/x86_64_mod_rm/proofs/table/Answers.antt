-- One test over the whole table, which the checker computes, and the rule at each entry.
-- Assumes nothing.
use Rattle.std.proofs.Common.{List, ℕ}
use Rattle.std.specs.Prelude.{T, eqb}
use native.Mathlib.Omega.{arith}
use Rattle.rules.specs.Rewrite.{direct}
use Rattle.laws.proofs.Bytes.{every, same}
use Rattle.x86_64_mod_rm.specs.Table.{entry, RegisterForms}
use Rattle.x86_64_mod_rm.proofs.table.Goals as goal

tested : {table : List ℕ} → T (every (λ m. eqb (entry table m) (direct 0 m)) 256) → RegisterForms table
tested {table} test = record { rule = λ m h. same (entry table) (direct 0) test m (omega arith) }

pub returns : goal.returns
returns c = tested tt
