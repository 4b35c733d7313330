-- The code's `ValueFlags` in document 01's numbers. Assumes nothing.
use Rattle.std.specs.Prelude.{◌≡◌, ℕ, Result, Ok, Err}
use Rattle.refusal.specs.declared.Refusal.{Refusal}
use Rattle.rules.specs.Answer.{Answer}
use Rattle.rules.specs.Record.{flag_number}
use Rattle.value_flags.specs.declared.ValueFlags.{ValueFlags}

abbrev pub flags_answer : Result ValueFlags Refusal → Answer ℕ
flags_answer (Ok flags) = Ok flags.bits
flags_answer (Err n) = Err n

-- what a number gives
abbrev pub Read : ℕ → Result ValueFlags Refusal → Type 0
Read n r = flags_answer r ≡ flag_number n
