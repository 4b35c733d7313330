-- The code's `OutputKind` in document 01's numbers. Assumes nothing.
use Rattle.std.specs.Prelude.{◌≡◌, ℕ, Result, Ok, Err}
use Rattle.refusal.specs.declared.Refusal.{Refusal}
use Rattle.rules.specs.Answer.{Answer}
use Rattle.rules.specs.Record.{output_kind_of}
use Rattle.output_kind.specs.declared.RelocationModel.TheVariants.{Fixed, PositionIndependent}
use Rattle.output_kind.specs.declared.OutputKind.{OutputKind}
use Rattle.output_kind.specs.declared.OutputKind.TheVariants.{StaticExecutable, DynamicExecutable, SharedObject, PartialLink}

-- 0 static fixed, 1 static position-independent, 2 dynamic fixed, 3 dynamic position-independent, 4 shared object, 5 partial link
abbrev pub output_number : OutputKind → ℕ
output_number (StaticExecutable Fixed) = 0
output_number (StaticExecutable PositionIndependent) = 1
output_number (DynamicExecutable Fixed) = 2
output_number (DynamicExecutable PositionIndependent) = 3
output_number SharedObject = 4
output_number PartialLink = 5

abbrev pub output_answer : Result OutputKind Refusal → Answer ℕ
output_answer (Ok kind) = Ok (output_number kind)
output_answer (Err n) = Err n

-- what a number gives
abbrev pub Read : ℕ → Result OutputKind Refusal → Type 0
Read n r = output_answer r ≡ output_kind_of n
