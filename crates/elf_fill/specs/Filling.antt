-- The code's answer of filling as the rules have it: the bytes are in the section. Assumes nothing.
use Rattle.std.specs.Prelude.{Bool, true, false, Result, Ok, Err}
use Rattle.rules.specs.Answer.{Answer}
use Rattle.rules.specs.Fill.{Fill, unfilled, filled}
use Rattle.refusal.specs.declared.Refusal.{Refusal}

-- whether the field was filled
abbrev pub filling_of : Answer Fill → Result Bool Refusal
filling_of (Ok unfilled) = Ok false
filling_of (Ok (filled new)) = Ok true
filling_of (Err n) = Err n
