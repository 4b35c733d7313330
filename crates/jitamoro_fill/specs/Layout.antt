-- The code's answer of filling in the exported layout, both fields. Assumes nothing.
use Rattle.std.specs.Prelude.{Bool, false, Result, Ok, Err}
use Rattle.refusal.specs.declared.Refusal.{Refusal}
use Rattle.refusal.specs.Numbers.{number_of}
use Rattle.jitamoro_fill.specs.declared.FilledAnswer.{FilledAnswer}

abbrev pub filled_layout : Result Bool Refusal → FilledAnswer
filled_layout (Ok b) = record { refusal = 0; filled = b }
filled_layout (Err e) = record { refusal = number_of e; filled = false }
