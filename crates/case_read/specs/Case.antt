-- Which record the code's case stands for: a clause reads its section's bytes. Assumes nothing.
use Rattle.std.specs.Prelude.{Ok, Err}
use Rattle.rules.specs.Answer.{Answer}
use Rattle.case_read.specs.Record.{Record}
use Rattle.case_read.specs.declared.case.Case.{Case}

abbrev pub record_of : Case → Record
record_of c = record { rel = c.rel; section = c.section.now }

-- a refusal stands for itself
abbrev pub answer_of : Answer Case → Answer Record
answer_of (Ok c) = Ok (record_of c)
answer_of (Err e) = Err e
