-- The code's choice, as the rules have it. Assumes nothing.
use Rattle.std.specs.Prelude.{Bool, ℕ, Option, Some, None, Result, Ok, Err}
use Rattle.x86_64_kind.specs.declared.RelaxationKind.{RelaxationKind}
use Rattle.rules.specs.Answer.{Answer}
use Rattle.rules.specs.Choose.{none, chosen}
use Rattle.elf_x86_64_relaxation.specs.declared.Relaxation.{Relaxation}
use Rattle.refusal.specs.declared.Refusal.{Refusal}
use Rattle.rules.specs.Choose as rules

-- a kind with its new type, and whether it is mandatory
abbrev pub relaxation : RelaxationKind → ℕ → Bool → Relaxation
relaxation k t m = record { kind = k; new_type = t; mandatory = m }

abbrev pub option_of : rules.Choice → Option Relaxation
option_of none = None
option_of (chosen k t m) = Some (relaxation k t m)

abbrev pub choice_of : Answer rules.Choice → Result (Option Relaxation) Refusal
choice_of (Ok c) = Ok (option_of c)
choice_of (Err n) = Err n
