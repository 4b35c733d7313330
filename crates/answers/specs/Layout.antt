-- The code's answers of choosing, rewriting and relaxing in the exported layouts, every field. Assumes nothing.
use Rattle.std.specs.Prelude.{Bool, [], ◌∷◌, pos, eqb, Option, Some, None, Result, Ok, Err}
use Rattle.std.specs.Int.{w64, from_le_bytes}
use Rattle.x86_64_kind.specs.Kinds.{shape_of, skips}
use Rattle.refusal.specs.declared.Refusal.{Refusal}
use Rattle.refusal.specs.Numbers.{number_of}
use Rattle.rules.specs.Answer.{flag}
use Rattle.rules.specs.Choose.{needs_fallback}
use Rattle.elf_x86_64_relaxation.specs.declared.Relaxation.{Relaxation}
use Rattle.x86_64_apply.specs.declared.Moved.{Moved}
use Rattle.relax.specs.declared.Relaxed.{Relaxed}
use Rattle.answers.specs.declared.ChoiceAnswer.{ChoiceAnswer}
use Rattle.answers.specs.declared.MovedAnswer.{MovedAnswer}
use Rattle.answers.specs.declared.RelaxedAnswer.{RelaxedAnswer}

-- the bytes of the head, low byte first: no refusal, chosen, the kind's number, its instruction offset or 0, mandatory, skip the next
-- relocation, needs a GOT fallback, and 0
abbrev pub chosen_layout : Relaxation → ChoiceAnswer
chosen_layout x =
    record {
      head =
          from_le_bytes w64
          (0 ∷ 1 ∷ (shape_of x.kind).number ∷ (shape_of x.kind).inst_offset
          ∷ flag x.mandatory ∷ flag (skips x.kind) ∷ flag (needs_fallback x.new_type) ∷ 0 ∷ []);
      new_type = x.new_type;
    }

-- a refusal's number is below 2 ^ 8: byte 0 of the head
abbrev pub refused_layout : Refusal → ChoiceAnswer
refused_layout e = record { head = number_of e; new_type = 0 }

abbrev pub choice_layout : Result (Option Relaxation) Refusal → ChoiceAnswer
choice_layout (Ok (Some x)) = chosen_layout x
choice_layout (Ok None) = record { head = 0; new_type = 0 }
choice_layout (Err e) = refused_layout e

-- whether it is none's: a choice has a 1 in its head, a refusal its number, which isn't 0
abbrev pub is_none : ChoiceAnswer → Bool
is_none a = eqb a.head 0

abbrev pub moved_layout : Result Moved Refusal → MovedAnswer
moved_layout (Ok m) = record { refusal = 0; offset = m.offset; addend = m.addend }
moved_layout (Err e) = record { refusal = number_of e; offset = 0; addend = pos 0 }

abbrev pub relaxed_layout : Result (Option Relaxed) Refusal → RelaxedAnswer
relaxed_layout (Ok (Some x)) = record { choice = chosen_layout x.relaxation; offset = x.moved.offset; addend = x.moved.addend }
relaxed_layout (Ok None) = record { choice = choice_layout (Ok None); offset = 0; addend = pos 0 }
relaxed_layout (Err e) = record { choice = refused_layout e; offset = 0; addend = pos 0 }
