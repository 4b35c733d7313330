-- The code's answers, as 'The pass above' has them, and the parts of a step. Assumes nothing.
use Rattle.std.specs.Prelude.{cond, List, ℕ, ltb, Some, None, Result, Ok, Err}
use Rattle.x86_64_kind.specs.Kinds.{begin, end, is_empty, inside}
use Rattle.rules.specs.declared.Relocation.{Relocation}
use Rattle.rules.specs.Answer.{Answer}
use Rattle.rules.specs.Rewrite.{unrelaxed, relaxed, claims}
use Rattle.refusal.specs.declared.Refusal.{Refusal}
use Rattle.refusal.specs.declared.Refusal.TheVariants.{WindowOverlap}
use Rattle.elf_x86_64_relaxation.specs.declared.Relaxation.{Relaxation}
use Rattle.elf_x86_64_relaxation.specs.Choices.{relaxation}
use Rattle.relax.specs.Answers.{moved}
use Rattle.pass.specs.declared.Pass.{Pass}
use Rattle.pass.specs.declared.Step.{Step}
use Rattle.pass.specs.declared.Stepped.{Stepped}
use Rattle.pass.specs.declared.Ended.{Ended}
use Rattle.pass.specs.declared.Step.TheVariants.{Took, Skipped}
use Rattle.pass.specs.Pass.{Accepted, took, skipped, stepping, pass_left, bytes_after, ending, ended_pass}

-- a record that is accepted
abbrev pub accepted_of : Accepted → Step
accepted_of (took unrelaxed) = Took None
accepted_of (took (relaxed k t m x)) = Took (Some (record { relaxation = relaxation k t m; moved = moved x }))
accepted_of skipped = Skipped

abbrev pub step_of : Answer Accepted → Result Step Refusal
step_of (Ok a) = Ok (accepted_of a)
step_of (Err n) = Err n

-- what a step answers, the pass in it, and the section it leaves
pub record Taken : Type 0 where
  pub stepped : Stepped
  pub section : List ℕ

abbrev pub taken : Stepped → List ℕ → Taken
taken s new = record { stepped = s; section = new }

unfoldable pub step : Pass → List ℕ → Relocation → Taken
step p sec r =
    let a = stepping p sec r in
    taken (record { pass = pass_left p r a; step = step_of a }) (bytes_after sec a)

-- what an ending answers, with the pass
abbrev pub ended : Pass → Ended
ended p = record { pass = ended_pass p (ending p); end = ending p }

-- ---- the parts of a step

-- what `accept` answers, and the section it leaves
abbrev pub accepting : Pass → List ℕ → Relocation → Answer Accepted → Answer (Pass × Step) × List ℕ
accepting p sec r (Ok a) = (Ok (pass_left p r (Ok a), accepted_of a), bytes_after sec (Ok a))
accepting p sec r (Err n) = (Err n, bytes_after sec (Err n))

-- 23, or the window's end once the record is relaxed; a window that isn't inside is left to relaxing
abbrev pub placed : Pass → Relaxation → ℕ → ℕ → Answer ℕ
placed p x len off =
    let w = claims x.kind x.new_type in
    cond (inside w len off)
    (cond (is_empty w) (Ok p.window) (cond (ltb (begin w off) p.window) (Err WindowOverlap) (Ok (end w off))))
    (Ok p.window)
