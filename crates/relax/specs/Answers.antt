-- The code's answer of relaxing, as the rules have it. Assumes nothing.
use Rattle.std.specs.Prelude.{◌≡◌, List, ℕ, Ok, Err, Option, Some, None, Result}
use Rattle.rules.specs.declared.Relocation.{Relocation}
use Rattle.rules.specs.Record.{link_limit}
use Rattle.rules.specs.Answer.{Answer}
use Rattle.rules.specs.Rewrite.{Rewritten, unrelaxed, relaxed, relaxing, after_relaxing}
use Rattle.elf_x86_64_relaxation.specs.declared.Relaxation.{Relaxation}
use Rattle.elf_x86_64_relaxation.specs.Choices.{relaxation}
use Rattle.x86_64_apply.specs.declared.Moved.{Moved}
use Rattle.refusal.specs.declared.Refusal.{Refusal}
use Rattle.relax.specs.declared.Relaxed.{Relaxed}
use Rattle.rules.specs.Rewrite as rules

-- where the field lies now, and its addend
abbrev pub moved : Rewritten → Moved
moved x = record { offset = x.offset; addend = x.addend }

-- the code's answer; the bytes are in the section
abbrev pub relaxed_of : Answer rules.Relaxed → Result (Option Relaxed) Refusal
relaxed_of (Ok unrelaxed) = Ok None
relaxed_of (Ok (relaxed k t m x)) = Ok (Some (record { relaxation = relaxation k t m; moved = moved x }))
relaxed_of (Err n) = Err n

-- a choice, with what rewriting by it answered
abbrev pub finished : Relaxation → Result Moved Refusal → Result Relaxed Refusal
finished x (Ok m) = Ok (record { relaxation = x; moved = m })
finished x (Err n) = Err n

-- what relaxing answers where a choice was carried out
abbrev pub done : Result Relaxed Refusal → Result (Option Relaxed) Refusal
done (Ok x) = Ok (Some x)
done (Err n) = Err n

-- an answer, and the section afterwards, are relaxing's
pub record Relaxes (sec : List ℕ) (r : Relocation) (x : Result Relaxed Refusal) (new : List ℕ) : Type 0 where
  pub answer : done x ≡ relaxed_of (relaxing link_limit sec r)
  pub bytes : new ≡ after_relaxing sec (relaxing link_limit sec r)
