-- The code's answer of rewriting, as the rules have it, and the parts of it. Assumes nothing.
use Rattle.std.specs.Prelude.{cond, ℕ, ◌+◌, ℤ, pos, Result, Ok, Err}
use Rattle.x86_64_kind.specs.declared.Shape.{Shape}
use Rattle.x86_64_kind.specs.Kinds.{begin, inside}
use Rattle.rules.specs.Answer.{Answer}
use Rattle.refusal.specs.declared.Refusal.TheVariants.{WindowNotInside}
use Rattle.rules.specs.Rewrite.{Rewritten}
use Rattle.refusal.specs.declared.Refusal.{Refusal}
use Rattle.x86_64_apply.specs.declared.Moved.{Moved}

-- the code's answer; the bytes are in the section
abbrev pub applied_of : Answer Rewritten → Result Moved Refusal
applied_of (Ok r) = Ok (record { offset = r.offset; addend = r.addend })
applied_of (Err n) = Err n

-- ---- past 1, 2 and 5

-- 6, or the field where a shape says, in a section of a length
abbrev pub moved_by : Shape → ℕ → ℕ → ℤ → Result Moved Refusal
moved_by s len off a =
    cond (inside s.window len off) (Ok (record { offset = begin s.window off + s.field; addend = cond s.clears (pos 0) a })) (Err WindowNotInside)
